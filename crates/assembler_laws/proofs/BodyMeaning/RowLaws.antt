-- The row of a mnemonic is the row of its number.
use Rattle.std.proofs.Common.{◌≡◌, ℕ, ◌+◌, ◌≤◌, Bool, true, false, ◌&&◌, nat_eq, nat_le, List, [], ◌∷◌, Some, refl, subst, inl, inr, arith}
use Rattle.std.specs.Prelude.{find, bytes_eq}
use Rattle.std.proofs.lemmas.Bool.{and_parts, leb-true, eqb-true, cases_Bool}
use Rattle.std.proofs.lemmas.Bool.Decides.{Decides-eqb}
use Rattle.std.proofs.lemmas.Option.{same_Some}
use Rattle.instructions.specs.Table.{Instruction, table, row_numbered, row_named}
use Rattle.class_names.proofs.Cases.{chosen}

-- two numbers that aren't the same
pub other_number : (m n : ℕ) → (m ≡ n → ⊥) → nat_eq m n ≡ false
other_number m n differ = elim (cases_Bool (nat_eq m n)) [ inl same ↦ absurd (differ (eqb-true m n same)) | inr apart ↦ apart ]

pub same_number : (m n : ℕ) → m ≡ n → nat_eq m n ≡ true
same_number m n same = (Decides-eqb m n).1 same

-- whether the numbers of rows rise, the first of them from this one on
abbrev rise : ℕ → List Instruction → Bool
rise low [] = true
rise low (i ∷ rows) = nat_le low i.number && rise (i.number + 1) rows

record Numbered (low : ℕ) (rows : List Instruction) (row : Instruction) : Type 0 where
  pub high : low ≤ row.number
  pub found : find (λ (i : Instruction). nat_eq i.number row.number) rows ≡ Some row

found_first : (low : ℕ) (row : Instruction) (rows : List Instruction) → low ≤ row.number → Numbered low (row ∷ rows) row
found_first low row rows high = record { high = high; found = rw (same_number row.number row.number refl) refl }

found_later : (low : ℕ) (first row : Instruction) (rows : List Instruction) → low ≤ first.number → Numbered (first.number + 1) rows row → Numbered low (first ∷ rows) row
found_later low first row rows le later =
    let past : first.number + 1 ≤ row.number = later.high in
    let differ : first.number ≡ row.number → ⊥ = λ e. omega arith in
    record { high = omega (arith, le, past); found = rw (other_number first.number row.number differ) later.found }

found_by_number : (p : Instruction → Bool) (low : ℕ) (rows : List Instruction) (row : Instruction) → rise low rows ≡ true → find p rows ≡ Some row → Numbered low rows row
found_by_number p low [] row rising e = absurd cc
found_by_number p low (first ∷ rows) row rising e =
    let both = and_parts (nat_le low first.number) (rise (first.number + 1) rows) rising in
    let le : low ≤ first.number = leb-true low first.number both.0 in
    elim (chosen (p first) (Some first) (find p rows) (Some row) e) [
      | inl here ↦ subst (λ (i : Instruction). Numbered low (first ∷ rows) i) (same_Some first row here.1) (found_first low first rows le)
      | inr there ↦ found_later low first row rows le (found_by_number p (first.number + 1) rows row both.1 there.1)
    ]

table_rises : rise 0 table ≡ true
unfolding table
table_rises = refl

pub named_is_numbered : (mnemonic : List ℕ) (row : Instruction) → row_named mnemonic ≡ Some row → row_numbered row.number ≡ Some row
named_is_numbered mnemonic row e = (found_by_number (λ (i : Instruction). bytes_eq i.mnemonic mnemonic) 0 table row table_rises e).found
