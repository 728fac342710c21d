-- What the mnemonics of the table have in common.
use Rattle.std.proofs.Common.{◌≡◌, ℕ, zero, suc, Bool, true, false, List, [], ◌∷◌, ◌++◌, Option, Some, None, refl, subst, inl, inr, arith, codes}
use Rattle.std.specs.Prelude.{find, nat_lt, nat_eq, not, ◌&&◌, IsUtf8, bytes_eq}
use Rattle.std.specs.List.{list_all}
use Rattle.std.specs.Str.{IsAscii}
use Rattle.std.proofs.lemmas.Bool.{and_parts, and_right, ltb-true}
use Rattle.std.proofs.lemmas.Option.{same_Some}
use Rattle.std.proofs.lemmas.Str.{IsUtf8-from_ascii}
use Rattle.instructions.specs.Table.{Instruction, table, row_named}
use Rattle.class_names.proofs.Cases.{chosen}
use Rattle.assembler_lines.proofs.TextLaws.{text_same}

-- an ASCII character that is no colon
abbrev is_mnemonic_byte : ℕ → Bool
is_mnemonic_byte b = nat_lt b 128 && not (nat_eq b 58)

abbrev is_mnemonic : List ℕ → Bool
is_mnemonic text = list_all is_mnemonic_byte text

table_mnemonics : list_all (λ (i : Instruction). is_mnemonic i.mnemonic) table ≡ true
unfolding table
table_mnemonics = refl

found_among : {X : Type 0} (q p : X → Bool) (xs : List X) (x : X) → list_all q xs ≡ true → find p xs ≡ Some x → (q x ≡ true) × (p x ≡ true)
found_among q p [] x all e = absurd cc
found_among {X} q p (y ∷ ys) x all e =
    let a = and_parts (q y) (list_all q ys) all in
    elim (chosen (p y) (Some y) (find p ys) (Some x) e) [
      | inl t ↦ subst (λ (z : X). (q z ≡ true) × (p z ≡ true)) (same_Some y x t.1) (a.0, t.0)
      | inr t ↦ found_among q p ys x a.1 t.1
    ]

mnemonic_is : (text : List ℕ) (row : Instruction) → row_named text ≡ Some row → is_mnemonic text ≡ true
mnemonic_is text row e =
    let f = found_among (λ (i : Instruction). is_mnemonic i.mnemonic) (λ (i : Instruction). bytes_eq i.mnemonic text) table row table_mnemonics e in
    subst (λ (m : List ℕ). is_mnemonic m ≡ true) (text_same row.mnemonic text f.1) f.0

mnemonic_ascii : (text : List ℕ) → is_mnemonic text ≡ true → IsAscii text
mnemonic_ascii [] e i = omega arith
mnemonic_ascii (b ∷ text) e zero =
    let parts = and_parts (is_mnemonic_byte b) (is_mnemonic text) e in
    ltb-true b 128 (and_parts (nat_lt b 128) (not (nat_eq b 58)) parts.0).0
mnemonic_ascii (b ∷ text) e (suc i) = mnemonic_ascii text (and_parts (is_mnemonic_byte b) (is_mnemonic text) e).1 i

-- what is no text is no mnemonic
pub no_text_no_row : (text : List ℕ) → (IsUtf8 text → ⊥) → None ≡ row_named text
no_text_no_row text bad = by_row (row_named text) refl
  where
    by_row : (o : Option Instruction) → row_named text ≡ o → None ≡ o
    by_row None e = refl
    by_row (Some row) e = absurd (bad (IsUtf8-from_ascii text (mnemonic_ascii text (mnemonic_is text row e))))

colon_no_mnemonic : (name : List ℕ) → is_mnemonic (name ++ 58 ∷ []) ≡ false
colon_no_mnemonic [] = refl
colon_no_mnemonic (b ∷ name) = and_right (is_mnemonic_byte b) (is_mnemonic (name ++ 58 ∷ [])) (colon_no_mnemonic name)

-- a word that ends in a colon is no mnemonic
pub label_no_row : (name : List ℕ) → row_named (name ++ 58 ∷ []) ≡ None
label_no_row name = by_row (row_named (name ++ 58 ∷ [])) refl
  where
    by_row : (o : Option Instruction) → row_named (name ++ 58 ∷ []) ≡ o → o ≡ None
    by_row None e = refl
    by_row (Some row) e = absurd (let yes = mnemonic_is (name ++ 58 ∷ []) row e in let no = colon_no_mnemonic name in cc)

-- no first word of a line of another kind is a mnemonic
pub class_no_row : row_named (codes "class") ≡ None
unfolding table
class_no_row = refl

pub super_no_row : row_named (codes "super") ≡ None
unfolding table
super_no_row = refl

pub implements_no_row : row_named (codes "implements") ≡ None
unfolding table
implements_no_row = refl

pub field_no_row : row_named (codes "field") ≡ None
unfolding table
field_no_row = refl

pub method_no_row : row_named (codes "method") ≡ None
unfolding table
method_no_row = refl

pub end_no_row : row_named (codes "end") ≡ None
unfolding table
end_no_row = refl

pub handler_no_row : row_named (codes "handler") ≡ None
unfolding table
handler_no_row = refl

pub frame_no_row : row_named (codes "frame") ≡ None
unfolding table
frame_no_row = refl
