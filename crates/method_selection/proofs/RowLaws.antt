-- The rows of classes, those of superclasses first.
use Rattle.std.proofs.Common.{◌≡◌, ◌≢◌, ℕ, zero, suc, ◌+◌, ◌<◌, ◌≤◌, ◌==◌, ◌&&◌, Bool, true, false, cond, List, [], ◌∷◌, length, map, slice_get, Option, None, Some, inl, inr, refl, sym, ◌∙◌, ap, subst, arith}
use Rattle.std.specs.List.{find}
use Rattle.std.proofs.lemmas.Bool.{cases_eq}
use Rattle.std.proofs.lemmas.Option.{slice_get_within, same_Some}
use Rattle.class_texts.specs.Texts.{ProgramTexts}
use Rattle.link_types.specs.declared.operands.MethodId.{MethodId}
use Rattle.link_rules.specs.Classes.{NamedClass, classes_of, superclass_of}
use Rattle.link_rules.specs.Members.{first_some, or_first}
use Rattle.link_rules.specs.Supers.{PutsSupersFirst}
use Rattle.link_rules.proofs.Upward.{up_none, superclasses_step}
use Rattle.member_table.specs.declared.table.MemberRow.{MemberRow}
use Rattle.member_table.specs.Members.{has_signature}
use Rattle.member_lookup.specs.Rows.{is_virtual_row}
use Rattle.shared_rows.specs.Rows.{number_at}
use Rattle.shared_rows.specs.declared.SharedRow.{SharedRow}
use Rattle.method_selection.specs.Entries.{entry_of, class_entries, signature_number}
use Rattle.method_selection.specs.Numbers.{AreMethodNumbers, rows_of_class}
use Rattle.method_selection.specs.Rows.{with_own, own_method, selected_row, answer, IsSelectedRow, AreSelectedRows}
use Rattle.method_selection.proofs.MethodLaws.{signature_alone}

or_answer : List (List ℕ) → Option MemberRow → ℕ → ℕ
or_answer numbers None n = n
or_answer numbers (Some m) n = answer numbers (Some m)

answer_or : (numbers : List (List ℕ)) (o rest : Option MemberRow) → answer numbers (or_first o rest) ≡ or_answer numbers o (answer numbers rest)
unfolding or_answer
answer_or numbers None rest = refl
answer_or numbers (Some m) rest = refl

-- ---- the own methods of a class

module _ (p : ProgramTexts) (numbers : List (List ℕ)) (name descriptor : ℕ) (f : ℕ → ℕ) where
  own_is : (ms : List MemberRow)
      → ((i : ℕ) (m : MemberRow) → slice_get ms i ≡ Some m → is_virtual_row m ≡ true → (signature_number p numbers name descriptor == signature_number p numbers m.name m.descriptor) ≡ has_signature name descriptor m)
      → with_own (map (entry_of p numbers) ms) f (signature_number p numbers name descriptor)
      ≡ or_answer numbers (find (λ m. has_signature name descriptor m && is_virtual_row m) ms) (f (signature_number p numbers name descriptor))
  unfolding or_answer
  own_is [] alone = refl
  own_is (m ∷ ms) alone = go (is_virtual_row m) refl (own_is ms (λ i x at virtual. alone (suc i) x at virtual)) (alone 0 m refl)
    where
      s : ℕ
      s = signature_number p numbers name descriptor

      rest : ℕ → ℕ
      rest = with_own (map (entry_of p numbers) ms) f

      later : Option MemberRow
      later = find (λ x. has_signature name descriptor x && is_virtual_row x) ms

      set_or_not : (b : Bool) → rest s ≡ or_answer numbers later (f s) → cond b (answer numbers (Some m)) (rest s) ≡ or_answer numbers (cond (b && true) (Some m) later) (f s)
      set_or_not true e = refl
      set_or_not false e = e

      skipped : (b : Bool) → cond (b && false) (Some m) later ≡ later
      skipped true = refl
      skipped false = refl

      go : (v : Bool) → is_virtual_row m ≡ v → rest s ≡ or_answer numbers later (f s)
          → (is_virtual_row m ≡ true → (s == signature_number p numbers m.name m.descriptor) ≡ has_signature name descriptor m)
          → cond v (λ (j : ℕ). cond (j == signature_number p numbers m.name m.descriptor) (answer numbers (Some m)) (rest j)) rest s
          ≡ or_answer numbers (cond (has_signature name descriptor m && v) (Some m) later) (f s)
      go true is e this = ap (λ b. cond b (answer numbers (Some m)) (rest s)) (this is) ∙ set_or_not (has_signature name descriptor m) e
      go false is e this = e ∙ ap (λ o. or_answer numbers o (f s)) (sym (skipped (has_signature name descriptor m)))

-- ---- one class more

module _ (p : ProgramTexts) (numbers : List (List ℕ)) (ids : List MethodId) (are : AreMethodNumbers p numbers ids) (order : List ℕ) (first : PutsSupersFirst (classes_of p.units) order) where
  cs : List NamedClass
  cs = classes_of p.units

  own_and_inherited : (c : ℕ) → c ≢ 0 → c ≤ length (classes_of p.units) → (row inherited : SharedRow) → number_at row ≡ with_own (class_entries p numbers c) (number_at inherited)
      → IsSelectedRow p numbers (superclass_of (classes_of p.units) c) inherited → IsSelectedRow p numbers c row
  own_and_inherited c some within row inherited is above name descriptor =
      ap (λ f. f (signature_number p numbers name descriptor)) is
      ∙ own_is p numbers name descriptor (number_at inherited) (rows_of_class p c) (λ i m at virtual. signature_alone p numbers ids are c i m at virtual name descriptor)
      ∙ ap (or_answer numbers (own_method p name descriptor c)) (above name descriptor)
      ∙ sym (answer_or numbers (own_method p name descriptor c) (selected_row p name descriptor (superclass_of (classes_of p.units) c)))
      ∙ ap (λ ds. answer numbers (first_some (own_method p name descriptor) ds)) (sym (superclasses_step (classes_of p.units) order first c some within))

  row_is : (c : ℕ) → c ≤ length (classes_of p.units) → (row inherited : SharedRow) → number_at row ≡ with_own (class_entries p numbers c) (number_at inherited)
      → IsSelectedRow p numbers (superclass_of (classes_of p.units) c) inherited → IsSelectedRow p numbers c row
  row_is zero within row inherited is above = λ name descriptor. ap (λ f. f (signature_number p numbers name descriptor)) is ∙ above name descriptor
  row_is (suc c) within row inherited is above = own_and_inherited (suc c) (λ e. omega (arith, e)) within row inherited is above

-- the first classes of an order have their rows, and so has 0, which is no class
pub record FirstHaveRows (p : ProgramTexts) (numbers : List (List ℕ)) (order : List ℕ) (n : ℕ) (rows : List SharedRow) : Type 0 where
  pub count : length rows ≡ suc (length (classes_of p.units))
  pub none : (row : SharedRow) → slice_get rows 0 ≡ Some row → IsSelectedRow p numbers 0 row
  pub each : (j c : ℕ) (row : SharedRow) → j < n → slice_get order j ≡ Some c → slice_get rows c ≡ Some row → IsSelectedRow p numbers c row

pub zeros_are : (p : ProgramTexts) (numbers : List (List ℕ)) (row : SharedRow) → ((place : ℕ) → number_at row place ≡ 0) → IsSelectedRow p numbers 0 row
zeros_are p numbers row zeros name descriptor =
    zeros (signature_number p numbers name descriptor)
    ∙ ap (λ ds. answer numbers (first_some (own_method p name descriptor) ds)) (sym (up_none (classes_of p.units) (length (classes_of p.units))))

pub none_have_rows : (p : ProgramTexts) (numbers : List (List ℕ)) (order : List ℕ) (rows : List SharedRow) → length rows ≡ suc (length (classes_of p.units))
    → ((row : SharedRow) → slice_get rows 0 ≡ Some row → (place : ℕ) → number_at row place ≡ 0) → FirstHaveRows p numbers order 0 rows
none_have_rows p numbers order rows count zeros = record {
  count = count;
  none = λ row at. zeros_are p numbers row (zeros row at);
  each = λ j c row lt. absurd (omega arith);
}

pub super_has_row : (p : ProgramTexts) (numbers : List (List ℕ)) (order : List ℕ) (n class : ℕ) (rows : List SharedRow) (row : SharedRow) → PutsSupersFirst (classes_of p.units) order → slice_get order n ≡ Some class
    → FirstHaveRows p numbers order n rows → slice_get rows (superclass_of (classes_of p.units) class) ≡ Some row → IsSelectedRow p numbers (superclass_of (classes_of p.units) class) row
super_has_row p numbers order n class rows row first at have there = go (superclass_of (classes_of p.units) class) refl there
  where
    go : (s : ℕ) → superclass_of (classes_of p.units) class ≡ s → slice_get rows s ≡ Some row → IsSelectedRow p numbers s row
    go zero e there = have.none row there
    go (suc s) e there =
        let h : (j : ℕ) × (j < n) × (slice_get order j ≡ Some (suc s)) = first.before n class (suc s) at ((λ z. omega (arith, z)), inl e) in
        have.each h.0 (suc s) row h.1 h.2 there

pub rows_more : (p : ProgramTexts) (numbers : List (List ℕ)) (order : List ℕ) (n class : ℕ) (old new : List SharedRow) → slice_get order n ≡ Some class
    → FirstHaveRows p numbers order n old → length new ≡ length old
    → ((row : SharedRow) → slice_get new class ≡ Some row → IsSelectedRow p numbers class row) → ((c : ℕ) → c ≢ class → slice_get new c ≡ slice_get old c)
    → FirstHaveRows p numbers order (n + 1) new
rows_more p numbers order n class old new at have count here elsewhere = record {
  count = count ∙ have.count;
  none = λ row there. elim (cases_eq 0 class) [
    | inl same ↦ subst (λ c. IsSelectedRow p numbers c row) (sym same) (here row (ap (slice_get new) (sym same) ∙ there))
    | inr other ↦ have.none row (sym (elsewhere 0 other) ∙ there)
  ];
  each = λ j c row lt is there. elim (cases_eq c class) [
    | inl same ↦ subst (λ d. IsSelectedRow p numbers d row) (sym same) (here row (ap (slice_get new) (sym same) ∙ there))
    | inr other ↦ elim (cases_eq j n) [
      | inl last ↦ absurd (other (same_Some c class (sym is ∙ ap (slice_get order) last ∙ at)))
      | inr before ↦ have.each j c row (omega (arith, before)) is (sym (elsewhere c other) ∙ there)
    ]
  ];
}

pub all_have_rows : (p : ProgramTexts) (numbers : List (List ℕ)) (order : List ℕ) (n : ℕ) (rows : List SharedRow) → PutsSupersFirst (classes_of p.units) order → length order ≤ n
    → FirstHaveRows p numbers order n rows → AreSelectedRows p numbers rows
all_have_rows p numbers order n rows first whole have = record {
  count = have.count;
  each = λ c row there. elim (cases_eq c 0) [
    | inl none ↦ subst (λ d. IsSelectedRow p numbers d row) (sym none) (have.none row (ap (slice_get rows) (sym none) ∙ there))
    | inr some ↦
        let inside : c < length rows = slice_get_within rows c row there in
        let h : (i : ℕ) × (slice_get order i ≡ Some c) = first.whole c some (let count = have.count in omega arith) in
        let lt : h.0 < length order = slice_get_within order h.0 c h.1 in
        have.each h.0 c row (omega arith) h.1 there
  ];
}

-- the row of a class from that of its superclass
pub made_row : (p : ProgramTexts) (numbers : List (List ℕ)) (ids : List MethodId) → AreMethodNumbers p numbers ids → (order : List ℕ) → PutsSupersFirst (classes_of p.units) order
    → (c : ℕ) → c ≤ length (classes_of p.units) → (row inherited : SharedRow) → number_at row ≡ with_own (class_entries p numbers c) (number_at inherited)
    → IsSelectedRow p numbers (superclass_of (classes_of p.units) c) inherited → IsSelectedRow p numbers c row
made_row p numbers ids are order first = row_is p numbers ids are order first
