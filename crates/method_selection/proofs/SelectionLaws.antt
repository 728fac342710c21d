-- What the tables of selection say is what the files say.
use Rattle.std.proofs.Common.{◌≡◌, ℕ, suc, ◌≤◌, ◌&&◌, Bool, true, false, cond, List, [], ◌∷◌, length, map, slice_get, Option, None, Some, inl, inr, refl, sym, ◌∙◌, ap, arith}
use Rattle.std.specs.List.{range_with_len}
use Rattle.std.specs.Option.{option_map, option_map_or, option_and_then}
use Rattle.std.proofs.lemmas.Bool.{cases_lt}
use Rattle.std.proofs.lemmas.Option.{slice_get-map, slice_get_cases, none-some}
use Rattle.access_flags.specs.declared.TheConstants.{PRIVATE, ABSTRACT}
use Rattle.access_flags.specs.Flags.{has}
use Rattle.class_texts.specs.Texts.{ProgramTexts}
use Rattle.code_decode.specs.declared.code.ClassUnit.{ClassUnit}
use Rattle.text_numbers.specs.Numbers.{number_of}
use Rattle.link_types.specs.declared.operands.MethodId.{MethodId}
use Rattle.link_rules.specs.Classes.{NamedClass, NamedMember, classes_of, methods_of}
use Rattle.link_rules.specs.Members.{Declared, declared, first_some, or_first, is_member, is_virtual, selected, signature_of, method_id}
use Rattle.link_rules.specs.Methods.{implemented, method_named, selection_start, select_virtual}
use Rattle.link_rules.specs.Names.{program_names}
use Rattle.link_rules.specs.Supers.{superclasses}
use Rattle.link_rules.proofs.Looked.{selected_fits}
use Rattle.member_lookup.specs.Found.{HaveNumbers}
use Rattle.member_lookup.specs.Rows.{row_of}
use Rattle.member_lookup.proofs.FoundLaws.{no_methods}
use Rattle.member_lookup.proofs.PlaceLaws.{row_at, numbered_at, numbered_past}
use Rattle.member_lookup.proofs.RowLaws.{row_declared, declared_is, signature_is}
use Rattle.shared_rows.specs.Rows.{number_at}
use Rattle.shared_rows.specs.declared.SharedRow.{SharedRow}
use Rattle.method_selection.specs.declared.entries.MethodEntry.{MethodEntry}
use Rattle.method_selection.specs.declared.selection.MethodSelection.{MethodSelection}
use Rattle.method_selection.specs.Entries.{entry_of, class_entries, entry_in, signature_number}
use Rattle.method_selection.specs.Numbers.{id_numbered, AreMethodNumbers, rows_of_class}
use Rattle.method_selection.specs.Rows.{own_method, selected_row, answer, row_number, AreSelectedRows}
use Rattle.method_selection.specs.Selection.{select_from, select_in, IsSelectionOf}

-- ---- the entry of a method

made : (p : ProgramTexts) (numbers : List (List ℕ)) (id : MethodId) → NamedMember → MethodEntry
made p numbers id m = entry_of p numbers (row_of p.texts id.class id.method m)

made_twice : (p : ProgramTexts) (numbers : List (List ℕ)) (id : MethodId) (o : Option NamedMember) → option_map (entry_of p numbers) (option_map (row_of p.texts id.class id.method) o) ≡ option_map (made p numbers id) o
unfolding made
made_twice p numbers id None = refl
made_twice p numbers id (Some m) = refl

entry_is : (p : ProgramTexts) (numbers : List (List ℕ)) (id : MethodId)
    → entry_in (map (class_entries p numbers) (range_with_len 0 (suc (length (classes_of p.units))))) id ≡ option_map (made p numbers id) (method_named (classes_of p.units) id)
entry_is p numbers id = elim (cases_lt id.class (suc (length cs))) [
  | inl inside ↦
      ap (option_and_then in_class) (numbered_at (class_entries p numbers) (suc (length cs)) id.class inside)
      ∙ slice_get-map (entry_of p numbers) (rows_of_class p id.class) id.method
      ∙ ap (option_map (entry_of p numbers)) (row_at p.texts (methods_of cs) id.class id.method)
      ∙ made_twice p numbers id (slice_get (methods_of cs id.class) id.method)
  | inr past ↦
      ap (option_and_then in_class) (numbered_past (class_entries p numbers) (suc (length cs)) id.class past)
      ∙ sym (ap (λ ms. option_map (made p numbers id) (slice_get ms id.method)) (no_methods cs id.class (omega arith)))
]
  where
    cs : List NamedClass
    cs = classes_of p.units

    in_class : List MethodEntry → Option MethodEntry
    in_class row = slice_get row id.method

-- ---- the selected method among rows

module _ (p : ProgramTexts) (m : NamedMember) (have : HaveNumbers p (number_of p.texts m.name) (number_of p.texts m.descriptor) (signature_of m)) where
  own_is : (c : ℕ) → own_method p (number_of p.texts m.name) (number_of p.texts m.descriptor) c
      ≡ option_map (row_declared p.texts) (declared (methods_of (classes_of p.units)) (λ n. is_member (signature_of m) n && is_virtual n) c)
  own_is c =
      declared_is p.texts (methods_of (classes_of p.units)) _ (λ n. is_member (signature_of m) n && is_virtual n) c
      (λ i n. ap (λ b. b && is_virtual n) (signature_is p.texts (signature_of m) c i n have.name_has have.descriptor_has))

  both_first : (o rest : Option Declared) → or_first (option_map (row_declared p.texts) o) (option_map (row_declared p.texts) rest) ≡ option_map (row_declared p.texts) (or_first o rest)
  both_first None rest = refl
  both_first (Some d) rest = refl

  first_is : (ds : List ℕ) → first_some (own_method p (number_of p.texts m.name) (number_of p.texts m.descriptor)) ds
      ≡ option_map (row_declared p.texts) (first_some (declared (methods_of (classes_of p.units)) (λ n. is_member (signature_of m) n && is_virtual n)) ds)
  first_is [] = refl
  first_is (d ∷ ds) =
      ap (λ o. or_first o (first_some (own_method p (number_of p.texts m.name) (number_of p.texts m.descriptor)) ds)) (own_is d)
      ∙ ap (or_first (option_map (row_declared p.texts) (declared (methods_of (classes_of p.units)) (λ n. is_member (signature_of m) n && is_virtual n) d))) (first_is ds)
      ∙ both_first (declared (methods_of (classes_of p.units)) (λ n. is_member (signature_of m) n && is_virtual n) d) (first_some (declared (methods_of (classes_of p.units)) (λ n. is_member (signature_of m) n && is_virtual n)) ds)

  pub selected_is : (c : ℕ) → selected_row p (number_of p.texts m.name) (number_of p.texts m.descriptor) c ≡ option_map (row_declared p.texts) (selected (classes_of p.units) c (signature_of m))
  selected_is c = first_is (superclasses (classes_of p.units) c)

-- ---- what the tables answer

module _ (p : ProgramTexts) (numbers : List (List ℕ)) (ids : List MethodId) (are : AreMethodNumbers p numbers ids) where
  answer_is : (o : Option Declared) → ((d : Declared) → o ≡ Some d → slice_get (methods_of (classes_of p.units) d.class) d.place ≡ Some d.member)
      → id_numbered ids (answer numbers (option_map (row_declared p.texts) o)) ≡ option_map method_id (implemented o)
  answer_is None there = refl
  answer_is (Some d) there = go (has d.member.flags ABSTRACT)
    where
      here : slice_get (rows_of_class p d.class) d.place ≡ Some (row_declared p.texts d)
      here = row_at p.texts (methods_of (classes_of p.units)) d.class d.place ∙ ap (option_map (row_of p.texts d.class d.place)) (there d refl)

      go : (b : Bool) → id_numbered ids (cond b 0 (Rattle.method_selection.specs.Numbers.method_number numbers d.class d.place)) ≡ option_map method_id (cond b None (Some d))
      go true = refl
      go false = are d.class d.place (row_declared p.texts d) here

  module _ (rows : List SharedRow) (have_rows : AreSelectedRows p numbers rows)
      (have : (c i : ℕ) (m : NamedMember) → slice_get (methods_of (classes_of p.units) c) i ≡ Some m → HaveNumbers p (number_of p.texts m.name) (number_of p.texts m.descriptor) (signature_of m)) where
    row_answers : (start : ℕ) (m : NamedMember) → start ≤ length (classes_of p.units) → HaveNumbers p (number_of p.texts m.name) (number_of p.texts m.descriptor) (signature_of m)
        → id_numbered ids (row_number rows start (signature_number p numbers (number_of p.texts m.name) (number_of p.texts m.descriptor))) ≡ option_map method_id (implemented (selected (classes_of p.units) start (signature_of m)))
    row_answers start m le its = go (slice_get rows start) refl
      where
        s : ℕ
        s = signature_number p numbers (number_of p.texts m.name) (number_of p.texts m.descriptor)

        go : (o : Option SharedRow) → slice_get rows start ≡ o → id_numbered ids (option_map_or (λ (row : SharedRow). number_at row s) o 0) ≡ option_map method_id (implemented (selected (classes_of p.units) start (signature_of m)))
        go None none = absurd (elim (slice_get_cases rows start).1 [
          | inl there ↦ none-some there.0 (sym none ∙ there.2)
          | inr past ↦ (let le_past = past.0 in let count = have_rows.count in omega arith)
        ])
        go (Some row) at =
            ap (id_numbered ids) (have_rows.each start row at (number_of p.texts m.name) (number_of p.texts m.descriptor) ∙ ap (answer numbers) (selected_is p m its start))
            ∙ answer_is (selected (classes_of p.units) start (signature_of m)) (λ d e. (selected_fits (classes_of p.units) start (signature_of m) d e).there)

    pub are_selected : (entries : List (List MethodEntry)) → entries ≡ map (class_entries p numbers) (range_with_len 0 (suc (length (classes_of p.units))))
        → (start : ℕ) (id : MethodId) → start ≤ length (classes_of p.units)
        → option_and_then (λ (e : MethodEntry). cond (has e.flags PRIVATE) (Some id) (id_numbered ids (row_number rows start e.signature))) (entry_in entries id) ≡ select_from (classes_of p.units) start id
    unfolding made
    are_selected entries is start id le =
        ap (λ es. option_and_then chosen (entry_in es id)) is
        ∙ ap (option_and_then chosen) (entry_is p numbers id)
        ∙ by_member (method_named (classes_of p.units) id) refl
      where
        chosen : MethodEntry → Option MethodId
        chosen e = cond (has e.flags PRIVATE) (Some id) (id_numbered ids (row_number rows start e.signature))

        by_member : (o : Option NamedMember) → method_named (classes_of p.units) id ≡ o → option_and_then chosen (option_map (made p numbers id) o)
            ≡ option_and_then (λ (m : NamedMember). cond (has m.flags PRIVATE) (Some id) (option_map method_id (implemented (selected (classes_of p.units) start (signature_of m))))) o
        by_member None at = refl
        by_member (Some m) at = ap (cond (has m.flags PRIVATE) (Some id)) (row_answers start m le (have id.class id.method m at))

-- ---- selection by the tables of a program

pub selects : (us : List ClassUnit) (s : MethodSelection) (start c : ℕ) (id : MethodId) → IsSelectionOf us s → start ≤ length (classes_of us) → selection_start (program_names us) c ≡ start
    → select_in s start id ≡ select_virtual (program_names us) c id
selects us s start c id is le begins = is.selects start id le ∙ ap (λ d. select_from (classes_of us) d id) (sym begins)

-- what the tables say of a method, by its entry
pub no_entry : (s : MethodSelection) (start : ℕ) (id : MethodId) → entry_in s.entries.items id ≡ None → select_in s start id ≡ None
no_entry s start id none =
    ap (option_and_then (λ (e : MethodEntry). cond (has e.flags PRIVATE) (Some id) (id_numbered s.ids.items (row_number s.rows.items start e.signature)))) none

by_entry : (s : MethodSelection) (start : ℕ) (id : MethodId) (e : MethodEntry) (b : Bool) → entry_in s.entries.items id ≡ Some e → has e.flags PRIVATE ≡ b
    → select_in s start id ≡ cond b (Some id) (id_numbered s.ids.items (row_number s.rows.items start e.signature))
by_entry s start id e b at is =
    ap (option_and_then (λ (x : MethodEntry). cond (has x.flags PRIVATE) (Some id) (id_numbered s.ids.items (row_number s.rows.items start x.signature)))) at
    ∙ ap (λ y. cond y (Some id) (id_numbered s.ids.items (row_number s.rows.items start e.signature))) is

pub private_entry : (s : MethodSelection) (start : ℕ) (id : MethodId) (e : MethodEntry) → entry_in s.entries.items id ≡ Some e → has e.flags PRIVATE ≡ true → select_in s start id ≡ Some id
private_entry s start id e = by_entry s start id e true

pub open_entry : (s : MethodSelection) (start : ℕ) (id : MethodId) (e : MethodEntry) → entry_in s.entries.items id ≡ Some e → has e.flags PRIVATE ≡ false
    → select_in s start id ≡ id_numbered s.ids.items (row_number s.rows.items start e.signature)
open_entry s start id e = by_entry s start id e false
