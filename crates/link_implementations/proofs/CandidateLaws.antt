-- The candidates of abstract methods.
use Rattle.std.proofs.Common.{◌≡◌, ℕ, zero, suc, ◌+◌, List, [], ◌∷◌, ◌++◌, map, take, get_or, slice_get, Some, refl, sym, ◌∙◌, ap, append_assoc}
use Rattle.std.specs.Option.{option_map_or}
use Rattle.std.proofs.lemmas.List.{take_more, map-append}
use Rattle.std.proofs.lemmas.Option.{slice_get_within, get_or_from_slice_get}
use Rattle.std.proofs.lemmas.Simd.{map-map}
use Rattle.builtin_world.specs.Library.{library}
use Rattle.builtin_world.specs.BuiltinClass.{ClassRow, rows, row_of}
use Rattle.code_decode.specs.declared.code.ClassUnit.{ClassUnit}
use Rattle.link_rules.specs.Classes.{NamedClass, classes_of, class_of_unit, library_class, library_method, methods_of}
use Rattle.class_texts.specs.Texts.{ProgramTexts}
use Rattle.member_table.specs.declared.table.MemberRow.{MemberRow}
use Rattle.link_implementations.specs.Implementations.{abstract_candidates, candidate_table}

abbrev pub of_row : ProgramTexts → ClassRow → List (List MemberRow)
of_row p r = abstract_candidates p (map library_method r.methods)

abbrev of_named : ProgramTexts → NamedClass → List (List MemberRow)
of_named p k = abstract_candidates p k.methods

abbrev pub of_unit : ProgramTexts → ClassUnit → List (List MemberRow)
of_unit p u = abstract_candidates p (class_of_unit u).methods

pub whole_table : (p : ProgramTexts) → ([] ∷ map (of_row p) rows) ++ map (of_unit p) p.units ≡ candidate_table p
unfolding rows
whole_table p =
    ap (λ zs. [] ∷ zs) (
    ap (λ zs. zs ++ map (of_unit p) p.units) (map-map (of_row p) row_of library ∙ sym (map-map (of_named p) library_class library))
    ∙ ap (λ zs. map (of_named p) (map library_class library) ++ zs) (sym (map-map (of_named p) class_of_unit p.units))
    ∙ sym (map-append (of_named p) (map library_class library) (map class_of_unit p.units)))

pub of_class : (p : ProgramTexts) (d : ℕ) → get_or (candidate_table p) d [] ≡ abstract_candidates p (methods_of (classes_of p.units) d)
of_class p zero = refl
of_class p (suc i) = go (classes_of p.units) i
  where
    go : (cs : List NamedClass) (i : ℕ) → get_or (map (of_named p) cs) i [] ≡ abstract_candidates p (option_map_or (λ (k : NamedClass). k.methods) (slice_get cs i) [])
    go [] i = refl
    go (k ∷ cs) zero = refl
    go (k ∷ cs) (suc i) = go cs i

-- one file more
pub files_more : (p : ProgramTexts) (before old new : List (List (List MemberRow))) (i : ℕ) (u : ClassUnit) (row : List (List MemberRow)) → slice_get p.units i ≡ Some u
    → old ≡ before ++ map (of_unit p) (take i p.units) → new ≡ old ++ row ∷ [] → row ≡ of_unit p u → new ≡ before ++ map (of_unit p) (take (i + 1) p.units)
files_more p before old new i u row at so_far push is =
    let last : map (of_unit p) (take (i + 1) p.units) ≡ map (of_unit p) (take i p.units) ++ of_unit p u ∷ [] =
    ap (map (of_unit p)) (take_more p.units i u (slice_get_within p.units i u at)) ∙ map-append (of_unit p) (take i p.units) (get_or p.units i u ∷ [])
    ∙ ap (λ z. map (of_unit p) (take i p.units) ++ of_unit p z ∷ []) (get_or_from_slice_get p.units i u u at) in
    push ∙ ap (λ zs. zs ++ row ∷ []) so_far ∙ append_assoc before (map (of_unit p) (take i p.units)) (row ∷ [])
    ∙ ap (λ z. before ++ (map (of_unit p) (take i p.units) ++ z ∷ [])) is ∙ ap (λ zs. before ++ zs) (sym last)
