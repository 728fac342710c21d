-- The classes of a program, one class after the other.
use Rattle.std.proofs.Common.{◌≡◌, ℕ, ◌+◌, ◌<◌, ◌≤◌, List, [], ◌∷◌, ◌++◌, length, map, take, slice_get, Option, None, Some, refl, sym, ◌∙◌, ap, arith, append_assoc}
use Rattle.std.specs.Option.{option_map}
use Rattle.std.proofs.Math.Seq.{take-append-add}
use Rattle.std.proofs.lemmas.List.{take-map, map-append, length-map, length-take-le, take_all}
use Rattle.std.proofs.lemmas.Option.{slice_get-map, slice_get_within, same_Some}
use Rattle.builtin_world.specs.BuiltinClass.{row_of, shown_class}
use Rattle.builtin_world.specs.BuiltinClass.{rows}
use Rattle.builtin_world.specs.Library.{library}
use Rattle.builtin_world.specs.Library.{Class as LibraryClass}
use Rattle.builtin_world.specs.declared.BuiltinClass.{BuiltinClass}
use Rattle.class_read.proofs.FindLaws.{take_next}
use Rattle.code_decode.specs.declared.code.ClassUnit.{ClassUnit}
use Rattle.link_rules.specs.Classes.{classes_of, class_of_unit, library_class}
use Rattle.link_rules.proofs.Numbers.{class_count_is}

-- the first files
pub take_classes : (us : List ClassUnit) (k : ℕ) → take (28 + k) (classes_of us) ≡ classes_of (take k us)
unfolding library
take_classes us k =
    take-append-add (map library_class library) (map class_of_unit us) k ∙ ap (λ xs. map library_class library ++ xs) (take-map class_of_unit k us)

pub classes_more : (us : List ClassUnit) (k : ℕ) (u : ClassUnit) → slice_get us k ≡ Some u → classes_of (take (k + 1) us) ≡ classes_of (take k us) ++ class_of_unit u ∷ []
classes_more us k u at =
    ap classes_of (take_next us k u at)
    ∙ ap (λ xs. map library_class library ++ xs) (map-append class_of_unit (take k us) (u ∷ []))
    ∙ sym (append_assoc (map library_class library) (map class_of_unit (take k us)) (class_of_unit u ∷ []))

pub count_of_first : (us : List ClassUnit) (k : ℕ) → k ≤ length us → length (classes_of (take k us)) ≡ 28 + k
count_of_first us k le = class_count_is (take k us) ∙ ap (λ n. 28 + n) (length-take-le k us le)

-- the class of the library that is shown
pub record Shows (i : ℕ) (b : BuiltinClass) : Type 0 where
  pub row : LibraryClass
  pub there : slice_get library i ≡ Some row
  pub shown : row_of row ≡ shown_class b

shows_some : (i : ℕ) (b : BuiltinClass) (o : Option LibraryClass) → slice_get library i ≡ o → option_map row_of o ≡ Some (shown_class b) → Shows i b
shows_some i b None at e = absurd cc
shows_some i b (Some c) at e = record { row = c; there = at; shown = same_Some (row_of c) (shown_class b) e }

pub shows : (bs : List BuiltinClass) (i : ℕ) (b : BuiltinClass) → map shown_class bs ≡ rows → slice_get bs i ≡ Some b → Shows i b
unfolding rows
shows bs i b all at =
    let its : slice_get (map shown_class bs) i ≡ Some (shown_class b) = slice_get-map shown_class bs i ∙ ap (option_map shown_class) at in
    let same : slice_get (map shown_class bs) i ≡ slice_get (map row_of library) i = ap (λ xs. slice_get xs i) all in
    shows_some i b (slice_get library i) refl (sym (slice_get-map row_of library i) ∙ sym same ∙ its)

pub library_more : (i : ℕ) (c : LibraryClass) → slice_get library i ≡ Some c → map library_class (take (i + 1) library) ≡ map library_class (take i library) ++ library_class c ∷ []
library_more i c at = ap (map library_class) (take_next library i c at) ∙ map-append library_class (take i library) (c ∷ [])

pub library_count : (i : ℕ) (c : LibraryClass) → slice_get library i ≡ Some c → length (map library_class (take i library)) ≡ i
library_count i c at =
    let lt : i < length library = slice_get_within library i c at in
    length-map (take i library) library_class ∙ length-take-le i library (omega arith)

pub whole_library : (i : ℕ) → 28 ≤ i → map library_class (take i library) ≡ classes_of []
unfolding library
whole_library i le = ap (map library_class) (take_all i library le)
