-- The interfaces that a file names, by their numbers.
use Rattle.std.proofs.Common.{◌≡◌, ◌≢◌, ℕ, List, [], length, map, Some, slice_get, slice_index, Result, sym, ◌∙◌, ap, subst}
use Rattle.std.specs.Bool.{IsTrue}
use Rattle.std.specs.Option.{option_map, option_map_or}
use Rattle.std.proofs.lemmas.List.{length-map}
use Rattle.std.proofs.lemmas.Option.{slice_get-map, get_or_from_slice_get}
use Rattle.rules.specs.Rules.{must, each}
use Rattle.access_flags.specs.declared.TheConstants.{INTERFACE}
use Rattle.code_decode.specs.declared.code.ClassUnit.{ClassUnit}
use Rattle.link_types.specs.declared.refusal.LinkRefusal.{LinkRefusal}
use Rattle.link_types.specs.declared.refusal.LinkRefusal.TheVariants.{At}
use Rattle.link_types.specs.declared.refusal.LinkKind.TheVariants.{Missing, NotInterface}
use Rattle.link_rules.specs.Classes.{NamedClass, classes_of, class_number, class_has, class_name_at, interfaces_of, number_of_file}
use Rattle.link_rules.specs.LinkRules.{named_class_rules, named_interface_rules}
use Rattle.link_rules.proofs.Numbers.{file_class}
use Rattle.class_supers.specs.Answers.{KeepsExactly}
use Rattle.class_supers.proofs.RuleLaws.{each_as}

number_at : (f : List ℕ → ℕ) (g : ℕ → List ℕ) (xs numbers : List ℕ) → numbers ≡ map f (map g xs) → (i x : ℕ) → slice_get xs i ≡ Some x → slice_index numbers i ≡ f (g x)
number_at f g xs numbers are i x at =
    get_or_from_slice_get numbers i (f (g x)) 0
    (ap (λ ns. slice_get ns i) are ∙ slice_get-map f (map g xs) i ∙ ap (option_map f) (slice_get-map g xs i ∙ ap (option_map g) at))

module _ (us : List ClassUnit) (k : ℕ) (u : ClassUnit) (there : slice_get us k ≡ Some u)
    (class : ℕ) (numbered : class ≡ number_of_file k) (numbers : List ℕ) (named : numbers ≡ interfaces_of (classes_of us) class)
    (indices : List ℕ) (lent : indices ≡ u.file.interfaces) where
  numbers_are : numbers ≡ map (class_number (classes_of us)) (map (class_name_at u.file.pool) u.file.interfaces)
  numbers_are =
      named ∙ ap (interfaces_of (classes_of us)) numbered
      ∙ ap (λ o. option_map_or (λ (c : NamedClass). map (class_number (classes_of us)) c.interfaces) o []) (file_class us k u there)

  pub as_many : length numbers ≡ length indices
  as_many =
      ap length numbers_are
      ∙ length-map (map (class_name_at u.file.pool) u.file.interfaces) (class_number (classes_of us))
      ∙ length-map u.file.interfaces (class_name_at u.file.pool)
      ∙ ap length (sym lent)

  its_number : (i at : ℕ) → slice_get u.file.interfaces i ≡ Some at → slice_index numbers i ≡ class_number (classes_of us) (class_name_at u.file.pool at)
  its_number i at e = number_at (class_number (classes_of us)) (class_name_at u.file.pool) u.file.interfaces numbers numbers_are i at e

  pub are_there : {T : Type 0} (r : Result T LinkRefusal) → KeepsExactly r (each (λ i at. must (slice_index numbers i ≢ 0) (At Missing k at)) indices) → KeepsExactly r (each (λ i at. named_class_rules (classes_of us) k u.file.pool at) u.file.interfaces)
  are_there r keeps =
      each_as (λ i at. must (slice_index numbers i ≢ 0) (At Missing k at)) (λ i at. named_class_rules (classes_of us) k u.file.pool at) u.file.interfaces r
      (λ i at e. ap (λ (n : ℕ). must (n ≢ 0) (At Missing k at)) (its_number i at e))
      (subst (λ xs. KeepsExactly r (each (λ i at. must (slice_index numbers i ≢ 0) (At Missing k at)) xs)) lent keeps)

  pub are_interfaces : {T : Type 0} (r : Result T LinkRefusal) → KeepsExactly r (each (λ i at. must (IsTrue (class_has (classes_of us) (slice_index numbers i) INTERFACE)) (At NotInterface k at)) indices) → KeepsExactly r (each (λ i at. named_interface_rules (classes_of us) k u.file.pool at) u.file.interfaces)
  are_interfaces r keeps =
      each_as (λ i at. must (IsTrue (class_has (classes_of us) (slice_index numbers i) INTERFACE)) (At NotInterface k at)) (λ i at. named_interface_rules (classes_of us) k u.file.pool at) u.file.interfaces r
      (λ i at e. ap (λ (n : ℕ). must (IsTrue (class_has (classes_of us) n INTERFACE)) (At NotInterface k at)) (its_number i at e))
      (subst (λ xs. KeepsExactly r (each (λ i at. must (IsTrue (class_has (classes_of us) (slice_index numbers i) INTERFACE)) (At NotInterface k at)) xs)) lent keeps)
