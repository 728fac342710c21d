-- No class has an empty name.
use Rattle.std.proofs.Common.{◌≡◌, ℕ, zero, suc, ◌+◌, Bool, true, false, ◌||◌, cond, List, [], ◌∷◌, ◌++◌, map, Option, None, Some, slice_get, refl, sym, ◌∙◌, ap, subst, inl, inr, bytes_eq, unwrap_or}
use Rattle.std.specs.List.{list_any, position_from}
use Rattle.std.specs.Option.{option_map_or}
use Rattle.std.proofs.lemmas.List.Folds.{list_any-append}
use Rattle.builtin_world.specs.Library.{library}
use Rattle.class_names.specs.Reading.{spells_class_name}
use Rattle.class_names.proofs.NameLaws.{spells_name}
use Rattle.class_pool.specs.Lookup.{utf8_of, class_name_of}
use Rattle.class_read.specs.ClassRules.{IsNamedClass}
use Rattle.class_walk.specs.declared.class.Constant.{Constant}
use Rattle.code_decode.specs.declared.code.ClassUnit.{ClassUnit}
use Rattle.code_laws.proofs.FileLaws.{header}
use Rattle.link_rules.specs.Classes.{NamedClass, classes_of, class_number, class_of_unit, class_name_at, library_class}
use Rattle.link_rules.specs.Units.{IsDecoded, AreUnits}

abbrev is_unnamed : NamedClass → Bool
is_unnamed c = bytes_eq c.name []

none_found : {X : Type 0} (test : X → Bool) (n : ℕ) (xs : List X) → list_any test xs ≡ false → position_from test n xs ≡ None
none_found test n [] none = refl
none_found test n (x ∷ xs) none = of (test x) refl (none_found test (n + 1) xs)
  where
    of : (b : Bool) → test x ≡ b → (list_any test xs ≡ false → position_from test (n + 1) xs ≡ None) → position_from test n (x ∷ xs) ≡ None
    of true is rest = let both : true ≡ false = sym (ap (λ b. b || list_any test xs) is) ∙ none in cc
    of false is rest = ap (λ b. cond b (Some n) (position_from test (n + 1) xs)) is ∙ rest (sym (ap (λ b. b || list_any test xs) is) ∙ none)

some_bytes : (name : List ℕ) → spells_class_name false name ≡ true → bytes_eq name [] ≡ false
unfolding spells_class_name
some_bytes [] spelled = let both : false ≡ true = spelled in cc
some_bytes (b ∷ bs) spelled = refl

name_there : (pool : List Constant) (index : ℕ) → IsNamedClass pool index → bytes_eq (class_name_at pool index) [] ≡ false
name_there pool index (name, (n, there, text), named) =
    let is : class_name_at pool index ≡ name = ap (λ o. unwrap_or (class_name_of pool o) []) there ∙ ap (λ o. unwrap_or (utf8_of o) []) text in
    subst (λ x. bytes_eq x [] ≡ false) (sym is) (some_bytes name (spells_name name named))

units_named : (us : List ClassUnit) → AreUnits us → list_any is_unnamed (map class_of_unit us) ≡ false
units_named [] are = refl
units_named (u ∷ us) are =
    let first = name_there u.file.pool u.file.this_class (header u.file (are 0 u refl).file).this_class in
    ap (λ b. b || list_any is_unnamed (map class_of_unit us)) first ∙ units_named us (λ k v at. are (suc k) v at)

library_named : list_any is_unnamed (map library_class library) ≡ false
unfolding library
library_named = refl

-- so an empty name has no number
pub unnamed : (us : List ClassUnit) → AreUnits us → class_number (classes_of us) [] ≡ 0
unnamed us are =
    let both : list_any is_unnamed (map library_class library ++ map class_of_unit us) ≡ false =
    list_any-append is_unnamed (map library_class library) (map class_of_unit us) ∙ ap (λ b. b || list_any is_unnamed (map class_of_unit us)) library_named ∙ units_named us are in
    ap (λ o. option_map_or (λ i. suc i) o 0) (none_found is_unnamed 0 (classes_of us) both)
