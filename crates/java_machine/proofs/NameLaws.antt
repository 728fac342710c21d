-- The names of classes are modified UTF-8.
use Rattle.std.proofs.Common.{◌≡◌, ℕ, zero, suc, length, Bool, true, false, List, [], map, slice_get, Option, None, Some, unwrap_or, inl, inr, refl, sym, ap, subst, ◌∙◌, true≢false, arith}
use Rattle.std.specs.List.{range_with_len}
use Rattle.std.specs.Option.{option_map}
use Rattle.std.proofs.lemmas.Bool.{cases_lt}
use Rattle.std.proofs.lemmas.Option.{slice_get_past}
use Rattle.builtin_world.specs.Library.{library}
use Rattle.class_walk.specs.declared.class.Constant.{Constant}
use Rattle.class_walk.specs.declared.class.Constant.TheVariants as constants
use Rattle.class_names.specs.ModifiedUtf8.{IsModifiedUtf8}
use Rattle.class_names.specs.Units.{units_of, units_within}
use Rattle.class_names.proofs.UnitLaws.{units_are}
use Rattle.class_pool.specs.Lookup.{utf8_of, class_name_of}
use Rattle.class_read.proofs.TextLaws.{text_is_formed}
use Rattle.code_decode.specs.declared.code.ClassUnit.{ClassUnit}
use Rattle.link_rules.specs.Classes.{NamedClass, class_name_at, class_of_unit, class_numbered, classes_of}
use Rattle.link_rules.specs.Units.{AreUnits}
use Rattle.link_rules.proofs.Numbers.{in_library, file_class, is_file}
use Rattle.java_machine.specs.Ends.{class_name}

no_bytes : IsModifiedUtf8 []
no_bytes = ([], record { each = tt; joined = refl })

-- ---- the classes of files

module _ (u : ClassUnit) (formed : (i : ℕ) (text : List ℕ) → slice_get u.file.pool i ≡ Some (constants.Utf8 text) → IsModifiedUtf8 text) where
  entry_formed : (i : ℕ) → IsModifiedUtf8 (unwrap_or (utf8_of (slice_get u.file.pool i)) [])
  entry_formed i = of (slice_get u.file.pool i) refl
    where
      of : (o : Option Constant) → slice_get u.file.pool i ≡ o → IsModifiedUtf8 (unwrap_or (utf8_of o) [])
      of (Some (constants.Utf8 text)) at = formed i text at
      of _ at = no_bytes

  named : (o : Option Constant) → IsModifiedUtf8 (unwrap_or (class_name_of u.file.pool o) [])
  named (Some (constants.Class n)) = entry_formed n
  named _ = no_bytes

file_formed : (us : List ClassUnit) (k : ℕ) (u : ClassUnit) → AreUnits us → slice_get us k ≡ Some u → IsModifiedUtf8 (class_name_at u.file.pool u.file.this_class)
file_formed us k u decoded at =
    let stands = (decoded k u at).file in
    named u (λ i text here. text_is_formed stands.0 u.file i text stands.2 here) (slice_get u.file.pool u.file.this_class)

-- ---- the built-in classes

abbrev has_units : Option (List ℕ) → Bool
has_units (Some units) = true
has_units None = false

library_formed : (us : List ClassUnit) → map (λ c. has_units (units_of (class_name us c))) (range_with_len 1 28) ≡ map (λ _. true) (range_with_len 1 28)
unfolding library units_within
library_formed us = refl

with_units : (bytes : List ℕ) → has_units (units_of bytes) ≡ true → IsModifiedUtf8 bytes
with_units bytes is = of (units_of bytes) refl is
  where
    of : (o : Option (List ℕ)) → units_of bytes ≡ o → has_units o ≡ true → IsModifiedUtf8 bytes
    of (Some units) at is = (let are = (units_are bytes units).0 at in (are.0, are.1))
    of None at is = absurd (true≢false (sym is))

pub names_formed : (us : List ClassUnit) → AreUnits us → (c : ℕ) → IsModifiedUtf8 (class_name us c)
names_formed us decoded zero = no_bytes
names_formed us decoded (suc i) = elim (cases_lt 28 (suc i)) [
  | inr low ↦ with_units (class_name us (suc i)) (in_library 1 28 (λ c. has_units (units_of (class_name us c))) (λ _. true) (library_formed us) (suc i) (omega arith) (omega arith))
  | inl read ↦ elim (cases_lt (length (classes_of us)) (suc i)) [
    | inl past ↦
        let none : slice_get (classes_of us) i ≡ None = slice_get_past (classes_of us) i (omega arith) in
        subst (λ o. IsModifiedUtf8 (unwrap_or (option_map (λ (k : NamedClass). k.name) o) [])) (sym none) no_bytes
    | inr within ↦ of_file (is_file us (suc i) read within)
  ]
]
  where
    of_file : (k : ℕ) × (u : ClassUnit) × (slice_get us k ≡ Some u) × (suc i ≡ Rattle.link_rules.specs.Classes.number_of_file k) → IsModifiedUtf8 (class_name us (suc i))
    of_file (k, u, at, number) =
        let its : class_name us (suc i) ≡ class_name_at u.file.pool u.file.this_class =
        ap (class_name us) number ∙ ap (λ o. unwrap_or (option_map (λ (x : NamedClass). x.name) o) []) (file_class us k u at) in
        subst IsModifiedUtf8 (sym its) (file_formed us k u decoded at)
