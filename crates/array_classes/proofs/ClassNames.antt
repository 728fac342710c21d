-- The classes of a program have class names.
use Rattle.std.proofs.Common.{◌≡◌, ℕ, true, false, List, [], map, Some, slice_get, unwrap_or, inl, inr, refl, sym, ap, subst, ◌∙◌, arith}
use Rattle.std.specs.List.{range_with_len}
use Rattle.std.specs.Option.{option_map_or}
use Rattle.std.proofs.lemmas.Bool.{cases_lt}
use Rattle.builtin_world.specs.Library.{library}
use Rattle.class_names.specs.Names.{IsClassName}
use Rattle.class_names.specs.Reading.{spells_class_name}
use Rattle.class_names.proofs.NameLaws.{name_spelled}
use Rattle.class_pool.proofs.LookupLaws.{class_again}
use Rattle.code_decode.specs.declared.code.ClassUnit.{ClassUnit}
use Rattle.code_laws.proofs.FileLaws.{header}
use Rattle.link_rules.specs.Classes.{NamedClass, classes_of, class_of_unit, number_of_file}
use Rattle.link_rules.specs.Units.{AreUnits}
use Rattle.link_rules.proofs.Numbers.{in_library, file_class, is_file}
use Rattle.base_order.specs.Bases.{name_of}
use Rattle.array_classes.specs.Numbers.{AreNamed}

library_named : (us : List ClassUnit) → map (λ c. spells_class_name false (name_of (classes_of us) c)) (range_with_len 1 28) ≡ map (λ _. true) (range_with_len 1 28)
unfolding library spells_class_name
library_named us = refl

pub classes_named : (us : List ClassUnit) → AreUnits us → AreNamed (classes_of us)
classes_named us decoded c is = elim (cases_lt 28 c) [
  | inr low ↦ name_spelled (name_of (classes_of us) c)
      (in_library 1 28 (λ c. spells_class_name false (name_of (classes_of us) c)) (λ _. true) (library_named us) c (let some = is.0 in omega (arith, some)) (omega arith))
  | inl read ↦ of_file (is_file us c read is.1)
]
  where
    of_file : (k : ℕ) × (u : ClassUnit) × (slice_get us k ≡ Some u) × (c ≡ number_of_file k) → IsClassName (name_of (classes_of us) c)
    of_file (k, u, at, number) =
        let named = (header u.file (decoded k u at).file).this_class in
        let its : name_of (classes_of us) c ≡ (class_of_unit u).name =
        ap (name_of (classes_of us)) number ∙ ap (λ o. option_map_or (λ (x : NamedClass). x.name) o []) (file_class us k u at) in
        subst IsClassName (sym (its ∙ ap (λ o. unwrap_or o []) (class_again u.file.pool u.file.this_class named.0 named.1))) named.2
