-- Each program has the class of char arrays.
use Rattle.std.proofs.Common.{◌≡◌, ◌<◌, ◌-◌, ◌&&◌, ℕ, suc, Bool, true, false, Option, None, Some, List, [], ◌∷◌, length, refl, ap, ◌∙◌, arith, slice_get, nat_le, if◌then◌else◌}
use Rattle.std.specs.Prelude.{IsSomeAnd, unwrap_or, option_map}
use Rattle.std.proofs.lemmas.Bool.{le-leb, leb-false}
use Rattle.std.proofs.lemmas.Option.{none-some, slice_get_within}
use Rattle.class_names.specs.Reading.{spells_class_name, split_at_semicolon, base_at, kind_at}
use Rattle.class_names.specs.Kinds.{kinds_within}
use Rattle.code_decode.specs.declared.code.ClassUnit.{ClassUnit}
use Rattle.instructions.specs.declared.operation.PrimitiveType.TheVariants.{Char}
use Rattle.link_rules.specs.Arrays.{primitive_array, arguments_array}
use Rattle.link_rules.specs.Classes.{classes_of}
use Rattle.link_rules.specs.Names.{program_names, array_number, array_numbered, type_named, class_count}
use Rattle.link_rules.proofs.Arrays.{arrays}
use Rattle.link_rules.proofs.Lists.{contains_head}
use Rattle.row_soundness.specs.Texts.{char_array}
use Rattle.builtin_facts.specs.Facts.{HasCharArrays}

type_is : (us : List ClassUnit) → type_named (program_names us) (primitive_array Char) ≡ char_array
unfolding spells_class_name split_at_semicolon base_at kind_at kinds_within
type_is us = refl

module _ (us : List ClassUnit) where
  -- a number of an array class is above those of the other classes, and has its name
  numbered : (n : ℕ) (b : Bool) → nat_le n (length (classes_of us)) ≡ b → (if b then None else slice_get (program_names us).arrays (n - suc (length (classes_of us)))) ≡ Some (primitive_array Char)
      → (length (classes_of us) < n) × (slice_get (program_names us).arrays (n - suc (length (classes_of us))) ≡ Some (primitive_array Char))
  numbered n true e is = absurd (none-some (primitive_array Char) is)
  numbered n false e is = (leb-false n (length (classes_of us)) e, is)

  both : (a b : Bool) → a ≡ true → b ≡ true → (a && b) ≡ true
  both true b e f = f
  both false b e f = cc

  of_number : (n : ℕ) → array_number (program_names us) (primitive_array Char) ≡ Some n → array_numbered (program_names us) n ≡ Some (primitive_array Char) → HasCharArrays us
  of_number n number is =
      let found = numbered n (nat_le n (length (classes_of us))) refl is in
      let above : length (classes_of us) < n = found.0 in
      let within : n - suc (length (classes_of us)) < length (program_names us).arrays = slice_get_within (program_names us).arrays (n - suc (length (classes_of us))) (primitive_array Char) found.1 in
      record {
        number = n;
        named = number;
        array = above;
        class = both (nat_le 1 n) (nat_le n (class_count (program_names us))) (le-leb 1 n (omega (arith, above))) (le-leb n (class_count (program_names us)) (omega (arith, above, within)));
        type = ap (λ o. unwrap_or (option_map (type_named (program_names us)) o) (Rattle.link_types.specs.declared.types.ObjectType.TheVariants.Class n)) is ∙ type_is us;
      }

  char_arrays_from : (o : Option ℕ) → array_number (program_names us) (primitive_array Char) ≡ o → IsSomeAnd o (λ c. array_numbered (program_names us) c ≡ Some (primitive_array Char)) → HasCharArrays us
  char_arrays_from (Some n) e is = of_number n e is
  char_arrays_from None e is = absurd is

pub char_arrays : (us : List ClassUnit) → HasCharArrays us
char_arrays us =
    char_arrays_from us (array_number (program_names us) (primitive_array Char)) refl ((arrays us).always (primitive_array Char) (contains_head (primitive_array Char) (arguments_array ∷ [])) refl)
