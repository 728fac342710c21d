-- The objects at the start of a program.
use Rattle.std.specs.Prelude.{◌≡◌, ℕ, ◌-◌, suc, None, List, [], map, nat_le, slice_get, unwrap_or, if◌then◌else◌}
use Rattle.std.specs.Option.{option_map_or}
use Rattle.builtin_world.specs.declared.number.TheConstants.{COUNT}
use Rattle.code_decode.specs.declared.code.ClassUnit.{ClassUnit}
use Rattle.link_rules.specs.Names.{program_names}
use Rattle.link_rules.specs.FixedObjects.{system_out_object, first_free, class_words_of_unit}
use Rattle.start_objects.specs.declared.start.StartObjects.{StartObjects}

-- a word of the class object of a file's class
abbrev pub kept_word : List (List ℕ) → ℕ → ℕ → ℕ
kept_word files c i =
    unwrap_or (slice_get (option_map_or (λ (words : List ℕ). words) (if nat_le c COUNT then None else slice_get files (c - suc COUNT)) []) i) 0

pub record AreStartObjectsOf (us : List ClassUnit) (objects : StartObjects) : Type 0 where
  pub out : objects.places.system_out ≡ system_out_object (program_names us)
  pub free : objects.places.free ≡ first_free (program_names us)
  pub statics : objects.statics.items ≡ map (class_words_of_unit (program_names us)) us
