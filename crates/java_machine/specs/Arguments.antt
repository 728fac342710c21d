-- The type of the array of the arguments of main.
use Rattle.std.specs.Prelude.{Bool, false, ◌==◌, ◌&&◌}
use Rattle.builtin_world.specs.declared.number.TheConstants.{STRING}
use Rattle.link_types.specs.declared.types.ElementType.TheVariants.{Class}
use Rattle.link_types.specs.declared.types.ObjectType.{ObjectType}
use Rattle.link_types.specs.declared.types.ObjectType.TheVariants.{Array}

abbrev pub is_string_array : ObjectType → Bool
is_string_array (Array dimensions (Class c)) = dimensions == 1 && c == STRING
is_string_array _ = false
