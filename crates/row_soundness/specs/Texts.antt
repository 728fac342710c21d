-- Texts that a program makes.
use Rattle.std.specs.Prelude.{◌<◌, ◌^◌, ℕ, List}
use Rattle.std.specs.List.{AllByRecursion}
use Rattle.link_types.specs.declared.types.ElementType.TheVariants.{Char}
use Rattle.link_types.specs.declared.types.ObjectType.{ObjectType}
use Rattle.link_types.specs.declared.types.ObjectType.TheVariants.{Array}

-- the type of the array with the units of a String
abbrev pub char_array : ObjectType
char_array = Array 1 Char

-- each unit is a word
abbrev pub AreWords : List ℕ → Type 0
AreWords units = AllByRecursion (λ v. v < 2 ^ 32) units
