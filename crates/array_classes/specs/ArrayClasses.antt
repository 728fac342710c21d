-- The array classes of a linked program.
use Rattle.std.specs.Prelude.{◌==◌, ◌&&◌, ℕ, Bool, true, false, Option, None, Some, List}
use Rattle.code_decode.specs.declared.code.ClassUnit.{ClassUnit}
use Rattle.link_types.specs.declared.types.ElementType.{ElementType}
use Rattle.link_types.specs.declared.types.ElementType.TheVariants.{Boolean, Byte, Char, Short, Int, Long, Float, Double, Class, Other}
use Rattle.array_kinds.specs.declared.kind.ArrayKind.{ArrayKind}
use Rattle.array_classes.specs.declared.classes.ArrayClasses.{ArrayClasses}
use Rattle.array_classes.specs.Numbers.{AreNumbersOf}

-- these are the array classes of a program
pub record AreArraysOf (us : List ClassUnit) (arrays : ArrayClasses) : Type 0 where
  pub are : AreNumbersOf us arrays.numbers

abbrev pub is_long : ElementType → Bool
is_long Long = true
is_long Boolean = false
is_long Byte = false
is_long Char = false
is_long Short = false
is_long Int = false
is_long Float = false
is_long Double = false
is_long (Class c) = false
is_long (Other n) = false

-- the elements of an array are longs
abbrev pub has_longs : ArrayKind → Bool
has_longs a = a.dimensions == 1 && is_long a.base

-- the class of innermost elements
abbrev pub class_in : ElementType → Option ℕ
class_in (Class c) = Some c
class_in Boolean = None
class_in Byte = None
class_in Char = None
class_in Short = None
class_in Int = None
class_in Long = None
class_in Float = None
class_in Double = None
class_in (Other n) = None
