-- Types by their numbers.
use Rattle.std.specs.Prelude.{ℕ, ◌+◌, Option, None, Some, List, slice_get}
use Rattle.std.specs.Option.{option_and_then, option_flatten}
use Rattle.link_types.specs.declared.types.ElementType.{ElementType}
use Rattle.link_types.specs.declared.types.ElementType.TheVariants.{Boolean, Byte, Char, Short, Int, Long, Float, Double, Class, Other}

-- the primitive types first, then the classes by number
abbrev pub slot_of : ElementType → Option ℕ
slot_of Boolean = Some 0
slot_of Byte = Some 1
slot_of Char = Some 2
slot_of Short = Some 3
slot_of Int = Some 4
slot_of Long = Some 5
slot_of Float = Some 6
slot_of Double = Some 7
slot_of (Class c) = Some (8 + c)
slot_of (Other n) = None

-- the place that is kept for a type
abbrev pub kept_at : List (Option ℕ) → ElementType → Option ℕ
kept_at places base = option_and_then (λ slot. option_flatten (slice_get places slot)) (slot_of base)
