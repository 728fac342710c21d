-- Which type is below which one, over a relation of classes (JVMS 4.10.1.2, 6.5 instanceof).
use Rattle.std.specs.Prelude.{ℕ, Bool, true, false, ◌==◌, ◌&&◌, nat_lt, if◌then◌else◌}
use Rattle.builtin_world.specs.declared.number.TheConstants.{OBJECT}
use Rattle.link_types.specs.declared.types.ElementType.{ElementType}
use Rattle.link_types.specs.declared.types.ElementType.TheVariants as elements
use Rattle.link_types.specs.declared.types.ObjectType.{ObjectType}
use Rattle.link_types.specs.declared.types.ObjectType.TheVariants.{Class, Other, Array}

-- A class that the program hasn't got is below itself and Object alone.
abbrev pub is_element_below : (ℕ → ℕ → Bool) → ElementType → ElementType → Bool
is_element_below is_class_below elements.Boolean elements.Boolean = true
is_element_below is_class_below elements.Byte elements.Byte = true
is_element_below is_class_below elements.Char elements.Char = true
is_element_below is_class_below elements.Short elements.Short = true
is_element_below is_class_below elements.Int elements.Int = true
is_element_below is_class_below elements.Long elements.Long = true
is_element_below is_class_below elements.Float elements.Float = true
is_element_below is_class_below elements.Double elements.Double = true
is_element_below is_class_below (elements.Class c) (elements.Class d) = is_class_below c d
is_element_below is_class_below (elements.Other m) (elements.Class d) = d == OBJECT
is_element_below is_class_below (elements.Other m) (elements.Other n) = m == n
is_element_below is_class_below _ _ = false

abbrev pub is_object_element : ElementType → Bool
is_object_element (elements.Class c) = c == OBJECT
is_object_element _ = false

-- An array is below Object, below arrays of as many dimensions by its elements, and below arrays of Object of fewer.
abbrev pub is_object_below : (ℕ → ℕ → Bool) → ObjectType → ObjectType → Bool
is_object_below is_class_below (Class c) (Class d) = is_class_below c d
is_object_below is_class_below (Other m) (Class d) = d == OBJECT
is_object_below is_class_below (Other m) (Other n) = m == n
is_object_below is_class_below (Array a x) (Class d) = d == OBJECT
is_object_below is_class_below (Array a x) (Array b y) =
    if a == b then is_element_below is_class_below x y else nat_lt b a && is_object_element y
is_object_below is_class_below _ _ = false
