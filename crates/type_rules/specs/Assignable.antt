-- Which type is assignable to which (JVMS 4.10.1.2).
use Rattle.std.specs.Prelude.{ℕ, Bool, true, false, ◌==◌, ◌&&◌, ◌||◌, not, List, [], ◌∷◌}
use Rattle.builtin_world.specs.declared.number.TheConstants.{OBJECT}
use Rattle.link_types.specs.declared.types.ElementType.{ElementType}
use Rattle.link_types.specs.declared.types.ElementType.TheVariants as elements
use Rattle.link_types.specs.declared.types.ObjectType.{ObjectType}
use Rattle.link_types.specs.declared.types.ObjectType.TheVariants.{Class, Other, Array}
use Rattle.link_types.specs.Subtypes.{is_object_below}
use Rattle.type_rules.specs.declared.types.VerificationType.{VerificationType}
use Rattle.type_rules.specs.declared.types.VerificationType.TheVariants.{Top, Int, Float, Long, Double, Second, Null, UninitThis, Uninit, Object}

-- the classes of a program, as assignability sees them
pub record Hierarchy : Type 0 where
  pub is_interface : ℕ → Bool
  -- the second class is the first one, or above it by superclasses
  pub is_superclass : ℕ → ℕ → Bool

-- An interface takes every class and every interface of the program; what is below an interface isn't asked, so this is
-- no order, and two steps may lead where one doesn't.
abbrev pub is_class_assignable : Hierarchy → ℕ → ℕ → Bool
is_class_assignable h low high =
    high == OBJECT || (h.is_interface high || (not (h.is_interface low) && h.is_superclass low high))

-- of references
abbrev pub is_object_assignable : Hierarchy → ObjectType → ObjectType → Bool
is_object_assignable h low high = is_object_below (is_class_assignable h) low high

abbrev pub is_assignable : Hierarchy → VerificationType → VerificationType → Bool
is_assignable h type Top = true
is_assignable h Int Int = true
is_assignable h Float Float = true
is_assignable h Long Long = true
is_assignable h Double Double = true
is_assignable h Second Second = true
is_assignable h Null Null = true
is_assignable h UninitThis UninitThis = true
is_assignable h (Uninit p) (Uninit q) = p == q
is_assignable h Null (Object t) = true
is_assignable h (Object s) (Object t) = is_object_assignable h s t
is_assignable h _ _ = false

-- word by word, and of one length
abbrev pub are_assignable : Hierarchy → List VerificationType → List VerificationType → Bool
are_assignable h [] [] = true
are_assignable h (a ∷ as') (b ∷ bs) = is_assignable h a b && are_assignable h as' bs
are_assignable h _ _ = false

-- word by word, where what a list doesn't have is Top
abbrev pub are_locals_assignable : Hierarchy → List VerificationType → List VerificationType → Bool
are_locals_assignable h as' [] = true
are_locals_assignable h [] (b ∷ bs) = is_assignable h Top b && are_locals_assignable h [] bs
are_locals_assignable h (a ∷ as') (b ∷ bs) = is_assignable h a b && are_locals_assignable h as' bs

-- ---- the same type

abbrev pub is_same_element : ElementType → ElementType → Bool
is_same_element elements.Boolean elements.Boolean = true
is_same_element elements.Byte elements.Byte = true
is_same_element elements.Char elements.Char = true
is_same_element elements.Short elements.Short = true
is_same_element elements.Int elements.Int = true
is_same_element elements.Long elements.Long = true
is_same_element elements.Float elements.Float = true
is_same_element elements.Double elements.Double = true
is_same_element (elements.Class c) (elements.Class d) = c == d
is_same_element (elements.Other m) (elements.Other n) = m == n
is_same_element _ _ = false

abbrev pub is_same_object : ObjectType → ObjectType → Bool
is_same_object (Class c) (Class d) = c == d
is_same_object (Other m) (Other n) = m == n
is_same_object (Array a x) (Array b y) = a == b && is_same_element x y
is_same_object _ _ = false

abbrev pub is_same_type : VerificationType → VerificationType → Bool
is_same_type Top Top = true
is_same_type Int Int = true
is_same_type Float Float = true
is_same_type Long Long = true
is_same_type Double Double = true
is_same_type Second Second = true
is_same_type Null Null = true
is_same_type UninitThis UninitThis = true
is_same_type (Uninit p) (Uninit q) = p == q
is_same_type (Object s) (Object t) = is_same_object s t
is_same_type _ _ = false

abbrev pub are_same_types : List VerificationType → List VerificationType → Bool
are_same_types [] [] = true
are_same_types (a ∷ as') (b ∷ bs) = is_same_type a b && are_same_types as' bs
are_same_types _ _ = false
