-- Array types and their descriptors (JVMS 4.3.2, 4.4.1).
use Rattle.std.specs.Prelude.{◌≡◌, ℕ, suc, ◌<◌, ◌≤◌, nat_lt, Option, None, Some, List, [], ◌∷◌, if◌then◌else◌}
use Rattle.class_names.specs.declared.kind.BaseKind.{BaseKind}
use Rattle.class_names.specs.Descriptor.{base_text as kind_base_text, IsBaseKind}
use Rattle.instructions.specs.declared.operation.PrimitiveType.{PrimitiveType}
use Rattle.instructions.specs.declared.operation.PrimitiveType.TheVariants as primitives
use Rattle.link_types.specs.declared.types.ElementType.{ElementType}
use Rattle.link_types.specs.declared.types.ElementType.TheVariants as elements
use Rattle.link_types.specs.declared.types.ObjectType.{ObjectType}
use Rattle.link_types.specs.declared.types.ObjectType.TheVariants.{Class, Other, Array}
use Rattle.link_rules.specs.Classes.{NamedClass}
use Rattle.link_rules.specs.Names.{ProgramNames, element_type_of}
use Rattle.array_order.specs.Order.{array_text}
use Rattle.base_order.specs.Bases.{IsBase}
use Rattle.array_kinds.specs.declared.kind.ArrayKind.{ArrayKind}

abbrev pub array_kind : ℕ → ElementType → ArrayKind
array_kind d base = record { dimensions = d; base = base }

-- the array type that a type is
abbrev pub array_itself : ObjectType → Option ArrayKind
array_itself (Array d base) = Some (array_kind d base)
array_itself (Class c) = None
array_itself (Other n) = None

-- the type of the arrays whose elements are of a type
abbrev pub array_of_type : ObjectType → Option ArrayKind
array_of_type (Class c) = Some (array_kind 1 (elements.Class c))
array_of_type (Other n) = Some (array_kind 1 (elements.Other n))
array_of_type (Array d base) = if nat_lt d 255 then Some (array_kind (suc d) base) else None

abbrev pub primitive_element : PrimitiveType → ElementType
primitive_element primitives.Boolean = elements.Boolean
primitive_element primitives.Char = elements.Char
primitive_element primitives.Byte = elements.Byte
primitive_element primitives.Short = elements.Short
primitive_element primitives.Int = elements.Int
primitive_element primitives.Long = elements.Long

-- the type of the arrays that newarray makes
abbrev pub primitive_kind : PrimitiveType → ArrayKind
primitive_kind kind = array_kind 1 (primitive_element kind)

-- a text is the descriptor of an array type of a program
pub record Spells (p : ProgramNames) (a : ArrayKind) (text : List ℕ) : Type 0 where
  pub base : BaseKind
  pub good : IsBaseKind base
  pub spelled : text ≡ array_text a.dimensions (kind_base_text base)
  pub base_is : a.base ≡ element_type_of p base
  pub some : 0 < a.dimensions
  pub few : a.dimensions ≤ 255

-- these texts are the descriptor of an array type, where there is one
abbrev pub SpellKind : ProgramNames → Option ArrayKind → List (List ℕ) → Type 0
SpellKind p None texts = texts ≡ []
SpellKind p (Some a) texts = (text : List ℕ) × (texts ≡ text ∷ []) × Spells p a text

-- the class of a type is there, of an array that of its innermost elements
abbrev pub IsTypeThere : List NamedClass → ObjectType → Type 0
IsTypeThere cs (Class c) = IsBase cs (elements.Class c)
IsTypeThere cs (Other n) = ⊥
IsTypeThere cs (Array d base) = IsBase cs base
