-- The types of innermost elements of a program (JVMS 4.3.2).
use Rattle.std.specs.Prelude.{◌≢◌, ◌≤◌, ℕ, List, [], ◌∷◌, ◌++◌, length, map, Contains}
use Rattle.std.specs.Option.{option_map_or}
use Rattle.code_decode.specs.declared.code.ClassUnit.{ClassUnit}
use Rattle.link_types.specs.declared.types.ElementType.{ElementType}
use Rattle.link_types.specs.declared.types.ElementType.TheVariants.{Boolean, Byte, Char, Short, Int, Long, Float, Double, Class, Other}
use Rattle.link_rules.specs.Classes.{NamedClass, class_numbered, classes_of}
use Rattle.array_order.specs.Order.{AreBases}
use Rattle.base_order.specs.declared.text.BaseText.{BaseText}

abbrev pub name_of : List NamedClass → ℕ → List ℕ
name_of cs c = option_map_or (λ (k : NamedClass). k.name) (class_numbered cs c) []

-- the descriptor of a type of innermost elements
abbrev pub base_text : List NamedClass → ElementType → List ℕ
base_text cs Boolean = 90 ∷ []
base_text cs Byte = 66 ∷ []
base_text cs Char = 67 ∷ []
base_text cs Short = 83 ∷ []
base_text cs Int = 73 ∷ []
base_text cs Long = 74 ∷ []
base_text cs Float = 70 ∷ []
base_text cs Double = 68 ∷ []
base_text cs (Class c) = 76 ∷ (name_of cs c ++ 59 ∷ [])
base_text cs (Other n) = []

abbrev pub text_of_base : List ℕ → ElementType → BaseText
text_of_base text base = record { text = text; base = base }

abbrev pub class_type : ℕ → ElementType
class_type c = Class c

abbrev pub primitive_bases : List BaseText
primitive_bases =
    text_of_base (90 ∷ []) Boolean
    ∷ text_of_base (66 ∷ []) Byte
    ∷ text_of_base (67 ∷ []) Char
    ∷ text_of_base (83 ∷ []) Short
    ∷ text_of_base (73 ∷ []) Int
    ∷ text_of_base (74 ∷ []) Long
    ∷ text_of_base (70 ∷ []) Float
    ∷ text_of_base (68 ∷ []) Double
    ∷ []

abbrev pub class_base : List NamedClass → ℕ → BaseText
class_base cs c = text_of_base (base_text cs (class_type c)) (class_type c)

-- a type of innermost elements that a program has
abbrev pub IsBase : List NamedClass → ElementType → Type 0
IsBase cs (Class c) = (c ≢ 0) × (c ≤ length cs)
IsBase cs (Other n) = ⊥
IsBase cs _ = Unit {0}

-- these types by the bytes of their descriptors
pub record AreBasesOf (us : List ClassUnit) (bases : List ElementType) : Type 0 where
  pub order : AreBases (map (base_text (classes_of us)) bases)
  pub there : (base : ElementType) → IsBase (classes_of us) base → Contains (map (base_text (classes_of us)) bases) (base_text (classes_of us) base)
  pub only : (base : ElementType) → Contains bases base → IsBase (classes_of us) base
