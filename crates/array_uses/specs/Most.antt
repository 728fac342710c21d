-- How many dimensions the arrays that a program uses have at most, by the bases of their descriptors.
use Rattle.std.specs.Prelude.{◌≡◌, ℕ, ◌<◌, ◌≤◌, Option, None, Some, List, [], ◌∷◌, ◌++◌, map, length, flat_map}
use Rattle.code_decode.specs.declared.code.ClassUnit.{ClassUnit}
use Rattle.link_rules.specs.Classes.{NamedClass, classes_of}
use Rattle.link_rules.specs.Arrays.{arrays_always, arrays_of_unit}
use Rattle.array_order.specs.Order.{array_text, AreMost}
use Rattle.base_order.specs.declared.order.BaseOrder.{BaseOrder}
use Rattle.base_order.specs.Bases.{base_text, IsBase}
use Rattle.array_kinds.specs.declared.kind.ArrayKind.{ArrayKind}

-- a text is the descriptor of an array type whose innermost elements the program has
pub record IsArrayIn (cs : List NamedClass) (a : ArrayKind) (text : List ℕ) : Type 0 where
  pub base : IsBase cs a.base
  pub spelled : text ≡ array_text a.dimensions (base_text cs a.base)
  pub some : 0 < a.dimensions
  pub few : a.dimensions ≤ 255

-- these texts are the descriptor of an array type, where there is one
abbrev pub AreUsed : List NamedClass → Option ArrayKind → List (List ℕ) → Type 0
AreUsed cs None texts = texts ≡ []
AreUsed cs (Some a) texts = (text : List ℕ) × (texts ≡ text ∷ []) × IsArrayIn cs a text

-- the descriptors of bases in their order
abbrev pub base_texts : List ClassUnit → BaseOrder → List (List ℕ)
base_texts us order = map (base_text (classes_of us)) order.bases.items

-- the most dimensions of arrays of each base, among some descriptors
pub record IsMost (us : List ClassUnit) (order : BaseOrder) (arrays : List (List ℕ)) (most : List ℕ) : Type 0 where
  pub count : length most ≡ length order.bases.items
  pub are : AreMost arrays (base_texts us order) most

-- the same with further descriptors
abbrev pub MostGrows : List ClassUnit → BaseOrder → List ℕ → List ℕ → List (List ℕ) → Type 0
MostGrows us order old new more = (arrays : List (List ℕ)) → IsMost us order arrays old → IsMost us order (arrays ++ more) new

-- the array classes that a program has before those of their elements
abbrev pub program_arrays : List ClassUnit → List (List ℕ)
program_arrays us = arrays_always ++ flat_map arrays_of_unit us
