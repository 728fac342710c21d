-- Types in the order of their descriptors.
use Rattle.std.specs.Prelude.{◌≡◌, ℕ, List, Some, IsSome, Contains, map}
use Rattle.std.specs.BTreeMap.{BTreeMap, get_by, IsOrdered}
use Rattle.std.specs.Borrow.{Bor}
use Rattle.std.specs.Cmp.Lexicographic.{slice_cmp}
use Rattle.std.specs.Ordering.{nat_cmp}
use Rattle.link_types.specs.declared.types.ElementType.{ElementType}
use Rattle.array_order.specs.Order.{StandInOrder}
use Rattle.base_order.specs.declared.text.BaseText.{BaseText}

-- a map has the types of these descriptors
abbrev pub found : BTreeMap (Bor (List ℕ)) ElementType → List ℕ → Rattle.std.specs.Prelude.Option ElementType
found known text = get_by (λ k. slice_cmp nat_cmp text k.now) known

pub record KnowsTexts (texts : List BaseText) (known : BTreeMap (Bor (List ℕ)) ElementType) : Type 0 where
  pub there : (t : BaseText) → Contains texts t → IsSome (found known t.text)
  pub only : (text : List ℕ) (base : ElementType) → found known text ≡ Some base → (t : BaseText) × Contains texts t × (t.text ≡ text) × (t.base ≡ base)
  pub ordered : IsOrdered (λ x y. slice_cmp nat_cmp x.now y.now) known

-- types are in the order of their descriptors, where each has the descriptor that is given for it
pub record AreInOrder (descriptor : ElementType → List ℕ) (texts : List BaseText) (bases : List ElementType) : Type 0 where
  pub order : ((t : BaseText) → Contains texts t → descriptor t.base ≡ t.text) → StandInOrder (map descriptor bases)
  pub there : ((t : BaseText) → Contains texts t → descriptor t.base ≡ t.text) → (t : BaseText) → Contains texts t → Contains (map descriptor bases) t.text
  pub only : (base : ElementType) → Contains bases base → (t : BaseText) × Contains texts t × (t.base ≡ base)
