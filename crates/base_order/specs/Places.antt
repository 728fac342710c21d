-- The places of types in a list.
use Rattle.std.specs.Prelude.{◌≡◌, ℕ, ◌<◌, Option, Some, List, length, slice_get}
use Rattle.link_types.specs.declared.types.ElementType.{ElementType}
use Rattle.base_order.specs.Slots.{slot_of}

-- the places of the first types of a list, by the numbers of types
pub record ArePlaces (bases : List ElementType) (n : ℕ) (places : List (Option ℕ)) : Type 0 where
  pub only : (slot place : ℕ) → slice_get places slot ≡ Some (Some place) → (base : ElementType) × (slice_get bases place ≡ Some base) × (slot_of base ≡ Some slot)
  pub there : (i slot : ℕ) (base : ElementType) → i < n → slice_get bases i ≡ Some base → slot_of base ≡ Some slot → slot < length places
      → (place : ℕ) × (slice_get places slot ≡ Some (Some place))
