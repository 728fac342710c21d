-- The first place at which lists of words differ.
use Rattle.std.specs.Prelude.{◌≡◌, ℕ, ◌≤◌, ◌<◌, false, Option, Some, None}
use Rattle.type_rules.specs.declared.types.VerificationType.{VerificationType}
use Rattle.type_rules.specs.Assignable.{is_same_type}

-- the same words from a place on, before an end
abbrev pub AreSameWithin : (ℕ → VerificationType) → (ℕ → VerificationType) → ℕ → ℕ → Type 0
AreSameWithin f g from end = (n : ℕ) → from ≤ n → n < end → f n ≡ g n

-- words of different types at a place, and the same ones before it, from a place on
abbrev pub DifferAt : (ℕ → VerificationType) → (ℕ → VerificationType) → ℕ → ℕ → Type 0
DifferAt f g from at = (from ≤ at) × (is_same_type (f at) (g at) ≡ false) × AreSameWithin f g from at

-- the first place, from one on and before an end, at which words differ
abbrev pub FirstWithin : (ℕ → VerificationType) → (ℕ → VerificationType) → ℕ → ℕ → Option ℕ → Type 0
FirstWithin f g from end None = AreSameWithin f g from end
FirstWithin f g from end (Some at) = (at < end) × DifferAt f g from at

-- .. and before none
abbrev pub FirstDifference : (ℕ → VerificationType) → (ℕ → VerificationType) → ℕ → Option ℕ → Type 0
FirstDifference f g from None = (n : ℕ) → from ≤ n → f n ≡ g n
FirstDifference f g from (Some at) = DifferAt f g from at
