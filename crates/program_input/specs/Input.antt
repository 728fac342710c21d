-- Reading a source piece by piece.
use Rattle.std.specs.Prelude.{◌≡◌, ℕ, ◌-◌, ◌<◌, ◌≤◌, min, List, [], ◌∷◌, drop, Option, None, Some}
use Rattle.jr_ports.specs.Stream.{Gains, Taken}

-- Calls of a source up to its end or up to `most` bytes: each asks for 65,536 bytes, or for what is still missing if
-- that is less, and none is made after the end.
abbrev pub AreTakes : ℕ → List Taken → Type 0
AreTakes most [] = Unit {0}
AreTakes most (t ∷ takes) =
    (0 < most) × (t.asked ≡ min most 65536) × (t.came ≡ 0 → takes ≡ []) × AreTakes (most - t.came) takes

-- a source that says which calls were made was called like this
abbrev pub TakesUpTo : ℕ → Option (List Taken) → Option (List Taken) → Type 0
TakesUpTo most before after = (takes : List Taken) × AreTakes most takes × Gains before after takes

-- at most `most` bytes were taken of what the source had
abbrev pub TakesAtMost : ℕ → Option (List ℕ) → Option (List ℕ) → Type 0
TakesAtMost most None after = Unit {0}
TakesAtMost most (Some left) after = (taken : ℕ) × (taken ≤ most) × (after ≡ Some (drop taken left))
