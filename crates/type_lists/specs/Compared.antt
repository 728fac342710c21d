-- Lists that are compared word by word.
use Rattle.std.specs.Prelude.{◌≡◌, ◌≤◌, ◌<◌, ℕ, Bool, true, false, ◌==◌, ◌&&◌, List}
use Rattle.std.specs.HashSet.{contains}
use Rattle.type_rules.specs.Assignable.{Hierarchy, is_assignable}
use Rattle.type_lists.specs.declared.parts.Part.{Part}
use Rattle.type_lists.specs.declared.known.KnownPairs.{KnownPairs}
use Rattle.type_lists.specs.Parts.{room, word_of}

-- whether a pair of parts of one height is known
abbrev pub knows : KnownPairs → ℕ → ℕ → ℕ → Bool
knows known height low high = contains (λ x y. x.0 == y.0 && x.1 == y.1 && x.2 == y.2) known.pairs (height, low, high)

-- word by word, as far as parts of the height have words
abbrev pub AreAssignable : Hierarchy → List Part → ℕ → ℕ → ℕ → Type 0
AreAssignable h parts height low high =
    (n : ℕ) → n < room height → is_assignable h (word_of parts height low n) (word_of parts height high n) ≡ true

-- a word that isn't assignable
abbrev pub AreApart : Hierarchy → List Part → ℕ → ℕ → ℕ → Type 0
AreApart h parts height low high =
    (n : ℕ) × (n < room height) × (is_assignable h (word_of parts height low n) (word_of parts height high n) ≡ false)

-- each pair that is known is one of parts up to a number, and assignable
abbrev pub KnowsRightly : Hierarchy → List Part → ℕ → KnownPairs → Type 0
KnowsRightly h parts bound known =
    (height low high : ℕ) → knows known height low high ≡ true
    → (low ≤ bound) × (high ≤ bound) × AreAssignable h parts height low high
