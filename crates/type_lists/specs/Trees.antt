-- Trees whose parts may be changed: those that are newer than the kept ones, and are in the tree at one place each.
use Rattle.std.specs.Prelude.{◌≡◌, ℕ, zero, suc, ◌<◌, ◌≤◌, ◌⊎◌, List, length}
use Rattle.type_rules.specs.declared.types.VerificationType.{VerificationType}
use Rattle.type_lists.specs.declared.parts.Part.{Part}
use Rattle.type_lists.specs.Parts.{part_at, child_at, word_of, with_word}

-- a part that isn't kept is in the tree below a part at a height
abbrev pub IsIn : List Part → ℕ → ℕ → ℕ → ℕ → Type 0
IsIn parts kept zero part q = (kept < part) × (part ≡ q)
IsIn parts kept (suc height) part q =
    (kept < part) × ((part ≡ q) ⊎ ((j : ℕ) × IsIn parts kept height (child_at parts part j) q))

-- no part that isn't kept is there twice
abbrev pub IsTree : List Part → ℕ → ℕ → ℕ → Type 0
IsTree parts kept zero part = Unit {0}
IsTree parts kept (suc height) part =
    kept < part
    → ((j : ℕ) → IsTree parts kept height (child_at parts part j))
    × ((i j q : ℕ) → IsIn parts kept height (child_at parts part i) q → IsIn parts kept height (child_at parts part j) q → i ≡ j)
    × ((j : ℕ) → ¬ IsIn parts kept height (child_at parts part j) part)

-- no other parts were changed than those of a tree
abbrev pub Touches : List Part → List Part → ℕ → ℕ → ℕ → Type 0
Touches old new kept height part =
    (length old ≤ length new)
    × ((q : ℕ) → q ≤ length old → ¬ IsIn old kept height part q → part_at new q ≡ part_at old q)

-- a tree was made of another one by a change of a word
pub record IsSet (old new : List Part) (kept height part made place : ℕ) (word : VerificationType) : Type 0 where
  pub list : made ≤ length new
  pub words : (n : ℕ) → word_of new height made n ≡ with_word (word_of old height part) place word n
  pub tree : IsTree new kept height made
  pub inside : (q : ℕ) → IsIn new kept height made q → IsIn old kept height part q ⊎ (length old < q)

-- a part was put in place of one that isn't kept, or else after all others
abbrev pub IsPut : List Part → ℕ → ℕ → ℕ → Type 0
IsPut old kept part made = ((kept < part) × (made ≡ part)) ⊎ (length old < made)

abbrev pub LeavesOthers : List Part → List Part → ℕ → ℕ → Type 0
LeavesOthers old new kept part =
    (length old ≤ length new)
    × ((q : ℕ) → q ≤ length old → (kept < part → ¬ (q ≡ part)) → part_at new q ≡ part_at old q)
