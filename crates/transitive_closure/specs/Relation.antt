-- Relations between numbers as rows of marks, and ways through them.
use Rattle.std.specs.Prelude.{◌≡◌, ◌↔◌, ℕ, ◌<◌, ◌≤◌, ◌-◌, ◌^◌, Bool, false, true, List, [], ◌∷◌, length, Some, slice_get, slice_index_or}

-- what a number is related to
abbrev pub row_of : List (List Bool) → ℕ → List Bool
row_of rows a = slice_index_or rows a []

abbrev pub relates : List (List Bool) → ℕ → ℕ → Bool
relates rows a b = slice_index_or (row_of rows a) b false

abbrev pub Relates : List (List Bool) → ℕ → ℕ → Type 0
Relates rows a b = relates rows a b ≡ true

-- as many rows as each of them has marks
pub record IsTable (rows : List (List Bool)) : Type 0 where
  pub size : length rows < 2 ^ 32
  pub square : (a : ℕ) → a < length rows → length (row_of rows a) ≡ length rows

-- from a number by these ones, each related to the next, to a number
abbrev pub IsWay : (ℕ → ℕ → Type 0) → ℕ → List ℕ → ℕ → Type 0
IsWay R a [] b = R a b
IsWay R a (c ∷ way) b = R a c × IsWay R c way b

abbrev pub Reaches : (ℕ → ℕ → Type 0) → ℕ → ℕ → Type 0
Reaches R a b = (way : List ℕ) × IsWay R a way b

-- the second relation relates what the first one leads to, and no more
abbrev pub IsClosure : List (List Bool) → List (List Bool) → Type 0
IsClosure rows closed = (a b : ℕ) → Relates closed a b ↔ Reaches (Relates rows) a b

-- no number is related to itself, and each to what those that it is related to are related to
pub record IsStrictOrder (rows : List (List Bool)) : Type 0 where
  pub apart : (a : ℕ) → relates rows a a ≡ false
  pub through : (a b c : ℕ) → Relates rows a b → Relates rows b c → Relates rows a c

-- the numbers from a first one on, each after those of them that it is related to
pub record PutsRelatedFirst (rows : List (List Bool)) (first : ℕ) (order : List ℕ) : Type 0 where
  pub count : length order ≡ length rows - first
  pub whole : (a : ℕ) → first ≤ a → a < length rows → (i : ℕ) × (slice_get order i ≡ Some a)
  pub before : (i a b : ℕ) → slice_get order i ≡ Some a → first ≤ b → Relates rows a b → (j : ℕ) × (j < i) × (slice_get order j ≡ Some b)
