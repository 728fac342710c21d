-- Array descriptors in order.
use Rattle.std.specs.Prelude.{◌≡◌, ℕ, zero, suc, ◌<◌, ◌≤◌, true, nat_le, List, [], ◌∷◌, ◌++◌, Contains, Some, slice_get, ⊤, if◌then◌else◌}
use Rattle.link_rules.specs.Arrays.{is_before}

-- the descriptor of an array with n dimensions, given that of its innermost elements
abbrev pub array_text : ℕ → List ℕ → List ℕ
array_text zero base = base
array_text (suc d) base = 91 ∷ array_text d base

-- each text comes before all later ones, by their bytes
abbrev pub StandInOrder : List (List ℕ) → Type 0
StandInOrder [] = ⊤
StandInOrder (x ∷ xs) = ((y : List ℕ) → Contains xs y → is_before x y ≡ true) × StandInOrder xs

-- the descriptors of innermost elements, in order: each begins with a letter, which comes before `[`
pub record AreBases (bases : List (List ℕ)) : Type 0 where
  pub order : StandInOrder bases
  pub letters : (base : List ℕ) → Contains bases base → (letter : ℕ) × (rest : List ℕ) × (base ≡ letter ∷ rest) × (letter < 91)

-- the arrays with d dimensions, one for each base whose most dimensions are at least d
abbrev pub arrays_of_dimensions : List (List ℕ) → List ℕ → ℕ → List (List ℕ)
arrays_of_dimensions [] most d = []
arrays_of_dimensions (base ∷ bases) [] d = []
arrays_of_dimensions (base ∷ bases) (m ∷ most) d =
    if nat_le d m then array_text d base ∷ arrays_of_dimensions bases most d else arrays_of_dimensions bases most d

-- the arrays with d, d + 1, .. dimensions, for n numbers of dimensions
unfoldable pub arrays_from : List (List ℕ) → List ℕ → ℕ → ℕ → List (List ℕ)
arrays_from bases most zero d = []
arrays_from bases most (suc n) d = arrays_of_dimensions bases most d ++ arrays_from bases most n (suc d)

-- the arrays of bases, from 1 dimension up to the most of each base: fewer dimensions first
unfoldable pub arrays_in_order : List (List ℕ) → List ℕ → List (List ℕ)
arrays_in_order bases most = arrays_from bases most 255 1

-- a base and the most dimensions that an array of it has
pub record HasMost (bases : List (List ℕ)) (most : List ℕ) (base : List ℕ) (m : ℕ) : Type 0 where
  pub place : ℕ
  pub base_there : slice_get bases place ≡ Some base
  pub most_there : slice_get most place ≡ Some m

-- how many dimensions arrays of a base have at most among some descriptors; 0 where there are none
pub record AreMost (roots bases : List (List ℕ)) (most : List ℕ) : Type 0 where
  pub within : (root : List ℕ) → Contains roots root → (base : List ℕ) × (m d : ℕ) × HasMost bases most base m × (0 < d) × (d ≤ m) × (root ≡ array_text d base)
  pub reached : (base : List ℕ) (m : ℕ) → HasMost bases most base m → 0 < m → Contains roots (array_text m base)
  pub few : (base : List ℕ) (m : ℕ) → HasMost bases most base m → m ≤ 255
