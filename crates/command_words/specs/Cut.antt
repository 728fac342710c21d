-- Texts that are cut at a byte.
use Rattle.std.specs.Prelude.{ℕ, ◌+◌, ◌==◌, List, [], ◌∷◌, take, drop, if◌then◌else◌, Option, option_map, position}

-- what comes before the first such byte, and after it
abbrev pub cut : ℕ → List ℕ → Option (List ℕ × List ℕ)
cut byte text = option_map (λ at. (take at text, drop (at + 1) text)) (position (λ b. b == byte) text)

abbrev pub put_first : ℕ → List (List ℕ) → List (List ℕ)
put_first b [] = (b ∷ []) ∷ []
put_first b (piece ∷ pieces) = (b ∷ piece) ∷ pieces

-- the pieces between such bytes
abbrev pub pieces : ℕ → List ℕ → List (List ℕ)
pieces byte [] = [] ∷ []
pieces byte (b ∷ text) = if b == byte then [] ∷ pieces byte text else put_first b (pieces byte text)
