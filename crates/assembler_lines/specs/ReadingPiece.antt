-- The piece at the front of bytes.
use Rattle.std.specs.Prelude.{ℕ, ◌+◌, ◌*◌, ◌==◌, List, [], ◌∷◌, if◌then◌else◌, Option, Some, None, option_map}
use Rattle.std.specs.Option.{option_and_then}
use Rattle.assembler_lines.specs.Piece.{stands_for_itself, hex_value, escaped}

abbrev pub hex_unit : ℕ → ℕ → ℕ → ℕ → ℕ
hex_unit first second third fourth = first * 4096 + second * 256 + third * 16 + fourth

abbrev pub hex_digits : List ℕ → Option (ℕ × List ℕ)
hex_digits [] = None
hex_digits (c ∷ []) = None
hex_digits (c ∷ d ∷ []) = None
hex_digits (c ∷ d ∷ e ∷ []) = None
hex_digits (c ∷ d ∷ e ∷ f ∷ rest) =
    option_and_then (λ first. option_and_then (λ second. option_and_then (λ third. option_map (λ fourth. (hex_unit first second third fourth, rest)) (hex_value f)) (hex_value e)) (hex_value d)) (hex_value c)

abbrev pub escape_at : List ℕ → Option (ℕ × List ℕ)
escape_at [] = None
escape_at (b ∷ rest) = if b == 117 then hex_digits rest else option_map (λ unit. (unit, rest)) (escaped b)

-- the code unit of the piece at the front, and what comes after the piece
abbrev pub piece_at : List ℕ → Option (ℕ × List ℕ)
piece_at [] = None
piece_at (a ∷ rest) = if stands_for_itself a then Some (a, rest) else if a == 92 then escape_at rest else None
