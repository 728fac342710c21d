-- A word at the front of bytes.
use Rattle.std.specs.Prelude.{◌≡◌, ℕ, List, [], ◌∷◌, ◌++◌}
use Rattle.assembler_lines.specs.declared.word.Word.{Word}
use Rattle.assembler_lines.specs.Piece.{ArePieces}
use Rattle.assembler_lines.specs.Words.{Spells}

-- the pieces of the units, a quote, and the rest
abbrev pub IsQuotedBefore : List ℕ → List ℕ → List ℕ → Type 0
IsQuotedBefore bytes units rest = (pieces : List ℕ) × (bytes ≡ pieces ++ 34 ∷ rest) × ArePieces pieces units

-- the word, and the rest
abbrev pub StandsBefore : List ℕ → Word → List ℕ → Type 0
StandsBefore bytes word rest = (first : List ℕ) × (bytes ≡ first ++ rest) × Spells first word

-- a place where a word may end
abbrev pub IsEnd : List ℕ → Type 0
IsEnd [] = Unit {0}
IsEnd (b ∷ bytes) = b ≡ 32
