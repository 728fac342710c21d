-- Cutting a text line by line.
use Rattle.std.specs.Prelude.{◌≡◌, ℕ, ◌+◌, ◌<◌, List, ◌∷◌, length}
use Rattle.assembler_text.specs.TextLines.{lines}

-- The first line of a text, and what comes after its end.
pub record IsFirstLine (text line rest : List ℕ) : Type 0 where
  pub size : ℕ
  pub cut : lines text ≡ (line, size) ∷ lines rest
  pub measured : length text ≡ length rest + size
  pub some : 0 < size
