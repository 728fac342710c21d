-- What a text is assembled to.
use Rattle.std.specs.Prelude.{◌≡◌, ℕ, ◌+◌, List, take, Result}
use Rattle.assembler_text.specs.declared.lines.TextLines.{TextLines}
use Rattle.assembler_text.specs.TextLines.{most_bytes, AreLinesOf}
use Rattle.class_make.specs.Assembly.{assembled}

-- What comes after the first byte beyond those that a text may have is not looked at: the line of that byte says
-- nothing.
abbrev pub front : List ℕ → List ℕ
front text = take (most_bytes + 1) text

-- The class file of a text, or the number of the first line that is refused.
pub record IsAssembled (text : List ℕ) (answer : Result (List ℕ) ℕ) : Type 0 where
  pub lines : TextLines
  pub are_lines : AreLinesOf (front text) lines
  pub answered : assembled lines.behind lines.lines ≡ answer
