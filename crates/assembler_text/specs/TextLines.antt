-- The lines of an assembler's text.
use Rattle.std.specs.Prelude.{◌≡◌, ℕ, ◌+◌, ◌<◌, ◌≤◌, ◌==◌, ◌⊎◌, nat_le, Bool, false, MatchBool, if◌then◌else◌, List, [], ◌∷◌, length, Option, Some, None}
use Rattle.assembler_lines.specs.declared.line.Line.{Line}
use Rattle.assembler_lines.specs.Lines.{IsLine}
use Rattle.assembler_text.specs.declared.lines.Numbered.{Numbered}
use Rattle.assembler_text.specs.declared.lines.TextLines.{TextLines}

-- A byte goes onto the first line. Where there is none, it is a line that the text's end ends.
abbrev pub onto_first : ℕ → List (List ℕ × ℕ) → List (List ℕ × ℕ)
onto_first b [] = (b ∷ [], 1) ∷ []
onto_first b ((line, size) ∷ lines) = (b ∷ line, size + 1) ∷ lines

-- The lines of a text, each with how many bytes it has together with the byte 10 that ends it. A line ends at a byte 10
-- or at the text's end; after a last byte 10 there is no line.
abbrev pub lines : List ℕ → List (List ℕ × ℕ)
lines [] = []
lines (b ∷ text) = if b == 10 then ([], 1) ∷ lines text else onto_first b (lines text)

-- how many bytes a text has at most
abbrev pub most_bytes : ℕ
most_bytes = 1048576

-- What a line says that ends, its byte 10 included, before this place.
abbrev pub SaysAt : ℕ → List ℕ → Option Line → Type 0
SaysAt end line (Some said) = (end ≤ most_bytes) × IsLine line said
SaysAt end line None = (most_bytes < end) ⊎ ((said : Line) → ¬ IsLine line said)

-- an empty line that lies, its byte 10 included, among the bytes that a text may have says nothing
abbrev pub is_passed : ℕ → List ℕ → Bool
is_passed end [] = nat_le end most_bytes
is_passed end (b ∷ line) = false

-- The next of the lines that are kept has this number and says this, and the others come after it.
abbrev pub IsNext : ℕ → ℕ → List ℕ → (List Numbered → Type 0) → List Numbered → Type 0
IsNext number end line AreOthers [] = ⊥
IsNext number end line AreOthers (next ∷ others) = (next.number ≡ number) × SaysAt end line next.line × AreOthers others

-- The lines that aren't passed over, with their numbers, where the first line has this number and begins at this place.
abbrev pub AreNumbered : ℕ → ℕ → List (List ℕ × ℕ) → List Numbered → Type 0
AreNumbered number at [] made = made ≡ []
AreNumbered number at ((line, size) ∷ others) made =
    MatchBool (is_passed (at + size) line)
    (AreNumbered (number + 1) (at + size) others made)
    (IsNext number (at + size) line (AreNumbered (number + 1) (at + size) others) made)

-- Lines are numbered from 1, and the one after the last has the next number.
pub record AreLinesOf (text : List ℕ) (made : TextLines) : Type 0 where
  pub numbered : AreNumbered 1 0 (lines text) made.lines
  pub behind : made.behind ≡ length (lines text) + 1
