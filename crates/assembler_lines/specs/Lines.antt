-- What the words of a line say.
use Rattle.std.specs.Prelude.{◌≡◌, ◌≢◌, ℕ, ◌<◌, ◌++◌, ◌⊎◌, List, [], ◌∷◌, length, Some, None, codes}
use Rattle.assembler_lines.specs.declared.word.Word.{Word}
use Rattle.assembler_lines.specs.declared.word.Word.TheVariants.{Plain, Quoted}
use Rattle.assembler_lines.specs.declared.line.FieldValue.{FieldValue}
use Rattle.assembler_lines.specs.declared.line.FieldValue.TheVariants as values
use Rattle.assembler_lines.specs.declared.line.Line.{Line}
use Rattle.assembler_lines.specs.declared.line.Line.TheVariants.{Class, Super, Implements, Field, Method, End, Label, Handler, Instruction, Frame}
use Rattle.assembler_lines.specs.Words.{AreWords, word}
use Rattle.decimal_numbers.specs.Numbers.{number_up_to, integer_up_to}
use Rattle.assembler_lines.specs.Operands.{IsInstruction}
use Rattle.assembler_lines.specs.Frames.{IsFrame}

-- flags, and the words of a method's frame: 0 to 65535
abbrev pub IsShort : List ℕ → ℕ → Type 0
IsShort written n = number_up_to 65535 written ≡ Some n

-- the types of field whose constant is an int (JVMS 4.7.2)
abbrev pub IsIntDescriptor : List ℕ → Type 0
IsIntDescriptor descriptor = (descriptor ≡ codes "I") ⊎ (descriptor ≡ codes "S") ⊎ (descriptor ≡ codes "C") ⊎ (descriptor ≡ codes "B") ⊎ (descriptor ≡ codes "Z")

-- The value of a constant field, by its type (JVMS 4.7.2): no other field has one.
abbrev pub SaysValue : List ℕ → Word → FieldValue → Type 0
SaysValue descriptor said (values.Int n) = (written : List ℕ) × (said ≡ Plain written) × IsIntDescriptor descriptor × (integer_up_to 2147483647 written ≡ Some n)
SaysValue descriptor said (values.Long n) = (written : List ℕ) × (said ≡ Plain written) × (descriptor ≡ codes "J") × (integer_up_to 9223372036854775807 written ≡ Some n)
SaysValue descriptor said (values.Text units) = (said ≡ Quoted units) × (descriptor ≡ codes "Ljava/lang/String;")

-- one line of each kind
abbrev pub Says : List Word → Line → Type 0
Says words (Class name flags) =
    ((words ≡ word "class" ∷ Plain name ∷ []) × (flags ≡ 33))
    ⊎ ((written : List ℕ) × (words ≡ word "class" ∷ Plain name ∷ Plain written ∷ []) × IsShort written flags)
Says words (Super name) = words ≡ word "super" ∷ Plain name ∷ []
Says words (Implements name) = words ≡ word "implements" ∷ Plain name ∷ []
Says words (Field flags name descriptor None) =
    (written : List ℕ) × (words ≡ word "field" ∷ Plain written ∷ Plain name ∷ Plain descriptor ∷ []) × IsShort written flags
Says words (Field flags name descriptor (Some value)) =
    (written : List ℕ) × (said : Word) × (words ≡ word "field" ∷ Plain written ∷ Plain name ∷ Plain descriptor ∷ word "=" ∷ said ∷ []) × IsShort written flags × SaysValue descriptor said value
Says words (Method flags name descriptor None) =
    (written : List ℕ) × (words ≡ word "method" ∷ Plain written ∷ Plain name ∷ Plain descriptor ∷ []) × IsShort written flags
Says words (Method flags name descriptor (Some room)) =
    (written : List ℕ) × (stack : List ℕ) × (locals : List ℕ)
    × (words ≡ word "method" ∷ Plain written ∷ Plain name ∷ Plain descriptor ∷ word "stack" ∷ Plain stack ∷ word "locals" ∷ Plain locals ∷ [])
    × IsShort written flags × IsShort stack room.stack × IsShort locals room.locals
Says words End = words ≡ word "end" ∷ []
Says words (Label name) = (words ≡ Plain (name ++ 58 ∷ []) ∷ []) × (0 < length name)
Says words (Handler from to at None) = words ≡ word "handler" ∷ Plain from ∷ Plain to ∷ Plain at ∷ word "any" ∷ []
Says words (Handler from to at (Some class)) = (words ≡ word "handler" ∷ Plain from ∷ Plain to ∷ Plain at ∷ Plain class ∷ []) × (class ≢ codes "any")
Says words (Instruction operation) = IsInstruction words operation
Says words (Frame locals stack) = IsFrame words locals stack

-- The text is the words of a line.
abbrev pub IsLine : List ℕ → Line → Type 0
IsLine text line = (words : List Word) × AreWords text words × Says words line
