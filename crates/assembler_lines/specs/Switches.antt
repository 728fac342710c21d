-- The operands of tableswitch and lookupswitch, as they are written (JVMS 6.5).
use Rattle.std.specs.Prelude.{◌≡◌, ℕ, ℤ, pos, ◌+ℤ◌, ◌-ℤ◌, List, [], ◌∷◌, length, Some, FitsSigned}
use Rattle.std.specs.Int.{w32}
use Rattle.assembler_lines.specs.declared.word.Word.{Word}
use Rattle.assembler_lines.specs.declared.word.Word.TheVariants.{Plain}
use Rattle.assembler_lines.specs.declared.operation.LabelledCase.{LabelledCase}
use Rattle.assembler_lines.specs.declared.operation.Operands.{Operands}
use Rattle.assembler_lines.specs.declared.operation.Operands.TheVariants.{TableSwitch, LookupSwitch}
use Rattle.assembler_lines.specs.Words.{plain_words}
use Rattle.decimal_numbers.specs.Numbers.{integer_up_to}

-- a key is an int
abbrev pub IsKey : List ℕ → ℤ → Type 0
IsKey written key = integer_up_to 2147483647 written ≡ Some key

-- the highest of count consecutive keys, of which this is the lowest
abbrev pub highest_key : ℤ → ℕ → ℤ
highest_key low count = low +ℤ pos count -ℤ pos 1

-- the lowest key, the label of the default, and the labels of the keys from the lowest to the highest
pub record SaysTableSwitch (words : List Word) (made : Operands) : Type 0 where
  pub low_written : List ℕ
  pub low : ℤ
  pub default : List ℕ
  pub labels : List (List ℕ)
  pub spelled : words ≡ Plain low_written ∷ Plain default ∷ plain_words labels
  pub low_is : IsKey low_written low
  pub high_is : FitsSigned w32 (highest_key low (length labels))
  pub made_is : made ≡ TableSwitch low default labels

-- keys, each with the label after it
abbrev pub AreCases : List Word → List LabelledCase → Type 0
AreCases words [] = words ≡ []
AreCases words (case ∷ cases) =
    (written : List ℕ) × (others : List Word) × (words ≡ Plain written ∷ Plain case.label ∷ others) × IsKey written case.key × AreCases others cases

-- the label of the default, and keys with their labels
pub record SaysLookupSwitch (words : List Word) (made : Operands) : Type 0 where
  pub default : List ℕ
  pub others : List Word
  pub cases : List LabelledCase
  pub spelled : words ≡ Plain default ∷ others
  pub cases_are : AreCases others cases
  pub made_is : made ≡ LookupSwitch default cases
