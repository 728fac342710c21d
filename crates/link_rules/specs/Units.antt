-- The decoded classes of a program.
use Rattle.std.specs.Prelude.{◌≡◌, ℕ, List, Some, slice_get}
use Rattle.code_decode.specs.declared.code.ClassUnit.{ClassUnit}
use Rattle.code_decode.specs.Method.{StandsForFile}
use Rattle.code_decode.specs.Unit.{AreCodes}

-- some bytes are the file, and the codes are those of its methods
pub record IsDecoded (u : ClassUnit) : Type 0 where
  pub file : StandsForFile u.file
  pub codes : AreCodes u.file u.codes

abbrev pub AreUnits : List ClassUnit → Type 0
AreUnits us = (k : ℕ) (u : ClassUnit) → slice_get us k ≡ Some u → IsDecoded u
