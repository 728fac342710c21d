-- The only units that files can have.
use Rattle.std.specs.Prelude.{◌≡◌, ℕ, Some, List, length, slice_get}
use Rattle.code_decode.specs.declared.code.ClassUnit.{ClassUnit}
use Rattle.code_decode.specs.Method.{AreBytes}
use Rattle.program_accept.specs.Accepted.{IsUnitOf}

pub record IsOnlyUnit (bytes : List ℕ) (u : ClassUnit) : Type 0 where
  pub are : AreBytes bytes
  pub is : IsUnitOf bytes u
  pub only : (other : ClassUnit) → IsUnitOf bytes other → u ≡ other

-- .. for the first `count` of these files
pub record AreOnlyBefore (files : List (List ℕ)) (made : List ClassUnit) (count : ℕ) : Type 0 where
  pub many : length made ≡ count
  pub each : (k : ℕ) (bytes : List ℕ) (u : ClassUnit) → slice_get files k ≡ Some bytes → slice_get made k ≡ Some u → IsOnlyUnit bytes u

abbrev pub AreOnlyUnits : List (List ℕ) → List ClassUnit → Type 0
AreOnlyUnits files made = AreOnlyBefore files made (length files)
