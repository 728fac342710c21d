-- The codes of the methods of a class file.
use Rattle.std.specs.Prelude.{◌≡◌, ℕ, ◌<◌, ◌⊎◌, List, length, Option, Some, None, slice_get, Result, Ok, Err}
use Rattle.class_read.specs.declared.class_file.ClassFile.{ClassFile}
use Rattle.class_read.specs.declared.class_file.Member.{Member}
use Rattle.code_decode.specs.declared.code.Code.{Code}
use Rattle.code_decode.specs.declared.code.ClassUnit.{ClassUnit}
use Rattle.code_decode.specs.declared.code.CodeAt.{CodeAt}
use Rattle.code_decode.specs.declared.refusal.CodeRefusal.TheVariants.{NoMemory}
use Rattle.code_decode.specs.Method.{IsCodeOf, CodeOfRefuses}

-- the code of the method of this number, or none where it has none
abbrev pub IsCodeEntry : ClassFile → ℕ → Option Code → Type 0
IsCodeEntry file method (Some code) = IsCodeOf file method code
IsCodeEntry file method None = (m : Member) × (slice_get file.methods method ≡ Some m) × (m.code ≡ None)

pub record AreCodes (file : ClassFile) (codes : List (Option Code)) : Type 0 where
  pub count : length codes ≡ length file.methods
  pub each : (i : ℕ) (o : Option Code) → slice_get codes i ≡ Some o → IsCodeEntry file i o

-- the class with its codes
pub record IsUnit (file : ClassFile) (unit : ClassUnit) : Type 0 where
  pub same : unit.file ≡ file
  pub codes : AreCodes file unit.codes

-- the first method whose code is refused, with its refusal
pub record ClassRefuses (file : ClassFile) (at : CodeAt) : Type 0 where
  pub refused : CodeOfRefuses file at.method at.refusal
  pub before : (i : ℕ) → i < at.method → (o : Option Code) × IsCodeEntry file i o

-- this class, unless memory ran out
abbrev pub IsUnitRead : Result ClassUnit CodeAt → ClassUnit → Type 0
IsUnitRead (Ok found) unit = found ≡ unit
IsUnitRead (Err at) unit = at.refusal ≡ NoMemory

-- this method and its refusal, unless memory ran out
abbrev pub IsRefusedAt : Result ClassUnit CodeAt → CodeAt → Type 0
IsRefusedAt (Ok found) at = ⊥
IsRefusedAt (Err other) at = (other.refusal ≡ NoMemory) ⊎ (other ≡ at)

-- the codes are right, no others are, and no method is refused
pub record AreOnly (file : ClassFile) (codes : List (Option Code)) : Type 0 where
  pub right : AreCodes file codes
  pub only : (others : List (Option Code)) → AreCodes file others → codes ≡ others
  pub accepted : (at : CodeAt) → ¬ ClassRefuses file at

-- the method is refused, no other one is the first that is, and no codes are right
pub record IsFirstRefused (file : ClassFile) (at : CodeAt) : Type 0 where
  pub right : ClassRefuses file at
  pub only : (other : CodeAt) → ClassRefuses file other → at ≡ other
  pub none : (codes : List (Option Code)) → ¬ AreCodes file codes

abbrev pub AreCodesRead : Result (List (Option Code)) CodeAt → ClassFile → Type 0
AreCodesRead (Ok codes) file = AreOnly file codes
AreCodesRead (Err at) file = (at.refusal ≡ NoMemory) ⊎ IsFirstRefused file at
