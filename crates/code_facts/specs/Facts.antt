-- Numbers of decoded code and of constant pools, and which methods have code.
use Rattle.std.specs.Prelude.{◌≡◌, ◌<◌, ◌^◌, ℕ, ℤ, false, List, Option, Some, slice_get}
use Rattle.std.specs.Int.{w32, w64, cast_unsigned}
use Rattle.access_flags.specs.declared.TheConstants.{ABSTRACT, NATIVE}
use Rattle.access_flags.specs.Flags.{has}
use Rattle.class_walk.specs.declared.class.Constant.{Constant}
use Rattle.class_walk.specs.declared.class.Constant.TheVariants as constants
use Rattle.class_read.specs.declared.class_file.ClassFile.{ClassFile}
use Rattle.class_read.specs.declared.class_file.Member.{Member}
use Rattle.class_read.specs.Sound.{Each}
use Rattle.code_decode.specs.declared.code.Code.{Code}
use Rattle.instructions.specs.declared.what.What.{What}
use Rattle.instructions.specs.declared.what.What.TheVariants as whats

-- an int that an instruction pushes has a word, a long two
abbrev pub PushesWords : {T : Type 0} → What T → Type 0
PushesWords (whats.Int n) = cast_unsigned w32 n < 2 ^ 32
PushesWords (whats.Long n) = cast_unsigned w64 n < 2 ^ 64
PushesWords _ = Unit {0}

abbrev pub CodesPushWords : List (Option Code) → Type 0
CodesPushWords codes =
    (method : ℕ) (code : Code) → slice_get codes method ≡ Some (Some code) → Each (λ k i. PushesWords i.what) code.steps

pub record HasWords (pool : List Constant) : Type 0 where
  pub ints : (i : ℕ) (n : ℤ) → slice_get pool i ≡ Some (constants.Integer n) → cast_unsigned w32 n < 2 ^ 32
  pub longs : (i : ℕ) (n : ℤ) → slice_get pool i ≡ Some (constants.Long n) → cast_unsigned w64 n < 2 ^ 64

abbrev pub MethodsHaveCode : ClassFile → List (Option Code) → Type 0
MethodsHaveCode file codes =
    (method : ℕ) (m : Member) → slice_get file.methods method ≡ Some m → has m.flags ABSTRACT ≡ false → has m.flags NATIVE ≡ false
    → (code : Code) × (slice_get codes method ≡ Some (Some code))
