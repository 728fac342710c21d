-- The code of a method of a class file.
use Rattle.std.specs.Prelude.{◌≡◌, ℕ, ◌<◌, ◌^◌, List, Some, slice_get, slice_index}
use Rattle.class_walk.specs.declared.class.Constant.{Constant}
use Rattle.class_read.specs.declared.class_file.ClassFile.{ClassFile}
use Rattle.class_read.specs.declared.class_file.CodeAttribute.{CodeAttribute}
use Rattle.class_read.specs.declared.class_file.Member.{Member}
use Rattle.class_read.specs.ClassFile.{IsFile}
use Rattle.code_decode.specs.declared.code.Code.{Code}
use Rattle.code_decode.specs.declared.refusal.CodeRefusal.{CodeRefusal}
use Rattle.code_decode.specs.Entry.{IsEntryCount}
use Rattle.code_decode.specs.Code.{IsCode, CodeRefuses}

abbrev pub AreBytes : List ℕ → Type 0
AreBytes bytes = (i : ℕ) → slice_index bytes i < 2 ^ 8

-- some bytes are the file
abbrev pub StandsForFile : ClassFile → Type 0
StandsForFile file = (bytes : List ℕ) × AreBytes bytes × IsFile bytes file

-- the method of this number is this one, and has this code
abbrev pub IsMethodWith : ClassFile → ℕ → Member → CodeAttribute → Type 0
IsMethodWith file method m a = (slice_get file.methods method ≡ Some m) × (m.code ≡ Some a)

abbrev pub HasCode : ClassFile → ℕ → Type 0
HasCode file method = (m : Member) × (a : CodeAttribute) × IsMethodWith file method m a

abbrev pub IsMethodCode : List Constant → Member → CodeAttribute → Code → Type 0
IsMethodCode pool m a code = (entry : ℕ) × IsEntryCount pool m entry × IsCode pool entry a code

abbrev pub MethodRefuses : List Constant → Member → CodeAttribute → CodeRefusal → Type 0
MethodRefuses pool m a e = (entry : ℕ) × IsEntryCount pool m entry × CodeRefuses pool entry a e

-- the code of the method of this number
abbrev pub IsCodeOf : ClassFile → ℕ → Code → Type 0
IsCodeOf file method code = (m : Member) × (a : CodeAttribute) × IsMethodWith file method m a × IsMethodCode file.pool m a code

-- what is wrong first with the code of the method of this number
abbrev pub CodeOfRefuses : ClassFile → ℕ → CodeRefusal → Type 0
CodeOfRefuses file method e = (m : Member) × (a : CodeAttribute) × IsMethodWith file method m a × MethodRefuses file.pool m a e
