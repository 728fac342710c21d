-- The code of a method of a class file that was accepted (JVMS SE 8, 4.7.3).
use Rattle.std.specs.Prelude.{◌≡◌, ℕ, Some, slice_get}
use Rattle.class_read.specs.declared.class_file.ClassFile.{ClassFile}
use Rattle.class_read.specs.declared.class_file.Member.{Member}
use Rattle.class_read.specs.Sound.{Each}
use Rattle.code_decode.specs.declared.code.Code.{Code}
use Rattle.code_decode.specs.Entry.{IsEntryCount}
use Rattle.code_laws.specs.Code.{IsRightCode}
use Rattle.code_laws.specs.Uses.{UsesRightly}

-- the method of this number has the code, which begins with its receiver and its parameters
pub record IsAcceptedCode (file : ClassFile) (method : ℕ) (code : Code) : Type 0 where
  pub member : Member
  pub there : slice_get file.methods method ≡ Some member
  pub entry : ℕ
  pub count : IsEntryCount file.pool member entry
  pub right : IsRightCode file.pool entry code
  pub uses : Each (λ k i. UsesRightly file.pool i.what) code.steps
