-- Which files are accepted.
use Rattle.std.specs.Prelude.{ℕ, List}
use Rattle.class_read.specs.declared.class_file.ClassFile.{ClassFile}
use Rattle.class_read.specs.ClassFile.{IsFile}
use Rattle.code_decode.specs.declared.code.ClassUnit.{ClassUnit}
use Rattle.code_decode.specs.Unit.{IsUnit}

-- the code of each method of the file is one of the format
abbrev pub HasCodes : ClassFile → Type 0
HasCodes file = (unit : ClassUnit) × IsUnit file unit

-- the bytes are a class file, and the code of each of its methods is one of the format
abbrev pub IsAccepted : List ℕ → Type 0
IsAccepted bytes = (file : ClassFile) × IsFile bytes file × HasCodes file
