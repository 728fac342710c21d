-- A program of one class, whose main does nothing.
use Rattle.std.specs.Prelude.{◌+◌, None, Some, List, [], ◌∷◌, codes}
use Rattle.access_flags.specs.declared.TheConstants.{PUBLIC, STATIC}
use Rattle.class_walk.specs.declared.class.Constant.{Constant}
use Rattle.class_walk.specs.declared.class.Constant.TheVariants.{Gap, Utf8, Class}
use Rattle.class_read.specs.declared.class_file.ClassFile.{ClassFile}
use Rattle.class_read.specs.declared.class_file.CodeAttribute.{CodeAttribute}
use Rattle.class_read.specs.declared.class_file.Member.{Member}
use Rattle.code_decode.specs.declared.code.ClassUnit.{ClassUnit}
use Rattle.code_decode.specs.declared.code.Code.{Code}
use Rattle.instructions.specs.declared.operation.Plain.TheVariants.{Return}
use Rattle.instructions.specs.declared.what.Instr.{Instr}
use Rattle.instructions.specs.declared.what.Target.{Target}
use Rattle.instructions.specs.declared.what.What.TheVariants.{Plain}
use Rattle.link_types.specs.declared.operands.MethodId.{MethodId}

abbrev pub idle_pool : List Constant
idle_pool =
    Gap
    ∷ Utf8 (codes "Main") ∷ Class 1
    ∷ Utf8 (codes "java/lang/Object") ∷ Class 3
    ∷ Utf8 (codes "main") ∷ Utf8 (codes "([Ljava/lang/String;)V") ∷ Utf8 (codes "Code")
    ∷ []

-- return
abbrev pub idle_attribute : CodeAttribute
idle_attribute = record { max_stack = 0; max_locals = 1; bytes = 177 ∷ []; handlers = []; maps = [] }

abbrev pub idle_step : Instr Target
idle_step = record { at = 0; what = Plain (Return None); next = 1 }

abbrev pub idle_code : Code
idle_code = record { max_stack = 0; max_locals = 1; steps = idle_step ∷ []; handlers = []; frames = [] }

abbrev pub idle_main : Member
idle_main = record { flags = PUBLIC + STATIC; name = 5; descriptor = 6; constant = None; code = Some idle_attribute }

abbrev pub idle_file : ClassFile
idle_file = record {
  major = 52;
  flags = PUBLIC;
  this_class = 2;
  super_class = 4;
  interfaces = [];
  pool = idle_pool;
  fields = [];
  methods = idle_main ∷ [];
}

abbrev pub idle_unit : ClassUnit
idle_unit = record { file = idle_file; codes = Some idle_code ∷ [] }

abbrev pub idle_program : List ClassUnit
idle_program = idle_unit ∷ []

abbrev pub idle_method : MethodId
idle_method = record { class = 29; method = 0 }
