-- Instructions that make and initialize objects.
use Rattle.std.specs.Prelude.{Bool, true, false}
use Rattle.instructions.specs.declared.operation.Call.TheVariants.{Special}
use Rattle.instructions.specs.declared.operation.ClassUse.TheVariants.{New}
use Rattle.instructions.specs.declared.what.What.{What}
use Rattle.instructions.specs.declared.what.What.TheVariants.{Call, Class}
use Rattle.instructions.specs.declared.what.Target.{Target}
use Rattle.type_rules.specs.Environment.{Environment}
use Rattle.type_rules.specs.FrameAfter.{names_constructor}

abbrev pub makes_object : What Target → Bool
makes_object (Class New index) = true
makes_object _ = false

abbrev pub names_init : Environment → What Target → Bool
names_init env (Call Special index) = names_constructor (env.operand index)
names_init env _ = false
