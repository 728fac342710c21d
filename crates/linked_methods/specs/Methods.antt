-- What the rules of the type checker see of a method with code.
use Rattle.std.specs.Prelude.{ℕ, List}
use Rattle.code_decode.specs.declared.code.Code.{Code}
use Rattle.link_types.specs.declared.operands.Operand.{Operand}
use Rattle.link_rules.specs.Names.{program_names}
use Rattle.link_rules.specs.Operands.{operand}
use Rattle.type_rules.specs.declared.types.VerificationType.{VerificationType}
use Rattle.type_rules.specs.Environment.{Environment}
use Rattle.type_rules.specs.Environments.{environment, entry_values}
use Rattle.linked_methods.specs.Members.{member_numbered}
use Rattle.linked_methods.specs.declared.method.LinkedMethod.{LinkedMethod}

abbrev pub code_of_method : LinkedMethod → Code
code_of_method m = m.code.now

-- by index of the pool of its class
abbrev pub operands_of_method : LinkedMethod → ℕ → Operand
operands_of_method m = operand m.classes.world.now m.id.class

abbrev pub environment_of_method : LinkedMethod → Environment
environment_of_method m =
    environment (program_names m.classes.world.now) (operands_of_method m) m.id.class
    (member_numbered m.classes.world.now m.id) (code_of_method m)

-- the types of its receiver and its parameters
abbrev pub values_at_entry : LinkedMethod → List VerificationType
values_at_entry m =
    entry_values (program_names m.classes.world.now) m.id.class (member_numbered m.classes.world.now m.id)
