-- One row an instruction (JVMS 6.5).
use Rattle.std.specs.Prelude.{ℕ, List}
use Rattle.code_decode.specs.declared.code.ClassUnit.{ClassUnit}
use Rattle.instructions.specs.declared.operation.Call.{Call}
use Rattle.instructions.specs.declared.operation.Call.TheVariants as call
use Rattle.instructions.specs.declared.operation.ClassUse.{ClassUse}
use Rattle.instructions.specs.declared.operation.ClassUse.TheVariants as class_use
use Rattle.instructions.specs.declared.operation.FieldAccess.{FieldAccess}
use Rattle.instructions.specs.declared.operation.FieldAccess.TheVariants as field_access
use Rattle.instructions.specs.declared.operation.Plain.{Plain}
use Rattle.instructions.specs.declared.operation.Plain.TheVariants as plain
use Rattle.instructions.specs.declared.what.Target.{Target}
use Rattle.instructions.specs.declared.what.What.{What}
use Rattle.instructions.specs.declared.what.What.TheVariants as whats
use Rattle.link_rules.specs.Names.{program_names}
use Rattle.link_rules.specs.Operands.{operand}
use Rattle.link_rules.specs.Readers.{primitive_array_number}
use Rattle.java_rows.specs.Calls.{calls_virtual, calls_special, calls_interface}
use Rattle.java_rows.specs.Initialization.{makes_object, gets_static, puts_static, calls_static}
use Rattle.java_rows.specs.LocalRows.{LocalRow, moves, fails_by, no_row, local_row}
use Rattle.java_rows.specs.Objects.{gets_field, puts_field, loads_element, stores_element, gets_length, makes_array, casts, tests_class, enters_monitor, exits_monitor}
use Rattle.java_rows.specs.Plan.{Frame, goes, Plan, silently, ready, stuck, fails}
use Rattle.java_rows.specs.Program.{class_at, array_at, field_at, method_at}
use Rattle.java_rows.specs.Throws.{returns, throws_it}

-- ---- the instructions that need operations

abbrev pub plain_plan : List ClassUnit → Frame → Plain → Plan
plain_plan us f (plain.ArrayLoad kind) = loads_element f kind f.stack
plain_plan us f (plain.ArrayStore kind) = stores_element us f kind f.stack
plain_plan us f (plain.Return value) = returns f value f.stack
plain_plan us f plain.ArrayLength = gets_length f f.stack
plain_plan us f plain.Throw = throws_it f f.stack
plain_plan us f plain.MonitorEnter = enters_monitor f f.stack
plain_plan us f plain.MonitorExit = exits_monitor f f.stack
plain_plan us f _ = stuck

abbrev pub field_plan : List ClassUnit → Frame → FieldAccess → ℕ → Plan
field_plan us f field_access.GetStatic index = gets_static us f (operand us f.method.class index)
field_plan us f field_access.PutStatic index = puts_static us f (field_at us f.method.class index) f.stack
field_plan us f field_access.GetField index = gets_field f (field_at us f.method.class index) f.stack
field_plan us f field_access.PutField index = puts_field f (field_at us f.method.class index) f.stack

abbrev pub call_plan : List ClassUnit → ℕ → Frame → Call → ℕ → Plan
call_plan us me f call.Virtual index = calls_virtual us me f (method_at us f.method.class index)
call_plan us me f call.Special index = calls_special us me f (method_at us f.method.class index)
call_plan us me f call.Static index = calls_static us me f (method_at us f.method.class index)

abbrev pub class_plan : List ClassUnit → Frame → ClassUse → ℕ → Plan
class_plan us f class_use.New index = makes_object us f (class_at us f.method.class index)
class_plan us f class_use.NewArray index = makes_array f (array_at us f.method.class index) f.stack
class_plan us f class_use.CheckCast index = casts us f (class_at us f.method.class index) f.stack
class_plan us f class_use.InstanceOf index = tests_class us f (class_at us f.method.class index) f.stack

abbrev pub row_with_operations : List ClassUnit → ℕ → Frame → What Target → Plan
row_with_operations us me f (whats.Plain op) = plain_plan us f op
row_with_operations us me f (whats.Field access index) = field_plan us f access index
row_with_operations us me f (whats.Call kind index) = call_plan us me f kind index
row_with_operations us me f (whats.InterfaceCall index) = calls_interface us me f (method_at us f.method.class index)
row_with_operations us me f (whats.Class purpose index) = class_plan us f purpose index
row_with_operations us me f (whats.NewArray kind) = makes_array f (primitive_array_number (program_names us) kind) f.stack
row_with_operations us me f _ = stuck

-- ---- all of them; `me` is the object of the thread

abbrev pub by_local : List ClassUnit → ℕ → Frame → What Target → LocalRow → Plan
by_local us me f instruction (moves g) = silently (ready (goes g))
by_local us me f instruction (fails_by c) = fails f c
by_local us me f instruction no_row = row_with_operations us me f instruction

abbrev pub row : List ClassUnit → ℕ → Frame → What Target → Plan
row us me f instruction = by_local us me f instruction (local_row us f instruction f.stack)
