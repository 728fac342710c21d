-- The operands of an instruction as they are written, with the entries of the pool that they name (JVMS SE 8, 6.5).
use Rattle.std.specs.Prelude.{ℕ, Bool, true, false, if◌then◌else◌, List, Some}
use Rattle.instructions.specs.declared.form.Form.{Form}
use Rattle.instructions.specs.declared.form.Form.TheVariants as forms
use Rattle.assembler_lines.specs.declared.operation.Loaded.{Loaded}
use Rattle.assembler_lines.specs.declared.operation.Loaded.TheVariants as loaded
use Rattle.assembler_lines.specs.declared.operation.Operands as lines
use Rattle.assembler_lines.specs.declared.operation.Operands.TheVariants as said
use Rattle.assembler_pool.specs.Items.{Item, text, integer, long, class_named, string, field, method, interface_method}
use Rattle.code_write.specs.declared.operands.Operands.{Operands}
use Rattle.code_write.specs.declared.operands.Operands.TheVariants.{Absent, Index, InterfaceCall, NewArray}
use Rattle.assembler_bodies.specs.declared.pool.Entry.{Entry}
use Rattle.assembler_bodies.specs.declared.pool.Entry.TheVariants as entries
use Rattle.assembler_bodies.specs.Making.{Making, ◌>>=◌, only, used}
use Rattle.assembler_bodies.specs.Labels.{Marks}
use Rattle.assembler_bodies.specs.Offsets.{int_operand, local_operand, increment_operand, constant_operand, branch_operand, table_operand, lookup_operand}

-- what an entry is to a class
abbrev pub item_of : Entry → Item
item_of (entries.Text bytes) = text bytes.now
item_of (entries.Integer value) = integer value
item_of (entries.Long value) = long value
item_of (entries.Class name) = class_named name.now
item_of (entries.Str units) = string units.now
item_of (entries.Field class name descriptor) = field class.now name.now descriptor.now
item_of (entries.Method class name descriptor) = method class.now name.now descriptor.now
item_of (entries.InterfaceMethod class name descriptor) = interface_method class.now name.now descriptor.now

abbrev pub is_call : Form → Bool
is_call (forms.Call call) = true
is_call _ = false

abbrev pub loaded_item : Loaded → Item
loaded_item (loaded.Int n) = integer n
loaded_item (loaded.Text units) = string units
loaded_item (loaded.Class name) = class_named name

-- a field, or a method of a class where the form calls one
abbrev pub member_item : Form → List ℕ → List ℕ → List ℕ → Item
member_item form class name descriptor = if is_call form then method class name descriptor else field class name descriptor

unfoldable pub operands_of : Marks → Form → Bool → lines.Operands → Making (Operands ℕ)
operands_of marks form wide said.None = only (Some Absent)
operands_of marks form wide (said.Number n) = only (int_operand form n)
operands_of marks form wide (said.Local local) = only (local_operand wide local)
operands_of marks form wide (said.Increment local by) = only (increment_operand wide local by)
operands_of marks form wide (said.Constant constant) = do
  index ← used (loaded_item constant)
  only (constant_operand form index)
operands_of marks form wide (said.Long n) = do
  index ← used (long n)
  only (Some (Index index))
operands_of marks form wide (said.Label label) = only (branch_operand marks form label)
operands_of marks form wide (said.TableSwitch low default names) = only (table_operand marks low default names)
operands_of marks form wide (said.LookupSwitch default cases) = only (lookup_operand marks default cases)
operands_of marks form wide (said.Member class name descriptor) = do
  index ← used (member_item form class name descriptor)
  only (Some (Index index))
operands_of marks form wide (said.InterfaceMethod class name descriptor count) = do
  index ← used (interface_method class name descriptor)
  only (Some (InterfaceCall index count))
operands_of marks form wide (said.Class name) = do
  index ← used (class_named name)
  only (Some (Index index))
operands_of marks form wide (said.NewArray element) = only (Some (NewArray element))
