-- No row is complete at its beginning: it begins with an operation, a silent step or a call.
use Rattle.std.proofs.Common.{◌==◌, ℕ, suc, Option, None, Some, List, [], ◌∷◌, nat_lt, if◌then◌else◌}
use Rattle.std.specs.Prelude.{◌^◌}
use Rattle.builtin_world.specs.declared.number.TheConstants.{NEGATIVE_ARRAY_SIZE_EXCEPTION}
use Rattle.code_decode.specs.declared.code.ClassUnit.{ClassUnit}
use Rattle.instructions.specs.declared.operation.Call.{Call}
use Rattle.instructions.specs.declared.operation.ClassUse.{ClassUse}
use Rattle.instructions.specs.declared.operation.ElementKind.{ElementKind}
use Rattle.instructions.specs.declared.operation.FieldAccess.{FieldAccess}
use Rattle.instructions.specs.declared.operation.Plain.{Plain}
use Rattle.instructions.specs.declared.operation.ValueKind.{ValueKind}
use Rattle.instructions.specs.declared.what.Target.{Target}
use Rattle.instructions.specs.declared.what.What.{What}
use Rattle.link_types.specs.declared.operands.FieldOperand.{FieldOperand}
use Rattle.link_types.specs.declared.operands.MethodId.{MethodId}
use Rattle.link_types.specs.declared.operands.MethodOperand.{MethodOperand}
use Rattle.link_types.specs.declared.operands.Operand.{Operand}
use Rattle.link_types.specs.declared.types.ValueType.{ValueType}
use Rattle.link_rules.specs.Names.{program_names}
use Rattle.link_rules.specs.Operands.{operand}
use Rattle.link_rules.specs.Readers.{primitive_array_number}
use Rattle.java_rows.specs.Calls.{invokes_selected, with_receiver, calls_virtual, calls_special, calls_special_method, calls_interface, class_of_type, invokes}
use Rattle.java_rows.specs.Initialization.{behind_class, gets_static, puts_static, puts_static_value, makes_object, calls_static}
use Rattle.java_rows.specs.LocalRows.{LocalRow, moves, fails_by, no_row, local_row}
use Rattle.java_rows.specs.Objects.{loads_element, stores_element, gets_field, puts_field, puts_value, gets_length, makes_array, casts, tests_class, enters_monitor, exits_monitor}
use Rattle.java_rows.specs.Plan.{Frame, FrameEnd, Plan, makes, completes, fails, asks_class, use_in}
use Rattle.java_rows.specs.Program.{class_at, array_at, field_at, method_at, select_for, select, initialized_with, argument_words, calls_without_class}
use Rattle.java_rows.specs.Rows.{plain_plan, field_plan, call_plan, class_plan, row_with_operations, by_local, row}
use Rattle.java_rows.specs.Throws.{leaves, returns, throws_it}
use Rattle.row_soundness.specs.Fits.{IsBegun}
use Rattle.row_soundness.proofs.PartsBegin.{unless_null_begins, value_begins, by_flag, invokes_begins, initializes_begins, with_arguments_begins, receiver_begins}
use Rattle.instructions.specs.declared.operation.Call.TheVariants as call
use Rattle.instructions.specs.declared.operation.ClassUse.TheVariants as uses
use Rattle.instructions.specs.declared.operation.ElementKind.TheVariants as elements
use Rattle.instructions.specs.declared.operation.FieldAccess.TheVariants as fields
use Rattle.instructions.specs.declared.operation.Plain.TheVariants as plain
use Rattle.instructions.specs.declared.operation.ValueKind.TheVariants as kinds
use Rattle.instructions.specs.declared.what.What.TheVariants as whats
use Rattle.link_types.specs.declared.operands.Operand.TheVariants as operands
use Rattle.link_types.specs.declared.types.ValueType.TheVariants as values

module _ (us : List ClassUnit) (me : ℕ) (f : Frame) where
  leaves_begins : (end : FrameEnd) → IsBegun (leaves f end)
  leaves_begins end = by_flag us me (f.monitor == 0) _ _ tt tt

  after_class_begins : (c : ℕ) (k : Plan) → IsBegun k → IsBegun (behind_class us f c k)
  after_class_begins c k is = initializes_begins us me (initialized_with us c) k _ is

  loads_begins : (kind : ElementKind) (stack : List ℕ) → IsBegun (loads_element f kind stack)
  loads_begins kind [] = tt
  loads_begins kind (i ∷ []) = tt
  loads_begins kind (i ∷ r ∷ rest) = unless_null_begins us me f r _ tt

  stores_begins : (kind : ElementKind) (stack : List ℕ) → IsBegun (stores_element us f kind stack)
  stores_begins elements.Long (high ∷ low ∷ i ∷ r ∷ rest) = unless_null_begins us me f r _ tt
  stores_begins elements.Reference (v ∷ i ∷ r ∷ rest) = unless_null_begins us me f r _ tt
  stores_begins elements.Int (v ∷ i ∷ r ∷ rest) = unless_null_begins us me f r _ tt
  stores_begins elements.ByteOrBoolean (v ∷ i ∷ r ∷ rest) = unless_null_begins us me f r _ tt
  stores_begins elements.Char (v ∷ i ∷ r ∷ rest) = unless_null_begins us me f r _ tt
  stores_begins elements.Short (v ∷ i ∷ r ∷ rest) = unless_null_begins us me f r _ tt
  stores_begins kind stack = tt

  returns_begins : (kind : Option ValueKind) (stack : List ℕ) → IsBegun (returns f kind stack)
  returns_begins None stack = leaves_begins _
  returns_begins (Some kinds.Long) (high ∷ low ∷ rest) = leaves_begins _
  returns_begins (Some kinds.Int) (v ∷ rest) = leaves_begins _
  returns_begins (Some kinds.Reference) (v ∷ rest) = leaves_begins _
  returns_begins (Some kinds.Long) (v ∷ []) = tt
  returns_begins (Some kinds.Long) [] = tt
  returns_begins (Some kinds.Int) [] = tt
  returns_begins (Some kinds.Reference) [] = tt

  one_begins : (plan : List ℕ → Plan) → ((r : ℕ) (rest : List ℕ) → IsBegun (plan (r ∷ rest))) → IsBegun (plan []) → (stack : List ℕ) → IsBegun (plan stack)
  one_begins plan is none [] = none
  one_begins plan is none (r ∷ rest) = is r rest

  plain_begins : (p : Plain) → IsBegun (plain_plan us f p)
  plain_begins (plain.ArrayLoad kind) = loads_begins kind f.stack
  plain_begins (plain.ArrayStore kind) = stores_begins kind f.stack
  plain_begins (plain.Return kind) = returns_begins kind f.stack
  plain_begins plain.ArrayLength = one_begins (λ s. gets_length f s) (λ r rest. unless_null_begins us me f r _ tt) tt f.stack
  plain_begins plain.Throw = one_begins (λ s. throws_it f s) (λ r rest. unless_null_begins us me f r _ tt) tt f.stack
  plain_begins plain.MonitorEnter = one_begins (λ s. enters_monitor f s) (λ r rest. unless_null_begins us me f r _ tt) tt f.stack
  plain_begins plain.MonitorExit = one_begins (λ s. exits_monitor f s) (λ r rest. unless_null_begins us me f r _ tt) tt f.stack
  plain_begins p = tt

  puts_begins : (t : ValueType) (place : ℕ) (stack : List ℕ) → IsBegun (puts_value f t place stack)
  puts_begins values.Long place (high ∷ low ∷ r ∷ rest) = unless_null_begins us me f r _ tt
  puts_begins values.Long place (high ∷ low ∷ []) = tt
  puts_begins values.Long place (high ∷ []) = tt
  puts_begins values.Long place [] = tt
  puts_begins values.Int place (v ∷ r ∷ rest) = unless_null_begins us me f r _ tt
  puts_begins values.Boolean place (v ∷ r ∷ rest) = unless_null_begins us me f r _ tt
  puts_begins values.Byte place (v ∷ r ∷ rest) = unless_null_begins us me f r _ tt
  puts_begins values.Char place (v ∷ r ∷ rest) = unless_null_begins us me f r _ tt
  puts_begins values.Short place (v ∷ r ∷ rest) = unless_null_begins us me f r _ tt
  puts_begins (values.Object t) place (v ∷ r ∷ rest) = unless_null_begins us me f r _ tt
  puts_begins t place (v ∷ []) = tt
  puts_begins t place [] = tt

  static_puts_begin : (field : FieldOperand) (t : ValueType) (stack : List ℕ) → IsBegun (puts_static_value us f field t stack)
  static_puts_begin field values.Long (high ∷ low ∷ rest) = after_class_begins field.owner _ tt
  static_puts_begin field values.Long (high ∷ []) = tt
  static_puts_begin field values.Long [] = tt
  static_puts_begin field t (v ∷ rest) = after_class_begins field.owner _ tt
  static_puts_begin field t [] = tt

  static_begins : (o : Operand) → IsBegun (gets_static us f o)
  static_begins (operands.Field field) = after_class_begins field.owner _ (value_begins us me field.kind _ field.place _)
  static_begins o = tt

  field_begins : (access : FieldAccess) (index : ℕ) → IsBegun (field_plan us f access index)
  field_begins fields.GetStatic index = static_begins (operand us f.method.class index)
  field_begins fields.PutStatic index = by_field (field_at us f.method.class index)
    where
      by_field : (o : Option FieldOperand) → IsBegun (puts_static us f o f.stack)
      by_field (Some field) = static_puts_begin field field.kind f.stack
      by_field None = tt
  field_begins fields.GetField index = by_field (field_at us f.method.class index) f.stack
    where
      by_field : (o : Option FieldOperand) (stack : List ℕ) → IsBegun (gets_field f o stack)
      by_field (Some field) (r ∷ rest) = unless_null_begins us me f r _ (value_begins us me field.kind r field.place _)
      by_field (Some field) [] = tt
      by_field None stack = tt
  field_begins fields.PutField index = by_field (field_at us f.method.class index)
    where
      by_field : (o : Option FieldOperand) → IsBegun (puts_field f o f.stack)
      by_field (Some field) = puts_begins field.kind field.place f.stack
      by_field None = tt

  received_begins : (words : ℕ) (k : ℕ → List ℕ → List ℕ → Plan) → ((r : ℕ) (args rest : List ℕ) → IsBegun (k r args rest)) → IsBegun (with_receiver f words k)
  received_begins words k is = with_arguments_begins us me f (suc words) _ (λ args rest. receiver_begins us me f (λ r args. k r args rest) args (λ r args. is r args rest))

  virtual_begins : (o : Option MethodOperand) → IsBegun (calls_virtual us me f o)
  virtual_begins None = tt
  virtual_begins (Some m) =
      received_begins (argument_words us m.method) (λ r args rest. if calls_without_class us m.method then invokes us me m.method args (use_in f rest) else asks_class r (λ c n. invokes_selected us me args (use_in f rest) (select us c m.method)))
      (λ r args rest. by_flag us me (calls_without_class us m.method) (invokes us me m.method args (use_in f rest)) (asks_class r (λ c n. invokes_selected us me args (use_in f rest) (select us c m.method))) (invokes_begins us me m.method args (use_in f rest)) tt)

  special_begins : (o : Option MethodOperand) → IsBegun (calls_special us me f o)
  special_begins None = tt
  special_begins (Some m) = by_method m.special
    where
      by_method : (o : Option MethodId) → IsBegun (calls_special_method us me f o)
      by_method None = tt
      by_method (Some id) = received_begins (argument_words us id) (λ r args rest. invokes us me id args (use_in f rest)) (λ r args rest. invokes_begins us me id args (use_in f rest))

  static_call_begins : (o : Option MethodOperand) → IsBegun (calls_static us me f o)
  static_call_begins None = tt
  static_call_begins (Some m) = with_arguments_begins us me f (argument_words us m.method) (λ args rest. behind_class us f m.method.class (invokes us me m.method args (use_in f rest))) (λ args rest. after_class_begins m.method.class _ (invokes_begins us me m.method args (use_in f rest)))

  interface_begins : (o : Option MethodOperand) → IsBegun (calls_interface us me f o)
  interface_begins None = tt
  interface_begins (Some m) = received_begins (argument_words us m.method) (λ r args rest. asks_class r (λ c n. invokes_selected us me args (use_in f rest) (select_for us (class_of_type m.named) m.method c))) (λ r args rest. tt)

  call_begins : (kind : Call) (index : ℕ) → IsBegun (call_plan us me f kind index)
  call_begins call.Virtual index = virtual_begins (method_at us f.method.class index)
  call_begins call.Special index = special_begins (method_at us f.method.class index)
  call_begins call.Static index = static_call_begins (method_at us f.method.class index)

  array_begins : (o : Option ℕ) (stack : List ℕ) → IsBegun (makes_array f o stack)
  array_begins (Some c) (n ∷ rest) = by_flag us me (nat_lt n (2 ^ 31)) (makes c n (λ r. completes f (r ∷ rest))) (fails f NEGATIVE_ARRAY_SIZE_EXCEPTION) tt tt
  array_begins (Some c) [] = tt
  array_begins None stack = tt

  class_begins : (purpose : ClassUse) (index : ℕ) → IsBegun (class_plan us f purpose index)
  class_begins uses.New index = by_class (class_at us f.method.class index)
    where
      by_class : (o : Option ℕ) → IsBegun (makes_object us f o)
      by_class (Some c) = after_class_begins c _ tt
      by_class None = tt
  class_begins uses.NewArray index = array_begins (array_at us f.method.class index) f.stack
  class_begins uses.CheckCast index = by_class (class_at us f.method.class index) f.stack
    where
      by_class : (o : Option ℕ) (stack : List ℕ) → IsBegun (casts us f o stack)
      by_class (Some d) (r ∷ rest) = by_flag us me (r == 0) _ _ tt tt
      by_class (Some d) [] = tt
      by_class None stack = tt
  class_begins uses.InstanceOf index = by_class (class_at us f.method.class index) f.stack
    where
      by_class : (o : Option ℕ) (stack : List ℕ) → IsBegun (tests_class us f o stack)
      by_class (Some d) (r ∷ rest) = by_flag us me (r == 0) _ _ tt tt
      by_class (Some d) [] = tt
      by_class None stack = tt

  operations_begin : (what : What Target) → IsBegun (row_with_operations us me f what)
  operations_begin (whats.Plain p) = plain_begins p
  operations_begin (whats.Field access index) = field_begins access index
  operations_begin (whats.Call kind index) = call_begins kind index
  operations_begin (whats.InterfaceCall index) = interface_begins (method_at us f.method.class index)
  operations_begin (whats.Class purpose index) = class_begins purpose index
  operations_begin (whats.NewArray kind) = array_begins (primitive_array_number (program_names us) kind) f.stack
  operations_begin what = tt

  pub row_begins : (what : What Target) → IsBegun (row us me f what)
  row_begins what = by_row (local_row us f what f.stack)
    where
      by_row : (r : LocalRow) → IsBegun (by_local us me f what r)
      by_row (moves g) = tt
      by_row (fails_by c) = tt
      by_row no_row = operations_begin what
