-- An instruction, or the launch of a thread, that is initializing a class: the classes from the named one upward have
-- places from 0 (JVMS 5.5).
use Rattle.std.specs.Prelude.{ℕ, zero, suc, true, Option, None, Some, List, [], ◌∷◌, ◌++◌, slice_get, drop, take, reverse, option_and_then}
use Rattle.std.specs.Option.{option_map_or}
use Rattle.code_decode.specs.declared.code.ClassUnit.{ClassUnit}
use Rattle.frame_snapshot.specs.declared.stage.Caller.{Caller}
use Rattle.frame_snapshot.specs.declared.stage.Caller.TheVariants.{Instruction, Launch}
use Rattle.instructions.specs.declared.operation.Call.TheVariants as call
use Rattle.instructions.specs.declared.operation.ClassUse.TheVariants as class_use
use Rattle.instructions.specs.declared.operation.FieldAccess.TheVariants as field_access
use Rattle.instructions.specs.declared.what.Instr.{Instr}
use Rattle.instructions.specs.declared.what.Target.{Target}
use Rattle.instructions.specs.declared.what.What.{What}
use Rattle.instructions.specs.declared.what.What.TheVariants as whats
use Rattle.link_types.specs.declared.operands.FieldOperand.{FieldOperand}
use Rattle.link_types.specs.declared.operands.MethodOperand.{MethodOperand}
use Rattle.link_types.specs.declared.types.ValueType.{ValueType}
use Rattle.link_types.specs.declared.types.ValueType.TheVariants as values
use Rattle.link_rules.specs.Classes.{classes_of}
use Rattle.link_rules.specs.Methods.{initializer}
use Rattle.java_rows.specs.Calls.{after_call, invokes, with_arguments}
use Rattle.java_rows.specs.Initialization.{breaks, runs_initializer, initializes, statics_of}
use Rattle.java_rows.specs.Numbers.{kept}
use Rattle.java_rows.specs.Objects.{reads_value, writes_long}
use Rattle.java_rows.specs.Plan.{Frame, FrameEnd, Plan, stuck, makes, writes, settles, completes, Use, use_in}
use Rattle.java_rows.specs.Program.{argument_words, class_at, field_at, method_at, initialized_with, steps_of}
use Rattle.java_rows.specs.Thread.{launch}
use Rattle.interp_plans.specs.Uses.{thrown_by}

-- ---- the class that is initialized

abbrev pub owner_of : Option FieldOperand → ℕ
owner_of field = option_map_or (λ (f : FieldOperand). f.owner) field 0

abbrev pub declarer_of : Option MethodOperand → ℕ
declarer_of m = option_map_or (λ (m : MethodOperand). m.method.class) m 0

abbrev pub class_of_instruction : List ClassUnit → ℕ → What Target → ℕ
class_of_instruction us this (whats.Class class_use.New index) = option_map_or (λ c. c) (class_at us this index) 0
class_of_instruction us this (whats.Field field_access.GetStatic index) = owner_of (field_at us this index)
class_of_instruction us this (whats.Field field_access.PutStatic index) = owner_of (field_at us this index)
class_of_instruction us this (whats.Call call.Static index) = declarer_of (method_at us this index)
class_of_instruction us this _ = 0

-- what is executed at the frame's place
abbrev pub instruction_at : List ClassUnit → Frame → Option (What Target)
instruction_at us f = option_and_then (λ (i : Instr Target). Some i.what) (slice_get (steps_of us f.method) f.step)

abbrev pub initialized_class : List ClassUnit → Frame → Caller → ℕ
initialized_class us f Instruction = option_map_or (class_of_instruction us f.method.class) (instruction_at us f) 0
initialized_class us f Launch = f.method.class

-- the classes by place
abbrev pub chain_of : List ClassUnit → Frame → Caller → List ℕ
chain_of us f caller = initialized_with us (initialized_class us f caller)

-- ---- what is executed after it

abbrev pub made_behind : Frame → Option ℕ → Plan
made_behind f (Some c) = makes c 0 (λ r. completes f (r ∷ f.stack))
made_behind f None = stuck

abbrev pub got_behind : List ClassUnit → Frame → Option FieldOperand → Plan
got_behind us f (Some field) =
    reads_value field.kind (statics_of us field) field.place (λ words. completes f (words ++ f.stack))
got_behind us f None = stuck

abbrev pub word_put : Frame → ℕ → FieldOperand → List ℕ → Plan
word_put f statics field (v ∷ rest) = writes statics field.place (kept field.kind v) (completes f rest)
word_put f statics field [] = stuck

abbrev pub long_put : Frame → ℕ → FieldOperand → List ℕ → Plan
long_put f statics field (high ∷ low ∷ rest) = writes_long statics field.place low high (completes f rest)
long_put f statics field _ = stuck

abbrev pub value_put : Frame → ℕ → FieldOperand → ValueType → Plan
value_put f statics field values.Long = long_put f statics field f.stack
value_put f statics field _ = word_put f statics field f.stack

abbrev pub put_behind : List ClassUnit → Frame → Option FieldOperand → Plan
put_behind us f (Some field) = value_put f (statics_of us field) field field.kind
put_behind us f None = stuck

abbrev pub called_behind : List ClassUnit → ℕ → Frame → Option MethodOperand → Plan
called_behind us me f (Some m) = with_arguments f (argument_words us m.method) (λ args rest.
    invokes us me m.method args (use_in f rest))
called_behind us me f None = stuck

abbrev pub instruction_behind : List ClassUnit → ℕ → Frame → What Target → Plan
instruction_behind us me f (whats.Class class_use.New index) = made_behind f (class_at us f.method.class index)
instruction_behind us me f (whats.Field field_access.GetStatic index) =
    got_behind us f (field_at us f.method.class index)
instruction_behind us me f (whats.Field field_access.PutStatic index) =
    put_behind us f (field_at us f.method.class index)
instruction_behind us me f (whats.Call call.Static index) =
    called_behind us me f (method_at us f.method.class index)
instruction_behind us me f _ = stuck

-- the launch of thread 1 calls its main method, whose arguments are on the stack
abbrev pub behind : List ClassUnit → ℕ → Frame → Caller → Plan
behind us me f Instruction = option_map_or (instruction_behind us me f) (instruction_at us f) stuck
behind us me f Launch = invokes us me f.method (reverse (take 1 f.stack)) launch

-- ---- at a place of the chain, with what comes after it

-- a thrown object ends the initializations below the place, one after the other
abbrev pub broken_at : List ClassUnit → Frame → Caller → List ℕ → ℕ → ℕ → ℕ → Plan
broken_at us f caller chain zero = thrown_by f caller
broken_at us f caller chain (suc i) =
    option_map_or (λ c. breaks us c (broken_at us f caller chain i)) (slice_get chain i) (λ r d. stuck)

-- the class at the place is initialized: the initializer of the class below it follows
abbrev pub done_at : List ClassUnit → ℕ → Frame → Caller → List ℕ → ℕ → Plan
done_at us me f caller chain zero = behind us me f caller
done_at us me f caller chain (suc i) = option_map_or
    (λ c. runs_initializer us c (done_at us me f caller chain i) (broken_at us f caller chain i) (initializer (classes_of us) c))
    (slice_get chain i) stuck

-- the class at the place is asked for
abbrev pub asks_at : List ClassUnit → ℕ → Frame → Caller → List ℕ → ℕ → Plan
asks_at us me f caller chain i =
    initializes us (drop i chain) (done_at us me f caller chain i) (broken_at us f caller chain i)

-- how the initialization of the class at the place goes on where its initializer has ended
abbrev pub initializer_use : List ClassUnit → ℕ → Frame → Caller → List ℕ → ℕ → ℕ → Use
initializer_use us me f caller chain i c = record {
  value = λ words. settles c true (done_at us me f caller chain i);
  thrown = breaks us c (broken_at us f caller chain i);
  again = λ task. stuck;
}

abbrev pub after_initializer : List ClassUnit → ℕ → Frame → Caller → List ℕ → ℕ → FrameEnd → Plan
after_initializer us me f caller chain i = option_map_or
    (λ c. after_call (initializer_use us me f caller chain i c))
    (slice_get chain i) (λ outcome. stuck)
