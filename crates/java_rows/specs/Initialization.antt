-- Initialization of classes, and the instructions that begin with it (JVMS 5.5, JLS 12.4.2).
use Rattle.std.specs.Prelude.{ℕ, true, false, Option, None, Some, List, [], ◌∷◌, ◌++◌, if◌then◌else◌}
use Rattle.builtin_world.specs.declared.number.TheConstants.{ERROR, NO_CLASS_DEF_FOUND_ERROR, EXCEPTION_IN_INITIALIZER_ERROR}
use Rattle.code_decode.specs.declared.code.ClassUnit.{ClassUnit}
use Rattle.link_types.specs.declared.operands.FieldOperand.{FieldOperand}
use Rattle.link_types.specs.declared.operands.MethodId.{MethodId}
use Rattle.link_types.specs.declared.operands.MethodOperand.{MethodOperand}
use Rattle.link_types.specs.declared.operands.Operand.{Operand}
use Rattle.link_types.specs.declared.operands.Operand.TheVariants as operands
use Rattle.link_types.specs.declared.types.ValueType.{ValueType}
use Rattle.link_types.specs.declared.types.ValueType.TheVariants as values
use Rattle.link_rules.specs.Classes.{classes_of}
use Rattle.link_rules.specs.FixedObjects.{class_object, system_out_object}
use Rattle.link_rules.specs.Methods.{initializer}
use Rattle.link_rules.specs.Names.{program_names}
use Rattle.op_core.specs.declared.Op.TheVariants.{Init}
use Rattle.java_rows.specs.Calls.{after_call, invokes, with_arguments}
use Rattle.java_rows.specs.Numbers.{kept}
use Rattle.java_rows.specs.Objects.{reads_value, writes_long}
use Rattle.java_rows.specs.Plan.{Frame, Plan, want, silently, calls, stuck, on_init, writes, makes, settles, completes, thrown_in, use_in}
use Rattle.java_rows.specs.Program.{is_subclass, initialized_with, argument_words}

-- ---- classes from the named one upward; `bad` is what follows a thrown object

-- an initialization ends with a thrown object: an Error passes, another one becomes a new error (JLS 12.4.2, step 11)
abbrev pub breaks : List ClassUnit → ℕ → (ℕ → ℕ → Plan) → ℕ → ℕ → Plan
breaks us c bad r d = settles c false (
    if is_subclass us d ERROR then bad r d
    else makes EXCEPTION_IN_INITIALIZER_ERROR 0 (λ q. bad q EXCEPTION_IN_INITIALIZER_ERROR))

-- the initializer is called where there is one; it enters no monitor
abbrev pub runs_initializer : List ClassUnit → ℕ → Plan → (ℕ → ℕ → Plan) → Option MethodId → Plan
runs_initializer us c k bad None = settles c true k
runs_initializer us c k bad (Some id) = calls id [] 0 (after_call (record {
  value = λ words. settles c true k;
  thrown = breaks us c bad;
  again = λ task. stuck;
}))

-- a class that is ready, bad, or to be initialized by this thread: then its superclass comes first
abbrev pub initializes : List ClassUnit → List ℕ → Plan → (ℕ → ℕ → Plan) → Plan
initializes us [] k bad = k
initializes us (c ∷ above) k bad = want (Init c) (on_init k
    (makes NO_CLASS_DEF_FOUND_ERROR 0 (λ r. bad r NO_CLASS_DEF_FOUND_ERROR))
    (initializes us above (runs_initializer us c k bad (initializer (classes_of us) c)) (breaks us c bad)))

-- a part of an instruction after the initialization of a class
abbrev pub behind_class : List ClassUnit → Frame → ℕ → Plan → Plan
behind_class us f c k = initializes us (initialized_with us c) k (thrown_in f)

-- ---- instructions

-- JVMS 6.5 new
abbrev pub makes_object : List ClassUnit → Frame → Option ℕ → Plan
makes_object us f None = stuck
makes_object us f (Some c) = behind_class us f c (makes c 0 (λ r. completes f (r ∷ f.stack)))

-- the object that has the static fields of a class
abbrev pub statics_of : List ClassUnit → FieldOperand → ℕ
statics_of us field = class_object (program_names us) field.owner

-- JVMS 6.5 getstatic; System's `out` is no word
abbrev pub gets_static : List ClassUnit → Frame → Operand → Plan
gets_static us f operands.Out = silently (completes f (system_out_object (program_names us) ∷ f.stack))
gets_static us f (operands.Field field) = behind_class us f field.owner
    (reads_value field.kind (statics_of us field) field.place (λ words. completes f (words ++ f.stack)))
gets_static us f _ = stuck

abbrev pub puts_static_long : List ClassUnit → Frame → FieldOperand → List ℕ → Plan
puts_static_long us f field (high ∷ low ∷ rest) = behind_class us f field.owner
    (writes_long (statics_of us field) field.place low high (completes f rest))
puts_static_long us f field _ = stuck

abbrev pub puts_static_word : List ClassUnit → Frame → FieldOperand → List ℕ → Plan
puts_static_word us f field (v ∷ rest) = behind_class us f field.owner
    (writes (statics_of us field) field.place (kept field.kind v) (completes f rest))
puts_static_word us f field _ = stuck

abbrev pub puts_static_value : List ClassUnit → Frame → FieldOperand → ValueType → List ℕ → Plan
puts_static_value us f field values.Long stack = puts_static_long us f field stack
puts_static_value us f field _ stack = puts_static_word us f field stack

-- JVMS 6.5 putstatic
abbrev pub puts_static : List ClassUnit → Frame → Option FieldOperand → List ℕ → Plan
puts_static us f (Some field) stack = puts_static_value us f field field.kind stack
puts_static us f None stack = stuck

-- JVMS 6.5 invokestatic: the class that declares the method is initialized
abbrev pub calls_static : List ClassUnit → ℕ → Frame → Option MethodOperand → Plan
calls_static us me f None = stuck
calls_static us me f (Some m) = with_arguments f (argument_words us m.method) (λ args rest.
    behind_class us f m.method.class (invokes us me m.method args (use_in f rest)))
