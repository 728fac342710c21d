-- Calls of methods (JVMS 2.11.8, 2.11.10, 6.5 invokevirtual, invokespecial, invokeinterface).
use Rattle.std.specs.Prelude.{ℕ, suc, ◌==◌, Option, None, Some, List, [], ◌∷◌, length, take, drop, reverse, nat_le, if◌then◌else◌}
use Rattle.std.specs.Option.{option_map_or}
use Rattle.access_flags.specs.declared.TheConstants.{STATIC, SYNCHRONIZED}
use Rattle.builtin_world.specs.declared.number.TheConstants.{NULL_POINTER_EXCEPTION, ILLEGAL_MONITOR_STATE_EXCEPTION, INCOMPATIBLE_CLASS_CHANGE_ERROR, RUNNABLE}
use Rattle.code_decode.specs.declared.code.ClassUnit.{ClassUnit}
use Rattle.link_types.specs.declared.methods.MethodBody.{MethodBody}
use Rattle.link_types.specs.declared.methods.MethodBody.TheVariants as bodies
use Rattle.link_types.specs.declared.operands.MethodId.{MethodId}
use Rattle.link_types.specs.declared.operands.MethodOperand.{MethodOperand}
use Rattle.link_types.specs.declared.types.ObjectType.{ObjectType}
use Rattle.link_types.specs.declared.types.ObjectType.TheVariants.{Class}
use Rattle.link_rules.specs.FixedObjects.{class_object}
use Rattle.link_rules.specs.Methods.{method_code}
use Rattle.link_rules.specs.Names.{program_names}
use Rattle.java_rows.specs.Natives.{native, notifies_all}
use Rattle.java_rows.specs.Plan.{Task, at_step, notifies, finds, Frame, FrameEnd, returned, threw, broke, Plan, calls, stuck, asks_class, enters, Use, raises, use_in, fails}
use Rattle.java_rows.specs.Program.{argument_words, method_has, body_of, calls_without_class, select, select_for, runnable_run}

-- ---- a method is found

-- how the caller goes on at the end of the frame: where the monitor wasn't owned then, in place of what it ended with
abbrev pub after_call : Use → FrameEnd → Plan
after_call u (returned words) = u.value words
after_call u (threw r c) = u.thrown r c
after_call u broke = raises u ILLEGAL_MONITOR_STATE_EXCEPTION

abbrev pub first_of : List ℕ → ℕ
first_of [] = 0
first_of (x ∷ xs) = x

-- the object whose monitor the method enters: its class object where it is static, else the receiver; 0 for none
abbrev pub monitor_for : List ClassUnit → MethodId → List ℕ → ℕ
monitor_for us id args =
    if method_has us id SYNCHRONIZED
    then (if method_has us id STATIC then class_object (program_names us) id.class else first_of args)
    else 0

abbrev pub enters_for : ℕ → Plan → Plan
enters_for monitor k = if monitor == 0 then k else enters monitor k

-- the monitor is entered last before the frame is made
abbrev pub calls_method : List ClassUnit → MethodId → List ℕ → Use → Plan
calls_method us id args u =
    enters_for (monitor_for us id args) (calls id args (monitor_for us id args) (after_call u))

abbrev pub invokes_body : List ClassUnit → ℕ → MethodId → List ℕ → Use → Option MethodBody → Plan
invokes_body us me id args u (Some (bodies.Native n)) = native us me n args u
invokes_body us me id args u (Some bodies.Code) = option_map_or (λ _. calls_method us id args u) (method_code us id) stuck
invokes_body us me id args u _ = stuck

-- a method is called with these arguments
abbrev pub invokes : List ClassUnit → ℕ → MethodId → List ℕ → Use → Plan
invokes us me id args u = invokes_body us me id args u (body_of us id)

-- the method that was selected, if there is one
abbrev pub invokes_selected : List ClassUnit → ℕ → List ℕ → Use → Option MethodId → Plan
invokes_selected us me args u (Some id) = invokes us me id args u
invokes_selected us me args u None = raises u INCOMPATIBLE_CLASS_CHANGE_ERROR

-- a call goes on at a task, the use being that of its instruction or of the launch
abbrev pub goes_on_at : List ClassUnit → ℕ → Use → Task → Plan
goes_on_at us me u at_step = stuck
goes_on_at us me u (notifies r) = notifies_all r u
goes_on_at us me u (finds v) =
    asks_class v (λ c n. invokes_selected us me (v ∷ []) u (select_for us RUNNABLE runnable_run c))

-- ---- the operands of a call

-- the words of the arguments are taken off the stack; they are then in the order of locals
abbrev pub with_arguments : Frame → ℕ → (List ℕ → List ℕ → Plan) → Plan
with_arguments f words k =
    if nat_le words (length f.stack) then k (reverse (take words f.stack)) (drop words f.stack) else stuck

-- so with the receiver, which is null or not
abbrev pub by_receiver : Frame → (ℕ → List ℕ → Plan) → List ℕ → Plan
by_receiver f k (r ∷ args) = if r == 0 then fails f NULL_POINTER_EXCEPTION else k r (r ∷ args)
by_receiver f k [] = stuck

abbrev pub with_receiver : Frame → ℕ → (ℕ → List ℕ → List ℕ → Plan) → Plan
with_receiver f words k = with_arguments f (suc words) (λ args rest. by_receiver f (λ r args. k r args rest) args)

-- ---- instructions

abbrev pub calls_virtual : List ClassUnit → ℕ → Frame → Option MethodOperand → Plan
calls_virtual us me f None = stuck
calls_virtual us me f (Some m) = with_receiver f (argument_words us m.method) (λ r args rest.
    if calls_without_class us m.method
    then invokes us me m.method args (use_in f rest)
    else asks_class r (λ c n. invokes_selected us me args (use_in f rest) (select us c m.method)))

abbrev pub calls_special_method : List ClassUnit → ℕ → Frame → Option MethodId → Plan
calls_special_method us me f None = stuck
calls_special_method us me f (Some id) =
    with_receiver f (argument_words us id) (λ r args rest. invokes us me id args (use_in f rest))

abbrev pub calls_special : List ClassUnit → ℕ → Frame → Option MethodOperand → Plan
calls_special us me f None = stuck
calls_special us me f (Some m) = calls_special_method us me f m.special

abbrev pub class_of_type : ObjectType → ℕ
class_of_type (Class c) = c
class_of_type _ = 0

-- the class of the receiver must implement the interface that the entry names
abbrev pub calls_interface : List ClassUnit → ℕ → Frame → Option MethodOperand → Plan
calls_interface us me f None = stuck
calls_interface us me f (Some m) = with_receiver f (argument_words us m.method) (λ r args rest.
    asks_class r (λ c n. invokes_selected us me args (use_in f rest) (select_for us (class_of_type m.named) m.method c)))
