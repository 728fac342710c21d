-- Calls of methods of objects.
use Rattle.std.proofs.Common.{◌≡◌, ◌≤◌, ◌<◌, ◌≢◌, ℕ, suc, true, false, Some, List, ◌==◌, drop, length, ap, sym, ◌∙◌, arith}
use Rattle.std.proofs.lemmas.Bool.Decides.{nat_tests}
use Rattle.std.specs.Prelude.{if◌then◌else◌}
use Rattle.builtin_world.specs.declared.number.TheConstants.{NULL_POINTER_EXCEPTION}
use Rattle.code_decode.specs.declared.code.ClassUnit.{ClassUnit}
use Rattle.frame_snapshot.specs.declared.todo.Then.TheVariants as thens
use Rattle.link_types.specs.declared.operands.MethodId.{MethodId}
use Rattle.link_types.specs.declared.operands.MethodOperand.{MethodOperand}
use Rattle.op_core.specs.declared.Op.TheVariants.{ClassOf}
use Rattle.java_rows.specs.Calls.{first_of, calls_virtual, calls_interface, invokes, invokes_selected, class_of_type}
use Rattle.java_rows.specs.Plan.{Frame, Plan, want, stuck, fails, asks_class, use_in}
use Rattle.java_rows.specs.Program.{argument_words, calls_without_class, select, select_for}
use Rattle.interp_plans.specs.Calls.{call_site}
use Rattle.interp_plans.specs.Replies.{then_of}
use Rattle.interp_plans.specs.Uses.{use_at, arguments_at}
use Rattle.interp_plans.proofs.OperandLemmas.{receiver_is, receiver_missing}

abbrev checked : Frame → ℕ → Plan → Plan
checked f r plan = if r == 0 then fails f NULL_POINTER_EXCEPTION else plan

null_fails : (f : Frame) (r : ℕ) (plan : Plan) → r ≡ 0 → checked f r plan ≡ fails f NULL_POINTER_EXCEPTION
null_fails f r plan is = ap (λ x. checked f x plan) is

object_goes : (f : Frame) (r : ℕ) (plan : Plan) → r ≢ 0 → checked f r plan ≡ plan
object_goes f r plan some =
    let test : (r == 0) ≡ false = grind (arith, nat_tests, some) in
    ap (λ b. if b then fails f NULL_POINTER_EXCEPTION else plan) test

-- ---- invokevirtual

abbrev virtual_plan : List ClassUnit → ℕ → Frame → MethodId → ℕ → List ℕ → List ℕ → Plan
virtual_plan us me f id r args rest =
    if calls_without_class us id then invokes us me id args (use_in f rest)
    else asks_class r (λ c n. invokes_selected us me args (use_in f rest) (select us c id))

virtual_at : (us : List ClassUnit) (me : ℕ) (f : Frame) (m : MethodOperand) → suc (argument_words us m.method) ≤ length f.stack
    → calls_virtual us me f (Some m) ≡ checked f (first_of (arguments_at f (call_site us m.method)))
    (virtual_plan us me f m.method (first_of (arguments_at f (call_site us m.method))) (arguments_at f (call_site us m.method)) (drop (suc (argument_words us m.method)) f.stack))
virtual_at us me f m has = receiver_is f (argument_words us m.method) (virtual_plan us me f m.method) has

pub virtual_lacks : (us : List ClassUnit) (me : ℕ) (f : Frame) (m : MethodOperand) → length f.stack < suc (argument_words us m.method)
    → calls_virtual us me f (Some m) ≡ stuck
virtual_lacks us me f m lacks = receiver_missing f (argument_words us m.method) (virtual_plan us me f m.method) lacks

pub virtual_null : (us : List ClassUnit) (me : ℕ) (f : Frame) (m : MethodOperand) → suc (argument_words us m.method) ≤ length f.stack
    → first_of (arguments_at f (call_site us m.method)) ≡ 0
    → calls_virtual us me f (Some m) ≡ fails f NULL_POINTER_EXCEPTION
virtual_null us me f m has null = virtual_at us me f m has ∙ null_fails f _ _ null

virtual_object : (us : List ClassUnit) (me : ℕ) (f : Frame) (m : MethodOperand) → suc (argument_words us m.method) ≤ length f.stack
    → first_of (arguments_at f (call_site us m.method)) ≢ 0
    → calls_virtual us me f (Some m) ≡ virtual_plan us me f m.method (first_of (arguments_at f (call_site us m.method))) (arguments_at f (call_site us m.method)) (drop (suc (argument_words us m.method)) f.stack)
virtual_object us me f m has some = virtual_at us me f m has ∙ object_goes f _ _ some

pub virtual_closed : (us : List ClassUnit) (me : ℕ) (f : Frame) (m : MethodOperand) → suc (argument_words us m.method) ≤ length f.stack
    → first_of (arguments_at f (call_site us m.method)) ≢ 0 → calls_without_class us m.method ≡ true
    → calls_virtual us me f (Some m) ≡ invokes us me m.method (arguments_at f (call_site us m.method)) (use_at f (call_site us m.method))
virtual_closed us me f m has some closed = virtual_object us me f m has some
    ∙ ap (λ b. if b then invokes us me m.method (arguments_at f (call_site us m.method)) (use_in f (drop (suc (argument_words us m.method)) f.stack))
    else asks_class (first_of (arguments_at f (call_site us m.method))) (λ c n. invokes_selected us me (arguments_at f (call_site us m.method)) (use_in f (drop (suc (argument_words us m.method)) f.stack)) (select us c m.method))) closed

pub virtual_asks : (us : List ClassUnit) (me : ℕ) (f : Frame) (m : MethodOperand) (r : ℕ) → suc (argument_words us m.method) ≤ length f.stack
    → r ≡ first_of (arguments_at f (call_site us m.method)) → r ≢ 0 → calls_without_class us m.method ≡ false
    → calls_virtual us me f (Some m) ≡ want (ClassOf r) (then_of us me f (thens.Selects m.method (call_site us m.method)))
virtual_asks us me f m r has is some opened = virtual_object us me f m has (λ null. some (is ∙ null))
    ∙ ap (λ b. if b then invokes us me m.method (arguments_at f (call_site us m.method)) (use_in f (drop (suc (argument_words us m.method)) f.stack))
    else asks_class (first_of (arguments_at f (call_site us m.method))) (λ c n. invokes_selected us me (arguments_at f (call_site us m.method)) (use_in f (drop (suc (argument_words us m.method)) f.stack)) (select us c m.method))) opened
    ∙ ap (λ x. want (ClassOf x) (then_of us me f (thens.Selects m.method (call_site us m.method)))) (sym is)

-- ---- invokeinterface

abbrev interface_plan : List ClassUnit → ℕ → Frame → MethodOperand → ℕ → List ℕ → List ℕ → Plan
interface_plan us me f m r args rest =
    asks_class r (λ c n. invokes_selected us me args (use_in f rest) (select_for us (class_of_type m.named) m.method c))

interface_at : (us : List ClassUnit) (me : ℕ) (f : Frame) (m : MethodOperand) → suc (argument_words us m.method) ≤ length f.stack
    → calls_interface us me f (Some m) ≡ checked f (first_of (arguments_at f (call_site us m.method)))
    (interface_plan us me f m (first_of (arguments_at f (call_site us m.method))) (arguments_at f (call_site us m.method)) (drop (suc (argument_words us m.method)) f.stack))
interface_at us me f m has = receiver_is f (argument_words us m.method) (interface_plan us me f m) has

pub interface_lacks : (us : List ClassUnit) (me : ℕ) (f : Frame) (m : MethodOperand) → length f.stack < suc (argument_words us m.method)
    → calls_interface us me f (Some m) ≡ stuck
interface_lacks us me f m lacks = receiver_missing f (argument_words us m.method) (interface_plan us me f m) lacks

pub interface_null : (us : List ClassUnit) (me : ℕ) (f : Frame) (m : MethodOperand) → suc (argument_words us m.method) ≤ length f.stack
    → first_of (arguments_at f (call_site us m.method)) ≡ 0
    → calls_interface us me f (Some m) ≡ fails f NULL_POINTER_EXCEPTION
interface_null us me f m has null = interface_at us me f m has ∙ null_fails f _ _ null

pub interface_asks : (us : List ClassUnit) (me : ℕ) (f : Frame) (m : MethodOperand) (r : ℕ) → suc (argument_words us m.method) ≤ length f.stack
    → r ≡ first_of (arguments_at f (call_site us m.method)) → r ≢ 0
    → calls_interface us me f (Some m) ≡ want (ClassOf r) (then_of us me f (thens.SelectsFor (class_of_type m.named) m.method (call_site us m.method)))
interface_asks us me f m r has is some = interface_at us me f m has ∙ object_goes f _ _ (λ null. some (is ∙ null))
    ∙ ap (λ x. want (ClassOf x) (then_of us me f (thens.SelectsFor (class_of_type m.named) m.method (call_site us m.method)))) (sym is)
