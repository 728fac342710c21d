-- The thread that executes main.
use Rattle.std.proofs.Common.{◌≡◌, ℕ, List, [], ◌∷◌, drop, refl, ap, sym, ◌∙◌}
use Rattle.code_decode.specs.declared.code.ClassUnit.{ClassUnit}
use Rattle.frame_snapshot.specs.FrameStack.{FrameStack, launch_frame, with_stage, with_word}
use Rattle.frame_snapshot.specs.declared.stage.Caller.TheVariants.{Launch}
use Rattle.frame_snapshot.specs.declared.stage.FrameStage.TheVariants.{Begun, Inside}
use Rattle.frame_snapshot.specs.declared.todo.Todo.{Todo}
use Rattle.link_rules.specs.FixedObjects.{arguments_object, main_thread_object}
use Rattle.link_rules.specs.Names.{program_names}
use Rattle.link_types.specs.declared.operands.MethodId.{MethodId}
use Rattle.java_rows.specs.Calls.{invokes}
use Rattle.java_rows.specs.Initialization.{initializes}
use Rattle.java_rows.specs.Program.{initialized_with}
use Rattle.java_rows.specs.Thread.{first_state, launch, main_state, settled}
use Rattle.interp_plans.specs.Initializing.{asks_at, chain_of}
use Rattle.interp_plans.specs.Todos.{plan_of}
use Rattle.interp_plans.specs.Uses.{frame_of}
use Rattle.interp_calls.specs.Local.{local_of, waiting_below}
use Rattle.interp_calls.proofs.SettleLemmas.{todo_settles}

drop_no : (xs : List ℕ) → drop 0 xs ≡ xs
drop_no [] = refl
drop_no (x ∷ xs) = refl

-- a launch frame with the arguments on its stack, which begins with the initialization of the method's class
pub launched : (us : List ClassUnit) (me a : ℕ) (main : MethodId) (s new : FrameStack) (todo : Todo)
    → s ≡ with_word (launch_frame main Begun 1) a → new ≡ with_stage s (Inside todo)
    → a ≡ arguments_object (program_names us) → me ≡ main_thread_object (program_names us)
    → asks_at us me (frame_of s.here) Launch (chain_of us (frame_of s.here) Launch) 0 ≡ plan_of us me (frame_of s.here) todo
    → local_of us me new ≡ first_state us main
launched us me a main s new todo s_is new_is a_is me_is asks =
    ap (local_of us me) new_is
    ∙ sym (todo_settles us me (frame_of s.here) todo (waiting_below us me s.below))
    ∙ ap (λ p. settled us me p (waiting_below us me s.below)) (sym asks)
    ∙ ap (λ (x : FrameStack). settled us me (asks_at us me (frame_of x.here) Launch (chain_of us (frame_of x.here) Launch) 0) (waiting_below us me x.below)) s_is
    ∙ ap (λ cs. settled us me (initializes us cs (invokes us me main (a ∷ []) launch) launch.thrown) []) (drop_no (initialized_with us main.class))
    ∙ ap (λ x. settled us me (initializes us (initialized_with us main.class) (invokes us me main (x ∷ []) launch) launch.thrown) []) a_is
    ∙ ap (λ m. main_state us m main) me_is
