-- Classes that are initialized one after the other.
use Rattle.std.proofs.Common.{◌≡◌, ℕ, zero, suc, Option, Some, None, List, [], ◌∷◌, drop, ap, sym, ◌∙◌, slice_get}
use Rattle.std.specs.Option.{option_map_or}
use Rattle.builtin_world.specs.declared.number.TheConstants.{NO_CLASS_DEF_FOUND_ERROR}
use Rattle.code_decode.specs.declared.code.ClassUnit.{ClassUnit}
use Rattle.frame_snapshot.specs.declared.stage.Caller.{Caller}
use Rattle.op_core.specs.declared.Op.TheVariants.{Init}
use Rattle.java_rows.specs.Initialization.{initializes, runs_initializer, breaks}
use Rattle.link_rules.specs.Classes.{classes_of}
use Rattle.link_rules.specs.Methods.{initializer}
use Rattle.java_rows.specs.Plan.{Frame, want, stuck, on_init, makes}
use Rattle.frame_snapshot.specs.declared.todo.Then.TheVariants as thens
use Rattle.interp_plans.specs.Initializing.{chain_of, done_at, broken_at, asks_at}
use Rattle.interp_plans.specs.Replies.{asked_then, then_of}

drop_at : (cs : List ℕ) (i c : ℕ) → slice_get cs i ≡ Some c → drop i cs ≡ c ∷ drop (suc i) cs
drop_at [] i c is = search
drop_at (x ∷ cs) zero c is = search
drop_at (x ∷ cs) (suc i) c is = drop_at cs i c is

drop_none : (cs : List ℕ) (i : ℕ) → slice_get cs i ≡ None → drop i cs ≡ []
drop_none [] zero is = search
drop_none [] (suc i) is = search
drop_none (x ∷ cs) zero is = search
drop_none (x ∷ cs) (suc i) is = drop_none cs i is

asks_first : (us : List ClassUnit) (me : ℕ) (f : Frame) (caller : Caller) (chain : List ℕ) (i c : ℕ) → slice_get chain i ≡ Some c
    → asks_at us me f caller chain i ≡ want (Init c) (on_init
    (done_at us me f caller chain i)
    (makes NO_CLASS_DEF_FOUND_ERROR 0 (λ r. broken_at us f caller chain i r NO_CLASS_DEF_FOUND_ERROR))
    (asks_at us me f caller chain (suc i)))
asks_first us me f caller chain i c is =
    let done = done_at us me f caller chain i in
    let broken = broken_at us f caller chain i in
    ap (λ cs. initializes us cs done broken) (drop_at chain i c is)
    ∙ ap (λ (o : Option ℕ). want (Init c) (on_init done
    (makes NO_CLASS_DEF_FOUND_ERROR 0 (λ r. broken r NO_CLASS_DEF_FOUND_ERROR))
    (initializes us (drop (suc i) chain)
    (option_map_or (λ c. runs_initializer us c done broken (initializer (classes_of us) c)) o stuck)
    (option_map_or (λ c. breaks us c broken) o (λ r d. stuck))))) (sym is)

-- a class at the place is asked for, and with its claim that of the next place
pub asks_class_at : (us : List ClassUnit) (me : ℕ) (f : Frame) (caller : Caller) (i c : ℕ) → slice_get (chain_of us f caller) i ≡ Some c
    → asks_at us me f caller (chain_of us f caller) i ≡ want (Init c) (then_of us me f (thens.Asked caller i))
asks_class_at us me f caller i c is = asks_first us me f caller (chain_of us f caller) i c is
    ∙ ap (λ o. want (Init c) (asked_then us me f caller i o)) (sym is)

pub asks_none_at : (us : List ClassUnit) (me : ℕ) (f : Frame) (caller : Caller) (chain : List ℕ) (i : ℕ) → slice_get chain i ≡ None
    → asks_at us me f caller chain i ≡ done_at us me f caller chain i
asks_none_at us me f caller chain i is =
    ap (λ cs. initializes us cs (done_at us me f caller chain i) (broken_at us f caller chain i)) (drop_none chain i is)
