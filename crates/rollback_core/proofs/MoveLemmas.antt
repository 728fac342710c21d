-- What is so of a fit thread before the move that comes next.
use Rattle.std.proofs.Common.{◌≡◌, ◌≢◌, ◌∙◌, ℕ, ◌<◌, ◌^◌, ◌&&◌, Bool, true, false, None, List, [], ◌∷◌, length, reverse, nat_eq, refl, sym, ap, subst, arith}
use Rattle.std.specs.Prelude.{nat_le, IfSome, if◌then◌else◌}
use Rattle.std.proofs.lemmas.Grind.{common_steps}
use Rattle.std.proofs.lemmas.Bool.Decides.{nat_tests}
use Rattle.std.proofs.lemmas.List.{length-map, length-reverse}
use Rattle.op_core.specs.declared.Limit.TheVariants.{Turns}
use Rattle.op_core.specs.declared.Next.{Next}
use Rattle.op_core.specs.declared.Next.TheVariants.{Silent, Want, Ended}
use Rattle.op_core.specs.Replies.{FitsNext}
use Rattle.op_core.specs.ThreadCode.{Code, leaves_any}
use Rattle.write_log.specs.declared.Noted.{Noted}
use Rattle.step_port.specs.declared.answer.StepAnswer.{StepAnswer}
use Rattle.step_port.specs.declared.step.Effect.{Effect}
use Rattle.step_port.specs.declared.step.Effect.TheVariants.{Load, Store, Exchange, Add}
use Rattle.step_port.specs.declared.step.Step.{Step}
use Rattle.step_port.specs.declared.step.Step.TheVariants.{OpenSection, OpenLevel, Split, LoadStop, SetStop, LookMonitor, LookSection, BreakLevel}
use Rattle.step_port.specs.Steps.{effect_of, IsOwnStep}
use Rattle.step_port.specs.Words.{CanAnswer}
use Rattle.thread_automaton.specs.declared.Bounds.{Bounds}
use Rattle.thread_automaton.specs.declared.Held.{Held}
use Rattle.thread_automaton.specs.declared.Move.{Move}
use Rattle.thread_automaton.specs.declared.Move.TheVariants.{Over, Quiet, Stop, Make}
use Rattle.thread_automaton.specs.declared.Attempt.{Attempt}
use Rattle.thread_automaton.specs.declared.Attempt.TheVariants.{Begin, Look, Checked, Fixed, Meets, Undoing, Full}
use Rattle.thread_automaton.specs.ThreadState.{ThreadState, is_open}
use Rattle.thread_automaton.specs.NextMove.{move_of, next_move, undo_step}
use Rattle.thread_automaton.specs.Changes.{Change}
use Rattle.thread_automaton.specs.Answers.{change_of}
use Rattle.automaton_rows.specs.Fits.{IsFit}
use Rattle.automaton_rows.specs.Causes.{HasCause}
use Rattle.automaton_rows.specs.Laws.{reply_of}
use Rattle.automaton_rows.specs.Rows.{Row, is_lost, level_opened}
use Rattle.automaton_rows.proofs.RowLemmas.{answers_are_rows}
use Rattle.automaton_rows.proofs.PinLemmas.{usual, usual_can, steps_caused}
use Rattle.automaton_rows.proofs.ReplyLemmas.{replies_fit}
use Rattle.thread_moves.specs.declared.thread.JThread.{JThread}
use Rattle.thread_moves.specs.Thread.{thread_of, mark_meant, without_opening, Saves, IsReady}
use Rattle.thread_moves.specs.Change.{EntersWith}
use Rattle.thread_moves.specs.Told.{TakesMemory}
use Rattle.rollback_core.specs.Turn.{MoveTakesMemory}

-- ---- silent moves

not_before : (over full : Bool) (m : Move) → (if over then Over else if full then Stop Turns else m) ≡ Quiet → m ≡ Quiet
not_before true full m is = cc
not_before false true m is = cc
not_before false false m is = is

quiet_or_made : (t : Bool) (step : Step) → (if t then Make step else Quiet) ≡ Quiet → t ≡ false
quiet_or_made true step is = cc
quiet_or_made false step is = refl

two_made : {A : Type 0} (t : Bool) (one other : Step) → (if t then Make one else Make other) ≡ Quiet → A
two_made true one other is = cc
two_made false one other is = cc

record StaysSilent {S : Type 0} (code : Code S) (th : ThreadState S) (next : Next) : Type 0 where
  pub silent : next ≡ Silent
  pub stays : (is_open th && leaves_any code th.saved th.local) ≡ false

quiet_of : {S : Type 0} (code : Code S) (th : ThreadState S) (next : Next) (attempt : Attempt) → move_of code th next attempt ≡ Quiet → StaysSilent code th next
quiet_of code th next (Fixed step) is = cc
quiet_of code th next (Meets s level) is = cc
quiet_of code th next (Undoing w) is = cc
quiet_of code th next (Full limit) is = cc
quiet_of code th Silent Look is = cc
quiet_of code th (Want op) Look is = cc
quiet_of code th Silent Begin is = record { silent = refl; stays = quiet_or_made _ _ is }
quiet_of code th Silent Checked is = record { silent = refl; stays = quiet_or_made _ _ is }
quiet_of code th (Want op) Begin is = two_made (is_open th) _ _ is
quiet_of code th (Want op) Checked is = cc
quiet_of code th Ended Begin is = cc
quiet_of code th Ended Look is = cc
quiet_of code th Ended Checked is = cc

unsaved_stays : {S : Type 0} (code : Code S) (l : S) (t : Bool) (saved : List S)
    → (t ≡ false → saved ≡ []) → (t && leaves_any code saved l) ≡ false → leaves_any code saved l ≡ false
unsaved_stays code l true saved unsaved stays = stays
unsaved_stays code l false saved unsaved stays = ap (λ saved. leaves_any code saved l) (unsaved refl)

pub quiet_is_silent : {S : Type 0} (code : Code S) (b : Bounds) (th : ThreadState S) → IsFit code th → next_move code b th ≡ Quiet
    → (code.next th.local ≡ Silent) × (leaves_any code th.saved th.local ≡ false)
quiet_is_silent code b th fits is =
    let stays = quiet_of code th (code.next th.local) th.attempt (not_before th.over (nat_le b.limits.turns th.counted) _ is) in
    (stays.silent, unsaved_stays code th.local (is_open th) th.saved fits.unsaved stays.stays)

-- ---- steps

-- the steps of the host aren't a thread's, nor those that break a deadlock
abbrev pub IsThreadStep : Step → Type 0
IsThreadStep LoadStop = ⊥
IsThreadStep SetStop = ⊥
IsThreadStep (LookMonitor r) = ⊥
IsThreadStep (LookSection s) = ⊥
IsThreadStep (BreakLevel s w level) = ⊥
IsThreadStep step = Unit {0}

-- a level opens where there is room for one
abbrev pub HasLevel : {S : Type 0} → ThreadState S → Step → Type 0
HasLevel th (OpenLevel s w) = nat_eq th.levels 255 ≡ false
HasLevel th step = Unit {0}

-- of a row that isn't lost
abbrev pub Stands : StepAnswer → Type 0
Stands (StepAnswer.Lost v) = ⊥
Stands answer = Unit {0}

usual_stands : (effect : Effect) → Stands (usual effect)
usual_stands Load = tt
usual_stands (Store v) = tt
usual_stands (Exchange old new) = tt
usual_stands (Add k) = tt

thread_step : {S : Type 0} {code : Code S} {b : Bounds} {th : ThreadState S} {next : Next} {step : Step} {a : StepAnswer} {change : Change}
    → Row code b th next step a change → Stands a → IsThreadStep step
thread_step is_lost stands = absurd stands
thread_step row stands = tt

level_room : {S : Type 0} {code : Code S} {b : Bounds} {th : ThreadState S} {next : Next} {step : Step} {a : StepAnswer} {change : Change}
    → Row code b th next step a change → Stands a → HasLevel th step
level_room is_lost stands = absurd stands
level_room (level_opened entry own needed room) stands = room
level_room row stands = tt

own_unless_split : (step : Step) → IsThreadStep step → ((n r p : ℕ) → step ≢ Split n r p) → IsOwnStep step
own_unless_split LoadStop is apart = absurd is
own_unless_split SetStop is apart = absurd is
own_unless_split (LookMonitor r) is apart = absurd is
own_unless_split (LookSection s) is apart = absurd is
own_unless_split (BreakLevel s w level) is apart = absurd is
own_unless_split (Split n r p) is apart = absurd (apart n r p refl)
own_unless_split step is apart = tt

pub makes_own_step : {S : Type 0} (code : Code S) (b : Bounds) (th : ThreadState S) (step : Step) → IsFit code th
    → next_move code b th ≡ Make step → ((n r p : ℕ) → step ≢ Split n r p) → IsOwnStep step
makes_own_step code b th step fits makes =
    own_unless_split step (thread_step (answers_are_rows code b th step (usual (effect_of step)) fits.attempt makes (usual_can (effect_of step))) (usual_stands (effect_of step)))

pub opens_below : {S : Type 0} (code : Code S) (b : Bounds) (th y : ThreadState S) (step : Step) → IsFit code th
    → next_move code b th ≡ Make step → y ≡ th → (s w : ℕ) → step ≡ OpenLevel s w → y.levels < 255
opens_below code b th y step fits makes same s w is = subst (λ y. y.levels < 255) (sym same) (below th.levels fits.kept.most
    (subst (HasLevel th) is (level_room (answers_are_rows code b th step (usual (effect_of step)) fits.attempt makes (usual_can (effect_of step))) (usual_stands (effect_of step)))))
  where
    below : (n : ℕ) → n < 2 ^ 8 → nat_eq n 255 ≡ false → n < 255
    below n low other = grind (arith, common_steps, nat_tests)

-- where a level opens with the step, a monitor is about to be entered
enters : {S : Type 0} (code : Code S) (th : ThreadState S) (next : Next) (step : Step) → HasCause code th next step → EntersWith step next
enters code th next (OpenSection s w) cause = cause.cause
enters code th next (OpenLevel s w) cause = cause.cause
enters code th next step cause = tt

pub enters_of : {S : Type 0} (code : Code S) (b : Bounds) (th : ThreadState S) (step : Step) → IsFit code th → next_move code b th ≡ Make step → EntersWith step (code.next th.local)
enters_of code b th step fits makes = enters code th (code.next th.local) step (steps_caused code b th step fits.attempt makes)

-- the reply that the thread's code is given fits
pub replies_fit_of : {S : Type 0} (code : Code S) (b x : Bounds) (th y : ThreadState S) (next : Next) (step : Step) (answer : StepAnswer)
    → IsFit code th → next_move code b th ≡ Make step → CanAnswer (effect_of step) answer → x ≡ b → y ≡ th → next ≡ code.next th.local
    → IfSome (reply_of (change_of code x y next step answer)) (FitsNext next)
replies_fit_of code b x th y next step answer fits makes can same ready wants =
    subst (λ next. IfSome (reply_of (change_of code x y next step answer)) (FitsNext next)) (sym wants)
    (subst (λ x. IfSome (reply_of (change_of code x y (code.next th.local) step answer)) (FitsNext (code.next th.local))) (sym same)
    (subst (λ y. IfSome (reply_of (change_of code b y (code.next th.local) step answer)) (FitsNext (code.next th.local))) (sym ready)
    (replies_fit code b th step answer fits.attempt makes can)))

-- ---- saves

pub saves_of : {C S : Type 0} (state : C → S) (saved : C → List S) (code : Code S) (x : JThread C) → x.own.opening ≡ None → IsFit code (thread_of state saved x) → Saves saved x
saves_of state saved code x settled fits = record {
  settled = settled;
  same = ap (λ opening. length (without_opening opening (saved x.code))) (sym settled) ∙ fits.kept.saves
      ∙ length-map (reverse x.own.marks.items) mark_meant ∙ length-reverse x.own.marks.items;
}

pub ready_of : {C S : Type 0} (state : C → S) (saved : C → List S) (code : Code S) (x : JThread C) → x.own.opening ≡ None → IsFit code (thread_of state saved x) → IsReady state saved x
ready_of state saved code x settled fits = record {
  opening = subst (λ opening. IfSome opening (Rattle.thread_moves.specs.Thread.OpensWith state saved x)) (sym settled) tt;
  same = fits.kept.saves ∙ length-map (reverse x.own.marks.items) mark_meant ∙ length-reverse x.own.marks.items;
}

-- ---- memory

undo_takes_none : (s w : ℕ) (log : List Noted) (deep held : List Held) → TakesMemory (undo_step s w log deep held) → ⊥
undo_takes_none s w (x ∷ log) deep held takes = takes
undo_takes_none s w [] (h ∷ deep) held takes = takes
undo_takes_none s w [] [] (h ∷ held) takes = takes
undo_takes_none s w [] [] [] takes = takes

memory_of : (over full : Bool) (m : Move) → MoveTakesMemory (if over then Over else if full then Stop Turns else m) → MoveTakesMemory m
memory_of true full m takes = absurd takes
memory_of false true m takes = absurd takes
memory_of false false m takes = takes

pub undoing_takes_none : {S : Type 0} (code : Code S) (b : Bounds) (th : ThreadState S) (w : ℕ) → th.attempt ≡ Undoing w → MoveTakesMemory (next_move code b th) → ⊥
undoing_takes_none code b th w undoing takes =
    let undoes : MoveTakesMemory (move_of code th (code.next th.local) th.attempt) = memory_of th.over (nat_le b.limits.turns th.counted) _ takes in
    undo_takes_none th.section w _ _ _ (subst (λ attempt. MoveTakesMemory (move_of code th (code.next th.local) attempt)) undoing undoes)
