-- A turn reports a thread only where one is handed out, and says what it reports.
use Rattle.std.proofs.Common.{◌≡◌, ◌≢◌, ◌∙◌, ap, subst, ℕ, Option, None, Some, refl}
use Rattle.op_core.specs.declared.Reply.{Reply}
use Rattle.op_core.specs.declared.Next.{Next}
use Rattle.op_core.specs.declared.Op.{Op}
use Rattle.op_core.specs.declared.Next.TheVariants.{Want}
use Rattle.step_port.specs.declared.answer.StepAnswer.{StepAnswer}
use Rattle.step_port.specs.declared.answer.StepAnswer.TheVariants.{Lost}
use Rattle.step_port.specs.declared.step.Effect.{Effect}
use Rattle.step_port.specs.declared.step.Effect.TheVariants.{Load}
use Rattle.step_port.specs.declared.step.Step.{Step}
use Rattle.step_port.specs.declared.step.Step.TheVariants.{LoadWait, Split}
use Rattle.op_core.specs.ThreadCode.{Code}
use Rattle.step_port.specs.Steps.{effect_of}
use Rattle.step_port.specs.Words.{CanAnswer}
use Rattle.thread_automaton.specs.declared.Bounds.{Bounds}
use Rattle.thread_automaton.specs.ThreadState.{ThreadState}
use Rattle.thread_moves.specs.declared.thread.JThread.{JThread}
use Rattle.rollback_core.specs.declared.turned.Turn.{Turn}
use Rattle.rollback_core.specs.Turn.{Says, SaysPlainly, MadeStep}
use Rattle.thread_automaton.specs.Changes.{Change, has_to_wait}
use Rattle.thread_automaton.specs.Told.{Told, born, told_by, told_unseen, told_of, told, after_answer}

unborn_by : (step : Step) (effect : Effect) (next : Next) → told_by step effect next ≢ born
unborn_by (LoadWait n) effect (Want (Op.Notify r)) is = cc
unborn_by step Load next is = cc
unborn_by step effect next is = cc

unborn_unseen : (next : Next) (step : Step) (change : Change) → told_unseen next step change ≢ born
unborn_unseen next step (has_to_wait why) is = cc
unborn_unseen next step change is = unborn_by step (effect_of step) next is

pub unborn_unless_split : (next : Next) (step : Step) (answer : StepAnswer) (change : Change) (reply : Option Reply)
    → ((n r p : ℕ) → step ≢ Split n r p) → told_of next step answer change reply ≢ born
unborn_unless_split next step (Lost v) change reply apart is = cc
unborn_unless_split next (Split n r p) answer change reply apart is = absurd (apart n r p refl)
unborn_unless_split next step answer change (Some reply) apart is = cc
unborn_unless_split next step answer change None apart is = unborn_unseen next step change is

pub told_unborn : {S : Type 0} (code : Code S) (b : Bounds) (th : ThreadState S) (step : Step) (answer : StepAnswer)
    → ((n r p : ℕ) → step ≢ Split n r p) → told code b th step answer ≢ born
told_unborn code b th step answer apart is = unborn_unless_split (code.next th.local) step answer _ _ apart is

plain_says : {C S Pass : Type 0} (meant : JThread C → ThreadState S) (code : Code S) (b : Bounds) (th : ThreadState S) (step : Step) (handed : Pass → Type 0)
    (r : Turn C Pass) (tells : Told) → tells ≢ born → SaysPlainly th.number th.silents (code.next th.local) r tells → Says meant code b th step handed r tells
plain_says meant code b th step handed r born unborn says = absurd (unborn refl)
plain_says meant code b th step handed r tells unborn says = says

-- the turn of a step that hands nothing out, from what it was made of
pub step_made : {C S Pass : Type 0} (meant : JThread C → ThreadState S) (code : Code S) (b x : Bounds) (th y behind : ThreadState S) (next : Next)
    (step : Step) (answer : StepAnswer) (stepped : StepAnswer → Type 0) (handed : Pass → Type 0) (r : Turn C Pass) (tells : Told)
    → x ≡ b → y ≡ th → next ≡ code.next th.local → stepped answer → CanAnswer (effect_of step) answer
    → ((n r p : ℕ) → step ≢ Split n r p) → behind ≡ after_answer code x y step answer → tells ≡ told code x y step answer
    → SaysPlainly y.number y.silents next r tells → MadeStep meant code b th behind step stepped handed r
step_made {C} {S} meant code b x th y behind next step answer stepped handed r tells same ready wants made can apart goes tells_is says =
    let told_is : tells ≡ told code b th step answer =
    tells_is ∙ ap (λ x. told code x y step answer) same ∙ ap (λ y. told code b y step answer) ready in
    let plainly : SaysPlainly th.number th.silents (code.next th.local) r (told code b th step answer) =
    subst (λ (y : ThreadState S). SaysPlainly y.number y.silents (code.next th.local) r (told code b th step answer)) ready
    (subst (λ next. SaysPlainly y.number y.silents next r (told code b th step answer)) wants
    (subst (λ tells. SaysPlainly y.number y.silents next r tells) told_is says)) in
    record {
      answer = answer;
      made = made;
      kind = can;
      goes = goes ∙ ap (λ x. after_answer code x y step answer) same ∙ ap (λ y. after_answer code b y step answer) ready;
      says = plain_says meant code b th step handed r (told code b th step answer) (told_unborn code b th step answer apart) plainly;
    }
