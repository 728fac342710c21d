-- What a turn leaves of what was so of the thread.
use Rattle.std.proofs.Common.{◌≡◌, ℕ, inl, inr, sym, subst, refl}
use Rattle.std.specs.Prelude.{Result, Ok, Err, IfOk, OnErr, IsOk}
use Rattle.op_core.specs.declared.NoMemory.{NoMemory}
use Rattle.op_core.specs.ThreadCode.{Code}
use Rattle.step_port.specs.declared.answer.StepAnswer.{StepAnswer}
use Rattle.step_port.specs.declared.step.Step.{Step}
use Rattle.step_port.specs.Steps.{effect_of}
use Rattle.step_port.specs.Words.{CanAnswer}
use Rattle.thread_automaton.specs.declared.Bounds.{Bounds}
use Rattle.thread_automaton.specs.declared.Move.{Move}
use Rattle.thread_automaton.specs.declared.Move.TheVariants.{Over, Quiet, Stop, Make}
use Rattle.thread_automaton.specs.declared.Attempt.TheVariants.{Undoing}
use Rattle.thread_automaton.specs.ThreadState.{ThreadState}
use Rattle.thread_automaton.specs.NextMove.{next_move}
use Rattle.thread_automaton.specs.Told.{after_answer, after_quiet}
use Rattle.automaton_rows.specs.Fits.{IsFit}
use Rattle.automaton_rows.proofs.FitLemmas.{answers_keep}
use Rattle.thread_moves.specs.declared.thread.JThread.{JThread}
use Rattle.rollback_core.specs.declared.turned.Turn.{Turn}
use Rattle.thread_moves.specs.Thread.{AreCounted}
use Rattle.rollback_core.specs.Turn.{Turned, MoveTakesMemory}
use Rattle.rollback_core.proofs.CountLemmas.{answers_within, quiet_within}
use Rattle.rollback_core.proofs.MoveLemmas.{undoing_takes_none}

pub silent_steps_keep : {S : Type 0} (code : Code S) (th : ThreadState S) (l : S) → IsFit code th → IsFit code (after_quiet th l)
silent_steps_keep code th l fits = record {
  attempt = tt;
  kept = record { saves = fits.kept.saves; few = fits.kept.few; levels = fits.kept.levels; most = fits.kept.most; held = fits.kept.held; in_levels = fits.kept.in_levels; waited = fits.kept.waited };
  unsaved = fits.unsaved;
  unlogged = fits.unlogged;
}

module _ {C S Pass : Type 0} (meant : JThread C → ThreadState S) (code : Code S) (b : Bounds) (th behind : ThreadState S)
    (stepped : Step → StepAnswer → Type 0) (handed : Step → Pass → Type 0) (still : Type 0) where
  -- what each move keeps, a turn keeps
  move_keeps : (P : ThreadState S → Type 0) → ((l : S) → P (after_quiet th l))
      → ((step : Step) (answer : StepAnswer) → next_move code b th ≡ Make step → CanAnswer (effect_of step) answer → P (after_answer code b th step answer))
      → P th → (r : Turn C Pass) (m : Move) → next_move code b th ≡ m → Turned meant code b th behind stepped handed still r m → P behind
  move_keeps P quiet answers has r Over is turned = subst P (sym turned.1.thread) has
  move_keeps P quiet answers has r (Stop limit) is turned = subst P (sym turned.1.thread) has
  move_keeps P quiet answers has r Quiet is (same, inl made) = subst P (sym made.goes) (quiet made.local)
  move_keeps P quiet answers has r Quiet is (same, inr stays) = subst P (sym stays.1.thread) has
  move_keeps P quiet answers has r (Make step) is turned = subst P (sym turned.goes) (answers step turned.answer is turned.kind)

  turn_keeps : (P : ThreadState S → Type 0) → ((l : S) → P (after_quiet th l))
      → ((step : Step) (answer : StepAnswer) → next_move code b th ≡ Make step → CanAnswer (effect_of step) answer → P (after_answer code b th step answer))
      → P th → (result : Result (Turn C Pass) NoMemory) → IfOk result (λ r. Turned meant code b th behind stepped handed still r (next_move code b th))
      → OnErr result (behind ≡ th) → P behind
  turn_keeps P quiet answers has (Ok r) turned err = move_keeps P quiet answers has r (next_move code b th) refl turned
  turn_keeps P quiet answers has (Err e) turned err = subst P (sym err) has

  pub turn_fits : IsFit code th → (result : Result (Turn C Pass) NoMemory)
      → IfOk result (λ r. Turned meant code b th behind stepped handed still r (next_move code b th)) → OnErr result (behind ≡ th) → IsFit code behind
  turn_fits fits = turn_keeps (IsFit code) (λ l. silent_steps_keep code th l fits) (λ step answer makes can. answers_keep code b th step answer fits makes can) fits

  pub turn_counts : IsFit code th → AreCounted th → (result : Result (Turn C Pass) NoMemory)
      → IfOk result (λ r. Turned meant code b th behind stepped handed still r (next_move code b th)) → OnErr result (behind ≡ th) → AreCounted behind
  turn_counts fits counts = turn_keeps AreCounted (λ l. quiet_within th l counts) (λ step answer makes can. answers_within code b th step answer counts) counts

pub undoing_is_ok : {S T : Type 0} (code : Code S) (b : Bounds) (th : ThreadState S) (w : ℕ) → th.attempt ≡ Undoing w → (result : Result T NoMemory)
    → OnErr result (MoveTakesMemory (next_move code b th)) → IsOk result
undoing_is_ok code b th w undoing (Ok r) memory = refl
undoing_is_ok code b th w undoing (Err e) memory = absurd (undoing_takes_none code b th w undoing memory)

-- a turn of x is one of y where they are the same
pub turned_as : {C S Pass : Type 0} (meant : JThread C → ThreadState S) (code : Code S) (stepped : Step → StepAnswer → Type 0) (handed : Step → Pass → Type 0)
    (still : Type 0) (behind : ThreadState S) (result : Result (Turn C Pass) NoMemory) (x y : JThread C) → x ≡ y
    → IfOk result (λ r. Turned meant code x.own.bounds (meant x) behind stepped handed still r (next_move code x.own.bounds (meant x)))
    → IfOk result (λ r. Turned meant code y.own.bounds (meant y) behind stepped handed still r (next_move code y.own.bounds (meant y)))
turned_as meant code stepped handed still behind result x y same turned =
    subst (λ z. IfOk result (λ r. Turned meant code z.own.bounds (meant z) behind stepped handed still r (next_move code z.own.bounds (meant z)))) same turned
