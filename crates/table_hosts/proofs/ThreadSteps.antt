-- A thread makes no step of a kind that is made beside the threads.
use Rattle.std.proofs.Common.{◌≡◌, ℕ, false, refl}
use Rattle.op_core.specs.ThreadCode.{Code}
use Rattle.op_core.specs.declared.Next.{Next}
use Rattle.step_port.specs.declared.answer.StepAnswer.{StepAnswer}
use Rattle.step_port.specs.declared.answer.StepAnswer.TheVariants.{Done, Lost}
use Rattle.step_port.specs.declared.step.Step.{Step}
use Rattle.step_port.specs.declared.step.Step.TheVariants.{LoadStop, SetStop, LookMonitor, LookSection, BreakLevel}
use Rattle.step_port.specs.Steps.{effect_of}
use Rattle.step_port.specs.Words.{Words, CanAnswer, answer_of}
use Rattle.thread_automaton.specs.declared.Bounds.{Bounds}
use Rattle.thread_automaton.specs.declared.Move.TheVariants.{Make}
use Rattle.thread_automaton.specs.ThreadState.{ThreadState}
use Rattle.thread_automaton.specs.NextMove.{next_move}
use Rattle.thread_automaton.specs.Changes.{Change}
use Rattle.automaton_rows.specs.Fits.{AttemptFits}
use Rattle.automaton_rows.specs.Rows.{Row, is_lost}
use Rattle.automaton_rows.proofs.RowLemmas.{answers_are_rows, words_can_answer}
use Rattle.core_runs.specs.OwnParts.{is_beside}

-- a step of a kind that threads make
abbrev pub IsThreads : Step → Type 0
IsThreads LoadStop = ⊥
IsThreads SetStop = ⊥
IsThreads (LookMonitor r) = ⊥
IsThreads (LookSection s) = ⊥
IsThreads (BreakLevel s old level) = ⊥
IsThreads step = Unit {0}

-- not a lost exchange by which a level was to be broken: the rows of a lost step are of any kind
abbrev IsPlain : Step → StepAnswer → Type 0
IsPlain (BreakLevel s old level) (Lost v) = ⊥
IsPlain step a = Unit {0}

pub threads_not_beside : (step : Step) → IsThreads step → is_beside step ≡ false
threads_not_beside LoadStop is = absurd is
threads_not_beside SetStop is = absurd is
threads_not_beside (LookMonitor r) is = absurd is
threads_not_beside (LookSection s) is = absurd is
threads_not_beside (BreakLevel s old level) is = absurd is
threads_not_beside step is = refl

module _ {S : Type 0} (code : Code S) (b : Bounds) (th : ThreadState S) where
  lost_is_threads : (step : Step) (v : ℕ) → CanAnswer (effect_of step) (Lost v) → IsPlain step (Lost v) → IsThreads step
  lost_is_threads LoadStop v can plain = absurd can
  lost_is_threads SetStop v can plain = absurd can
  lost_is_threads (LookMonitor r) v can plain = absurd can
  lost_is_threads (LookSection s) v can plain = absurd can
  lost_is_threads (BreakLevel s old level) v can plain = absurd plain
  lost_is_threads step v can plain = tt

  row_is_threads : {next : Next} {step : Step} {a : StepAnswer} {change : Change} → Row code b th next step a change → CanAnswer (effect_of step) a → IsPlain step a → IsThreads step
  row_is_threads (is_lost {step = step} {v = v}) can plain = lost_is_threads step v can plain
  row_is_threads row can plain = tt

  pub makes_threads : (step : Step) → AttemptFits th (code.next th.local) th.attempt → next_move code b th ≡ Make step → IsThreads step
  makes_threads (BreakLevel s old level) fits makes = row_is_threads (answers_are_rows code b th (BreakLevel s old level) Done fits makes tt) tt tt
  makes_threads step fits makes =
      let w : Words = λ a. 0 in
      let can = words_can_answer w step in
      row_is_threads (answers_are_rows code b th step (answer_of w step) fits makes can) can tt

  pub makes_own : (step : Step) → AttemptFits th (code.next th.local) th.attempt → next_move code b th ≡ Make step → is_beside step ≡ false
  makes_own step fits makes = threads_not_beside step (makes_threads step fits makes)
