-- The facts on sections along a run.
use Rattle.std.proofs.Common.{◌≡◌, ℕ, zero, suc, ◌+◌, ◌<◌, ◌≤◌, Some, List, [], ◌∷◌, length, refl, sym, ◌∙◌, ap, subst, arith}
use Rattle.std.specs.Prelude.{slice_get}
use Rattle.std.proofs.lemmas.Option.{same_Some}
use Rattle.op_core.specs.ThreadCode.{Code}
use Rattle.op_core.specs.OrdinaryState.{set_at}
use Rattle.step_port.specs.declared.answer.StepAnswer.{StepAnswer}
use Rattle.step_port.specs.declared.step.Step.{Step}
use Rattle.step_port.specs.declared.step.Step.TheVariants.{Split}
use Rattle.step_port.specs.Steps.{effect_of}
use Rattle.step_port.specs.Words.{Words, CanAnswer, words_after}
use Rattle.thread_automaton.specs.declared.Bounds.{Bounds}
use Rattle.thread_automaton.specs.ThreadState.{ThreadState, first_state}
use Rattle.thread_automaton.specs.Told.{after_answer, after_quiet}
use Rattle.automaton_rows.proofs.RowLemmas.{words_can_answer}
use Rattle.automaton_rows.proofs.FitLemmas.{answers_keep}
use Rattle.core_runs.specs.Cores.{Core, threads_by}
use Rattle.core_runs.specs.Acts.{Act, quiet, did, beside, QuietAt, DidAt, ActAt, ActFrom}
use Rattle.section_laws.specs.Runs.{IsBeginning, IsRun}
use Rattle.section_laws.proofs.DeedLemmas.{view, Deed, deed_of}
use Rattle.section_laws.proofs.ClaimLemmas.{none_some}
use Rattle.section_laws.proofs.FactLemmas.{silent_steps_keep, Threads, InThreads, Facts, each, came_other, came_own, step_facts, Still, as_before, calmed, just_begun, still_facts, first_facts, beside_facts}

-- ---- lists of acts

pub get_some : {A : Type 0} (xs : List A) (k : ℕ) → k < length xs → (x : A) × (slice_get xs k ≡ Some x)
get_some [] k below = absurd (no k below)
  where
    no : (k : ℕ) → k < 0 → ⊥
    no k below = omega arith
get_some (x ∷ xs) zero below = (x, refl)
get_some (x ∷ xs) (suc k) below = get_some xs k (omega (arith, below))

module _ {S : Type 0} (code : Code S) (b : Bounds) (c : ℕ → Core S) where
  act_from : (acts : List Act) (k j : ℕ) (x : Act) → ActFrom code b c k acts → slice_get acts j ≡ Some x → ActAt code b c (k + j) x
  act_from [] k j x leads at = none_some x at
  act_from (y ∷ acts) k zero x leads at =
      subst (λ n. ActAt code b c n x) (omega arith) (subst (ActAt code b c k) (same_Some y x at) leads.0)
  act_from (y ∷ acts) k (suc j) x leads at = subst (λ n. ActAt code b c n x) (omega arith) (act_from acts (suc k) j x leads.1 at)

  pub act_at : (acts : List Act) (j : ℕ) (x : Act) → ActFrom code b c 0 acts → slice_get acts j ≡ Some x → ActAt code b c j x
  act_at acts j x leads at = subst (λ n. ActAt code b c n x) (omega arith) (act_from acts 0 j x leads at)

  -- what is so at the beginning, and stays so with each act, is so at each place
  pub along : (acts : List Act) → ActFrom code b c 0 acts → (P : ℕ → Type 0) → P 0
      → ((k : ℕ) (x : Act) → slice_get acts k ≡ Some x → ActAt code b c k x → P k → P (suc k)) → (k : ℕ) → k ≤ length acts → P k
  along acts leads P start step zero within = start
  along acts leads P start step (suc k) within =
      let here = get_some acts k within in
      step k here.0 here.1 (act_at acts k here.0 leads here.1) (along acts leads P start step k (omega (arith, within)))

-- ---- the facts

-- what holds of sections in the state of a core
abbrev pub Known : {S : Type 0} → Code S → Core S → Type 0
Known code c = Facts code c.words (InThreads c.threads)

module _ {S : Type 0} (code : Code S) where
  handed_facts : (step : Step) (w : Words) (l : S) (threads : Threads S) → Facts code w (InThreads threads) → Facts code w (InThreads (threads_by code step l threads))
  handed_facts (Split n r p) w l threads facts = still_facts code w (InThreads threads) facts (InThreads (set_at threads n (Some (first_state n p (code.child l r)))))
      (λ u. each (Still code (InThreads threads) u) threads n (first_state n p (code.child l r)) u
      (λ own. just_begun n p (code.child l r) refl) (λ uh other at. as_before at))
  handed_facts step w l threads facts = facts

  module _ (b : Bounds) (c : ℕ → Core S) (k : ℕ) where
    -- what the thread does with its step
    pub deed_at : {t : ℕ} {step : Step} {a : StepAnswer} (at : DidAt code b c k t step a) → Known code (c k)
        → Deed at.from step a (view (after_answer code b at.from step a))
    deed_at {t} {step} {a} at facts = deed_of code b at.from (c k).words step a (facts.fit t at.from at.stands) at.move at.answered

    did_facts : (t : ℕ) (step : Step) (a : StepAnswer) → DidAt code b c k t step a → Known code (c k) → Known code (c (suc k))
    did_facts t step a at facts =
        let can : CanAnswer (effect_of step) a = subst (CanAnswer (effect_of step)) (sym at.answered) (words_can_answer (c k).words step) in
        let y : ThreadState S = after_answer code b at.from step a in
        subst (Known code) (sym at.leads) (handed_facts step (words_after step (c k).words) at.from.local (set_at (c k).threads t (Some y))
        (step_facts code (c k).words (InThreads (c k).threads) facts t at.from step a (view y) at.stands (deed_at at facts) at.answered
        (InThreads (set_at (c k).threads t (Some y)))
        (λ u. each _ (c k).threads t y u
        (λ own. came_own own at.from at.stands (deed_at at facts) (answers_keep code b at.from step a (facts.fit t at.from at.stands) at.move can))
        (λ uh other there. came_other other there))))

    quiet_facts : (t : ℕ) → QuietAt code b c k t → Known code (c k) → Known code (c (suc k))
    quiet_facts t at facts =
        let y : ThreadState S = after_quiet at.from at.local in
        subst (Known code) (sym at.leads)
        (still_facts code (c k).words (InThreads (c k).threads) facts (InThreads (set_at (c k).threads t (Some y)))
        (λ u. each (Still code (InThreads (c k).threads) u) (c k).threads t y u
        (λ own. calmed at.from (ap (c k).threads own ∙ at.stands) (record { seen = refl; fit = silent_steps_keep code at.from at.local (facts.fit t at.from at.stands) }))
        (λ uh other there. as_before there)))

    pub act_facts : (x : Act) → ActAt code b c k x → Known code (c k) → Known code (c (suc k))
    act_facts (quiet t) at facts = quiet_facts t at facts
    act_facts (did t step a) at facts = did_facts t step a at facts
    act_facts (beside t step a) at facts = subst (Known code) (sym at.leads) (beside_facts code step (c k).words (InThreads (c k).threads) at.is facts)

  beginning_facts : (c : Core S) → IsBeginning c → Known code c
  beginning_facts c begins = first_facts code c.words (InThreads c.threads) begins.sections begins.threads

  pub facts_at : (b : Bounds) (c : ℕ → Core S) (acts : List Act) → IsRun code b c acts → (k : ℕ) → k ≤ length acts → Known code (c k)
  facts_at b c acts run k within =
      along code b c acts run.leads (λ n. Known code (c n)) (beginning_facts (c 0) run.begins) (λ n x here at facts. act_facts b c n x at facts) k within
