-- The words of classes along a run.
use Rattle.std.proofs.Common.{◌≡◌, ℕ, suc, ◌<◌, ◌≤◌, ◌^◌, nat_eq, Bool, true, false, Some, List, length, refl, sym, subst, arith}
use Rattle.std.specs.Prelude.{slice_get, if◌then◌else◌}
use Rattle.std.proofs.lemmas.Option.{slice_get_within}
use Rattle.op_core.specs.declared.Next.{Next}
use Rattle.op_core.specs.ThreadCode.{Code}
use Rattle.heap_words.specs.declared.areas.Area.{Area}
use Rattle.heap_words.specs.declared.words.ClassWord.TheVariants as class_words
use Rattle.heap_words.specs.Words.{class_word, class_state, class_thread, class_word_of}
use Rattle.section_state.specs.SectionWord.{revoked_of}
use Rattle.step_port.specs.declared.answer.StepAnswer.{StepAnswer}
use Rattle.step_port.specs.declared.answer.StepAnswer.TheVariants.{Lost}
use Rattle.step_port.specs.declared.step.Effect.TheVariants.{Exchange}
use Rattle.step_port.specs.declared.step.Step.{Step}
use Rattle.step_port.specs.declared.step.Step.TheVariants.{LoadClass, ClaimClass, SettleClass, LoadThread, LoadStop, SetStop, LookMonitor, LookSection, BreakLevel}
use Rattle.step_port.specs.Steps.{place_of, effect_of}
use Rattle.step_port.specs.Words.{Words, CanAnswer, put_at, words_after}
use Rattle.thread_automaton.specs.declared.Bounds.{Bounds}
use Rattle.thread_automaton.specs.ThreadState.{ThreadState}
use Rattle.thread_automaton.specs.Changes.{Change}
use Rattle.automaton_rows.specs.Rows.{Row, is_lost, class_settled}
use Rattle.automaton_rows.proofs.RowLemmas.{answers_are_rows, words_can_answer, by_if}
use Rattle.core_runs.specs.OwnParts.{is_beside}
use Rattle.core_runs.specs.Cores.{Core}
use Rattle.core_runs.specs.Acts.{Act, quiet, did, beside, ActAt}
use Rattle.section_laws.specs.Runs.{IsRun}
use Rattle.section_laws.proofs.WordLemmas.{stays_at}
use Rattle.section_laws.proofs.RunLemmas.{along, facts_at}

pub state_in : (s n : ℕ) → s < 2 ^ 8 → class_state (class_word s n) ≡ s
unfolding class_state class_word
state_in s n low = omega (arith, low)

pub thread_in_word : (s n : ℕ) → s < 2 ^ 8 → n < 2 ^ 8 → class_thread (class_word s n) ≡ n
unfolding class_thread class_word
thread_in_word s n low few = omega (arith, low, few)

pub state_zero : class_state 0 ≡ 0
unfolding class_state
state_zero = refl

-- a class is settled as ready or bad
abbrev SettlesLow : Step → Type 0
SettlesLow (SettleClass c w) = class_state w ≤ 3
SettlesLow step = Unit {0}

settled : (ok : Bool) → class_state (class_word_of (if ok then class_words.Ready else class_words.Bad)) ≤ 3
settled true = let is = state_in 2 0 (omega arith) in omega (arith, is)
settled false = let is = state_in 3 0 (omega arith) in omega (arith, is)

lost_settles : (step : Step) (v : ℕ) → CanAnswer (effect_of step) (Lost v) → SettlesLow step
lost_settles (SettleClass c w) v can = absurd can
lost_settles step v can = tt

settles_row : {S : Type 0} (code : Code S) (b : Bounds) (th : ThreadState S) {next : Next} {step : Step} {a : StepAnswer} {change : Change} → Row code b th next step a change → CanAnswer (effect_of step) a → SettlesLow step
settles_row code b th (is_lost {step = step} {v = v}) can = lost_settles step v can
settles_row code b th (class_settled {ok = ok} shut) can = settled ok
settles_row code b th row can = tt

put_class : (P : ℕ → Type 0) (w : Words) (c v d : ℕ) → P v → P (w (Area.Class d)) → P (put_at w (Area.Class c) v (Area.Class d))
put_class P w c v d new old = by_if P (nat_eq d c) v (w (Area.Class d)) (λ _. new) (λ _. old)

class_low : (step : Step) (w : Words) (d : ℕ) → SettlesLow step → class_state (w (Area.Class d)) ≤ 3 → class_state (words_after step w (Area.Class d)) ≤ 3
class_low (SettleClass c v) w d new old = put_class (λ m. class_state m ≤ 3) w c v d new old
class_low (ClaimClass c n) w d new old = by_if (λ (x : Words). class_state (x (Area.Class d)) ≤ 3) (nat_eq (w (Area.Class c)) 0) (put_at w (Area.Class c) (class_word 1 n)) w
    (λ _. put_class (λ m. class_state m ≤ 3) w c (class_word 1 n) d (let is = state_in 1 n (omega arith) in omega (arith, is)) old) (λ _. old)
class_low (LoadClass c) w d new old = old
class_low (LoadThread which) w d new old = old
class_low step w d new old = subst (λ m. class_state m ≤ 3) (sym (stays_at (effect_of step) w (place_of step) (Area.Class d) refl)) old

pub beside_class : (step : Step) → is_beside step ≡ true → (w : Words) (d : ℕ) → words_after step w (Area.Class d) ≡ w (Area.Class d)
beside_class LoadStop is w d = refl
beside_class SetStop is w d = refl
beside_class (LookMonitor r) is w d = refl
beside_class (LookSection s) is w d = refl
beside_class (BreakLevel s old level) is w d = stays_at (Exchange old (revoked_of old level)) w (Area.Section s) (Area.Class d) refl
beside_class step is w d = cc

module _ {S : Type 0} (code : Code S) (b : Bounds) (c : ℕ → Core S) (acts : List Act) (run : IsRun code b c acts) (begins : (d : ℕ) → class_state ((c 0).words (Area.Class d)) ≤ 3) where
  abbrev LowAt : ℕ → Type 0
  LowAt k = (d : ℕ) → class_state ((c k).words (Area.Class d)) ≤ 3

  act_classes : (k : ℕ) (act : Act) → slice_get acts k ≡ Some act → ActAt code b c k act → LowAt k → LowAt (suc k)
  act_classes k (quiet t) here at low d = subst (λ (z : Core S). class_state (z.words (Area.Class d)) ≤ 3) (sym at.leads) (low d)
  act_classes k (did t step a) here at low d =
      let can : CanAnswer (effect_of step) a = subst (CanAnswer (effect_of step)) (sym at.answered) (words_can_answer (c k).words step) in
      let fits = (facts_at code b c acts run k (let less = slice_get_within acts k (did t step a) here in omega (arith, less))).fit t at.from at.stands in
      subst (λ (z : Core S). class_state (z.words (Area.Class d)) ≤ 3) (sym at.leads)
      (class_low step (c k).words d (settles_row code b at.from (answers_are_rows code b at.from step a fits.attempt at.move can) can) (low d))
  act_classes k (beside t step a) here at low d =
      subst (λ (z : Core S). class_state (z.words (Area.Class d)) ≤ 3) (sym at.leads) (subst (λ m. class_state m ≤ 3) (sym (beside_class step at.is (c k).words d)) (low d))

  pub classes_at : (k : ℕ) → k ≤ length acts → LowAt k
  classes_at k within = along code b c acts run.leads LowAt begins (λ n act here at low. act_classes n act here at low) k within
