-- The words of waits along a run, and what follows of monitors and waits at each place.
use Rattle.std.proofs.Common.{◌≡◌, ℕ, suc, ◌<◌, ◌≤◌, None, Some, List, length, sym, ◌∙◌, ap, subst, arith}
use Rattle.std.specs.Prelude.{slice_get}
use Rattle.std.proofs.lemmas.Option.{slice_get_within}
use Rattle.op_core.specs.declared.Op.{Op}
use Rattle.op_core.specs.declared.Next.TheVariants.{Silent, Want}
use Rattle.op_core.specs.ThreadCode.{Code}
use Rattle.op_core.specs.Orderly.{IsRewake}
use Rattle.op_core.specs.OrdinaryState.{set_at, IsWaitingFor}
use Rattle.op_core.proofs.PointwiseLemmas.{set_at-at}
use Rattle.op_core.proofs.QuietLemmas.{quiet_step-silent}
use Rattle.heap_words.specs.declared.areas.Area.{Area}
use Rattle.thread_automaton.specs.declared.Bounds.{Bounds}
use Rattle.thread_automaton.specs.declared.Attempt.TheVariants.{Begin}
use Rattle.thread_automaton.specs.ThreadState.{ThreadState}
use Rattle.thread_automaton.specs.Told.{after_quiet}
use Rattle.core_runs.specs.Cores.{Core}
use Rattle.core_runs.specs.Acts.{Act, quiet, did, beside, QuietAt, ActAt}
use Rattle.core_runs.specs.Reading.{waiting_in}
use Rattle.section_laws.proofs.ClaimLemmas.{none_some}
use Rattle.section_laws.proofs.RunLemmas.{along}
use Rattle.section_laws.proofs.FactLemmas.{each}
use Rattle.section_laws.proofs.held_levels.StandLemmas.{stands_at, quiet_next}
use Rattle.first_law.specs.RunMonitors.{IsMonitorRun}
use Rattle.first_law.specs.Waits.{WaitWordSays, looked_below, WaitsAreKnown}
use Rattle.first_law.proofs.grounded_monitors.WordLemmas.{beside_wait, zero_state}
use Rattle.first_law.proofs.grounded_monitors.SaysLemmas.{says_new}
use Rattle.first_law.proofs.grounded_monitors.WaitLemmas.{WaitsAreLow}
use Rattle.first_law.proofs.grounded_monitors.PassLemmas.{step_known}

module _ {S : Type 0} (code : Code S) (b : Bounds) (first : S) (classes : ℕ) (c : ℕ → Core S) (acts : List Act) (run : IsMonitorRun code b first classes c acts) (low : WaitsAreLow code c acts) where
  -- ---- silent moves, and steps beside those of threads

  quiet_known : (k t : ℕ) → k < length acts → QuietAt code b c k t → WaitsAreKnown code (c k) → WaitsAreKnown code (c (suc k))
  quiet_known k t within at before = subst (WaitsAreKnown code) (sym at.leads) (record {
    unused = λ u none. before.unused u (set_at-at (λ o. o ≡ None → (c k).threads u ≡ None) (c k).threads t (Some (after_quiet at.from at.local)) u (λ own some. cc) (λ other was. was) none);
    from_one = set_at-at (λ o. o ≡ None) (c k).threads t (Some (after_quiet at.from at.local)) 0 (λ own. absurd (not_first own)) (λ other. before.from_one);
    says = λ u. each (λ (x : ThreadState S). WaitWordSays (code.next x.local) x.attempt ((c k).words (Area.Wait u))) (c k).threads t (after_quiet at.from at.local) u
        (λ own. subst (λ n. WaitWordSays (code.next at.local) Begin ((c k).words (Area.Wait n))) (sym own) own_says) (λ uh other there. before.says u uh there);
    passed = λ v u r. each (λ (x : ThreadState S). code.next x.local ≡ Want (Op.Notify r) → u < looked_below x.attempt → IsWaitingFor r (waiting_in (set_at (c k).threads t (Some (after_quiet at.from at.local)) u) ((c k).words (Area.Wait u))) → ⊥)
        (c k).threads t (after_quiet at.from at.local) v
        (λ own wants below. absurd (no u below))
        (λ vh other there wants below waits. before.passed v u r vh there wants below (was_waiting r u waits));
  })
    where
      silent : code.next at.from.local ≡ Silent
      silent = quiet_next code at.from.local at.local at.step

      usual : IsRewake (code.next at.local) → ⊥
      usual rewake = run.levelled.ordered.orderly.silent_goes at.from.local
          (stands_at code first classes run.levelled.ordered.orderly b c acts run.levelled.ordered k (omega (arith, within)) t at.from at.stands).can silent
          (subst (λ l. IsRewake (code.next l)) (sym (quiet_step-silent code at.from.local at.local at.step)) rewake)

      own_says : WaitWordSays (code.next at.local) Begin ((c k).words (Area.Wait t))
      own_says = says_new (code.next at.local) Begin ((c k).words (Area.Wait t)) usual (λ up. up)
          (subst (λ next. WaitWordSays next at.from.attempt ((c k).words (Area.Wait t))) silent (before.says t at.from at.stands))

      not_first : 0 ≡ t → ⊥
      not_first own = none_some at.from (sym before.from_one ∙ ap (c k).threads own ∙ at.stands)

      no : (u : ℕ) → u < 0 → ⊥
      no u below = omega (arith, below)

      was_waiting : (r u : ℕ) → IsWaitingFor r (waiting_in (set_at (c k).threads t (Some (after_quiet at.from at.local)) u) ((c k).words (Area.Wait u))) → IsWaitingFor r (waiting_in ((c k).threads u) ((c k).words (Area.Wait u)))
      was_waiting r u = set_at-at (λ o. IsWaitingFor r (waiting_in o ((c k).words (Area.Wait u))) → IsWaitingFor r (waiting_in ((c k).threads u) ((c k).words (Area.Wait u))))
          (c k).threads t (Some (after_quiet at.from at.local)) u
          (λ own waits. subst (λ o. IsWaitingFor r (waiting_in o ((c k).words (Area.Wait u)))) (sym (ap (c k).threads own ∙ at.stands)) waits) (λ other waits. waits)

  act_known : (k : ℕ) (x : Act) → slice_get acts k ≡ Some x → ActAt code b c k x → WaitsAreKnown code (c k) → WaitsAreKnown code (c (suc k))
  act_known k (quiet t) here at before = quiet_known k t (slice_get_within acts k (quiet t) here) at before
  act_known k (did t step a) here at before = step_known code b first classes c acts run low k (slice_get_within acts k (did t step a) here) before t step a here at
  act_known k (beside t step a) here at before = subst (WaitsAreKnown code) (sym at.leads) (record {
    unused = λ u none. beside_wait step at.is (c k).words u ∙ before.unused u none;
    from_one = before.from_one;
    says = λ u uh there. subst (WaitWordSays (code.next uh.local) uh.attempt) (sym (beside_wait step at.is (c k).words u)) (before.says u uh there);
    passed = λ v u r vh there wants below waits. before.passed v u r vh there wants below (subst (λ n. IsWaitingFor r (waiting_in ((c k).threads u) n)) (beside_wait step at.is (c k).words u) waits);
  })

  first_known : ((t : ℕ) → (c 0).words (Area.Wait t) ≡ 0) → (c 0).threads 0 ≡ None → WaitsAreKnown code (c 0)
  first_known awake from_one = record {
    unused = λ t none. awake t;
    from_one = from_one;
    says = λ t th there.
        let begins = run.levelled.ordered.run.begins.threads t th there in
        let local : begins.2 ≡ first = ap (λ (z : ThreadState S). z.local) (sym begins.3) ∙ run.levelled.ordered.begins t th there in
        subst (λ (x : ThreadState S). WaitWordSays (code.next x.local) x.attempt ((c 0).words (Area.Wait t))) (sym begins.3)
        (says_new (code.next begins.2) Begin ((c 0).words (Area.Wait t)) (λ rewake. run.levelled.ordered.orderly.first_goes (subst (λ l. IsRewake (code.next l)) local rewake)) (λ up. up)
        (zero_state ((c 0).words (Area.Wait t)) (awake t)));
    passed = λ t u r th there wants below. absurd (no u (subst (λ (x : ThreadState S). u < looked_below x.attempt) (run.levelled.ordered.run.begins.threads t th there).3 below));
  }
    where
      no : (u : ℕ) → u < 0 → ⊥
      no u below = omega (arith, below)

  pub known_at : ((t : ℕ) → (c 0).words (Area.Wait t) ≡ 0) → (c 0).threads 0 ≡ None → (k : ℕ) → k ≤ length acts → WaitsAreKnown code (c k)
  known_at awake from_one k within = along code b c acts run.levelled.ordered.run.leads (λ n. WaitsAreKnown code (c n)) (first_known awake from_one) (λ n x here at before. act_known n x here at before) k within
