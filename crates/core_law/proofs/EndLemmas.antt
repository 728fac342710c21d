-- What is left of a run that ends where no thread is enabled is stuck.
use Rattle.std.proofs.Common.{◌≡◌, ℕ, ◌<◌, ◌≤◌, Bool, true, false, true≢false, Option, None, Some, List, length, refl, sym, ◌∙◌, ap, subst, arith}
use Rattle.std.specs.Prelude.{IsSomeAnd, if◌then◌else◌}
use Rattle.std.proofs.lemmas.Bool.{not-true}
use Rattle.op_core.specs.declared.Op.TheVariants.{Join}
use Rattle.op_core.specs.declared.Next.TheVariants.{Want}
use Rattle.op_core.specs.ThreadCode.{Code}
use Rattle.op_core.specs.OrdinaryState.{Object, OrdinaryState, live, ended}
use Rattle.op_core.specs.InPlaceList.{Entry, IsInPlaceList, owned_by}
use Rattle.step_port.specs.declared.step.Step.TheVariants.{Split}
use Rattle.thread_automaton.specs.declared.Attempt.{Attempt}
use Rattle.thread_automaton.specs.declared.Attempt.TheVariants.{Fixed}
use Rattle.thread_automaton.specs.ThreadState.{ThreadState}
use Rattle.automaton_rows.specs.Fits.{AttemptFits}
use Rattle.core_runs.specs.Entries.{ShowFrom}
use Rattle.core_runs.specs.Reading.{end_wanted, place_in, thread_in, ordinary}
use Rattle.section_laws.specs.Settled.{to_undo}
use Rattle.section_laws.specs.SettledMonitors.{depth_back}
use Rattle.section_laws.specs.SettledMonitors as settled
use Rattle.section_laws.proofs.RunLemmas.{facts_at}
use Rattle.section_laws.specs.Layout.{IsLaidRun}
use Rattle.first_law.specs.RunMonitors.{IsMonitorRun}
use Rattle.first_law.specs.SettledRuns.{held_in, back_in}
use Rattle.first_law.proofs.settled_monitors.SettleLemmas.{same_is_held}
use Rattle.first_law.proofs.grounded_monitors.RunLemmas.{free_runs_fit_objects, free_runs_hold_monitors, free_runs_are_in_place}
use Rattle.core_law.specs.RevokedLevels.{is_level_revoked}
use Rattle.core_law.proofs.RevokedLemmas.{revoked_levels_are_told}
use Rattle.word_runs.specs.Enabled.{is_enabled}
use Rattle.word_runs.specs.WordTurns.{is_live, IsEnabledIn}
use Rattle.core_law.specs.Idle.{JoinsNameThreads, IsLeftAt}
use Rattle.core_law.specs.Stuck.{IdleRunsEndStuck, HeldUpTurnsAreIdle}
use Rattle.core_law.proofs.RestLemmas.{idle_runs_have_nothing_to_undo}
use Rattle.core_law.proofs.StuckLemmas.{idle_cores_are_stuck}

pub idle_runs_end_stuck : {S : Type 0} (code : Code S) → IdleRunsEndStuck code
idle_runs_end_stuck {S} code b is_thread first classes c acts free idle left =
    idle_cores_are_stuck code b is_thread first classes c acts mon laid free.grounded.starts free.grounded.ends (length acts) upto idle joins left.last left_at
  where
    mon : IsMonitorRun code b first classes c acts
    mon = free_runs_hold_monitors code b is_thread first classes c acts free

    laid : IsLaidRun code b is_thread c acts
    laid = free_runs_fit_objects code b is_thread first classes c acts free

    upto : length acts ≤ length acts
    upto = omega arith

    states : ℕ → OrdinaryState S
    states k = ordinary code is_thread (c k)

    placed : (es : List Entry) × (length es ≡ length acts) × ShowFrom code b c 0 acts es × IsInPlaceList code (λ k. ordinary code is_thread (c k)) es
    placed = free_runs_are_in_place code b is_thread first classes c acts free

    -- a thread that waits for another's end is where it is
    place_so : (th : ThreadState S) (r : ℕ) (attempt : Attempt) → AttemptFits th (Want (Join r)) attempt → place_in code th.local attempt ≡ th.local
    place_so th r (Fixed (Split n q p)) fits = absurd fits
    place_so th r attempt fits = refl

    joins : JoinsNameThreads code is_thread (c (length acts))
    joins t r th at alive wants =
        subst (λ n. IsSomeAnd ((c n).objects r) (λ (o : Object). (is_thread o.class ≡ true) × (1 < o.words))) placed.1
        (free.grounded.kept states placed.0 refl placed.3 t th.local (Join r) (subst (λ n. (states n).threads t ≡ live th.local) (sym placed.1) there) wants)
      where
        there : (states (length acts)).threads t ≡ live th.local
        there = ap (thread_in code ((c (length acts)).starting t)) at ∙ ap (λ x. if x then ended (end_wanted (code.next th.local)) else live (place_in code th.local th.attempt)) alive
            ∙ ap live (place_so th r th.attempt (subst (λ n. AttemptFits th n th.attempt) wants ((facts_at code b c acts laid.run (length acts) upto).fit t th at).attempt))

    rest : (t : ℕ) (th : ThreadState S) → (c (length acts)).threads t ≡ Some th → to_undo (is_level_revoked c acts) ((c (length acts)).levels t) ≡ 0
    rest = idle_runs_have_nothing_to_undo code b first classes c acts mon.levelled (is_level_revoked c acts) (revoked_levels_are_told code b first classes c acts mon.levelled) idle

    left_at : IsLeftAt code is_thread (c (length acts)) left.last
    left_at = record {
      objects = left.kept.objects;
      waiting = left.kept.waiting;
      classes = left.kept.classes;
      starts = left.kept.starts;
      kinds = left.kept.kinds;
      monitors = λ t r th at has. left.monitors.holds t r (ap (λ o. settled.is_held r (held_in o)) at ∙ sym (same_is_held r th.held) ∙ has)
          ∙ ap (owned_by t) (ap (λ o. back_in (is_level_revoked c acts) ((c (length acts)).levels t) o r) at ∙ ap (λ n. depth_back n th.marks th.held r) (rest t th at));
      places = λ t th l at is. left.places t l (rest t th at) is;
    }

-- ---- turns that are held up

pub held_up_turns_are_idle : {S : Type 0} (code : Code S) → HeldUpTurnsAreIdle code
held_up_turns_are_idle {S} code b run up = record {
  some_live = one_live up.some_live.0 (run.state.core.threads up.some_live.0) refl up.some_live.1;
  not_enabled = λ t th at. not_so (is_enabled code run.state.core.words th) (λ is. up.none_enabled t (subst (IsEnabledIn code run.state) (sym at) is));
}
  where
    not_so : (x : Bool) → (x ≡ true → ⊥) → x ≡ false
    not_so true isnt = absurd (isnt refl)
    not_so false isnt = refl

    one_live : (t : ℕ) (o : Option (ThreadState S)) → run.state.core.threads t ≡ o → is_live o ≡ true → (t : ℕ) × (th : ThreadState S) × (run.state.core.threads t ≡ Some th) × (th.over ≡ false)
    one_live t (Some th) at is = (t, th, at, not-true th.over is)
    one_live t None at is = absurd (true≢false (sym is))
