-- Monitors along a run.
use Rattle.std.proofs.Common.{◌≡◌, ◌≢◌, ◌⊎◌, inl, inr, ℕ, suc, ◌+◌, ◌^◌, ◌<◌, ◌≤◌, true, Option, Some, List, [], length, refl, sym, ◌∙◌, ap, subst, arith}
use Rattle.std.specs.Prelude.{nat_le, slice_get}
use Rattle.std.proofs.lemmas.Option.{same_Some, slice_get_within}
use Rattle.op_core.specs.declared.Next.TheVariants.{Silent}
use Rattle.op_core.specs.ThreadCode.{Code}
use Rattle.op_core.specs.Orderly.{IsRewake}
use Rattle.op_core.specs.OrdinaryState.{set_at}
use Rattle.op_core.proofs.PointwiseLemmas.{same_or_other, set_at-hit, set_at-other}
use Rattle.op_core.proofs.QuietLemmas.{quiet_step-silent}
use Rattle.section_state.specs.SectionWord.{revoke_of}
use Rattle.step_port.specs.declared.answer.StepAnswer.{StepAnswer}
use Rattle.step_port.specs.declared.step.Step.{Step}
use Rattle.step_port.specs.declared.step.Step.TheVariants.{MarkUndone}
use Rattle.thread_automaton.specs.declared.Bounds.{Bounds}
use Rattle.thread_automaton.specs.declared.Move.{Move}
use Rattle.thread_automaton.specs.declared.Move.TheVariants.{Make}
use Rattle.thread_automaton.specs.ThreadState.{ThreadState, held_as, mark_of, inside, noted_since, from_level}
use Rattle.thread_automaton.specs.NextMove.{held_word, deepened_since, undo_next, move_of, next_move}
use Rattle.thread_automaton.specs.Told.{after_quiet}
use Rattle.automaton_rows.specs.Undoing.{is_held}
use Rattle.automaton_rows.proofs.FitLemmas.{last_step}
use Rattle.core_runs.specs.Cores.{Core}
use Rattle.core_runs.specs.Acts.{Act, quiet, did, beside, QuietAt, DidAt, BesideAt, ActAt}
use Rattle.section_laws.specs.Runs.{IsRun}
use Rattle.section_laws.proofs.DeedLemmas.{makes_it}
use Rattle.section_laws.proofs.RunLemmas.{along, act_at, facts_at}
use Rattle.section_laws.proofs.held_levels.StandLemmas.{stands_at, quiet_next}
use Rattle.section_laws.specs.Marks.{counting_marks}
use Rattle.section_laws.proofs.level_marks.RowLemmas.{all_count}
use Rattle.section_laws.proofs.level_marks.RunLemmas.{undone_levels_have_marks}
use Rattle.first_law.specs.Held.{top_at, AtRest, WaitsHold, MarksHold, Holds, MarkHolds}
use Rattle.first_law.specs.RunMonitors.{IsMonitorRun}
use Rattle.first_law.specs.Laws.{MonitorsAreHeld, ThreadsHold, MonitorsOfThreadsAreHeld, UndoingsFit, UndoneMonitorsAreAsBefore}
use Rattle.first_law.proofs.run_monitors.MarkLemmas.{mark_first, mark_there}
use Rattle.first_law.proofs.run_monitors.UndoLemmas.{held_fits, undone_held}
use Rattle.first_law.proofs.run_monitors.KeptLemmas.{top_all, rest_any, waits_usual}
use Rattle.first_law.proofs.run_monitors.WordLemmas.{beside_stays}
use Rattle.first_law.proofs.run_monitors.ThreadLemmas.{contrary, begins_holding, quiet_calm, quiet_rest}
use Rattle.first_law.proofs.run_monitors.DidLemmas.{So, did_so}

module _ {S : Type 0} (code : Code S) (b : Bounds) (first : S) (classes : ℕ) (c : ℕ → Core S) (acts : List Act) (run : IsMonitorRun code b first classes c acts) where
  ran : IsRun code b c acts
  ran = run.levelled.ordered.run

  module _ (k : ℕ) (within : k < length acts) where
    here_at : k ≤ length acts
    here_at = omega (arith, within)

    -- ---- silent moves, and steps beside those of threads

    quiet_so : (t : ℕ) → QuietAt code b c k t → So code b first classes c acts run k → So code b first classes c acts run (suc k)
    quiet_so t at so = subst (λ (core : Core S). ((u : ℕ) (uh : ThreadState S) → core.threads u ≡ Some uh → Holds b (code.next uh.local) uh) × MonitorsAreHeld core) (sym at.leads) (
      λ u uh there. holds_there u uh (same_or_other u t) there,
      record {
        says = λ u r uh there has. let z = was u uh (same_or_other u t) there in
            so.1.says u r z.0 z.1 (subst (λ xs. is_held r xs ≡ true) z.3 has) ∙ ap (λ s. held_word s (held_as r z.0.held)) (sym z.2) ∙ ap (λ xs. held_word uh.section (held_as r xs)) (sym z.3);
        objects = λ u r uh there has. let z = was u uh (same_or_other u t) there in so.1.objects u r z.0 z.1 (subst (λ xs. is_held r xs ≡ true) z.3 has);
        one = λ u v r uh vh there there_v has has_v.
            let z = was u uh (same_or_other u t) there in
            let x = was v vh (same_or_other v t) there_v in
            so.1.one u v r z.0 x.0 z.1 x.1 (subst (λ xs. is_held r xs ≡ true) z.3 has) (subst (λ xs. is_held r xs ≡ true) x.3 has_v);
        taken = λ r object some. let holder = so.1.taken r object some in still holder.0 holder.1 r (same_or_other holder.0 t) holder.2 holder.3;
      },
    )
      where
        y : ThreadState S
        y = after_quiet at.from at.local

        after : ℕ → Option (ThreadState S)
        after = set_at (c k).threads t (Some (after_quiet at.from at.local))

        silent : code.next at.from.local ≡ Silent
        silent = quiet_next code at.from.local at.local at.step

        y_holds : Holds b (code.next at.local) (after_quiet at.from at.local)
        y_holds = let h = so.0 t at.from at.stands in
            let stood = stands_at code first classes run.levelled.ordered.orderly b c acts run.levelled.ordered k here_at t at.from at.stands in
            record {
              once = h.once;
              apart = h.apart;
              depths = h.depths;
              levels = λ n some deep under. h.levels n some deep (subst (λ l. n < l) (sym (top_all at.from.attempt at.from.levels (quiet_calm code b at.from at.move))) under);
              top = λ some. rest_any at.from.levels at.from.level at.from.held (code.next at.local)
                  (subst (AtRest at.from.levels at.from.level at.from.held) silent (quiet_rest code b at.from at.move at.from.levels at.from.level at.from.held (code.next at.from.local) (h.top some)));
              fixed = tt;
              waits = waits_usual at.from.level at.from.depth at.from.held (code.next at.local)
                  (λ rewake. run.levelled.ordered.orderly.silent_goes at.from.local stood.can silent (subst (λ l. IsRewake (code.next l)) (sym (quiet_step-silent code at.from.local at.local at.step)) rewake))
                  (subst (WaitsHold at.from.level at.from.depth at.from.held) silent h.waits);
              marks = subst (λ n. MarksHold n at.from.marks at.from.held) (top_all at.from.attempt at.from.levels (quiet_calm code b at.from at.move))
                  (subst (λ ms. MarksHold (top_at at.from.attempt at.from.levels) ms at.from.held) (all_count at.from.attempt at.from.levels at.from.marks (quiet_calm code b at.from at.move)) h.marks);
              within = h.within;
              opens = tt;
            }

        holds_there : (u : ℕ) (uh : ThreadState S) → (u ≡ t) ⊎ (u ≢ t) → set_at (c k).threads t (Some (after_quiet at.from at.local)) u ≡ Some uh → Holds b (code.next uh.local) uh
        holds_there u uh which there = elim which [
          | inl own ↦ subst (λ (x : ThreadState S). Holds b (code.next x.local) x)
              (same_Some (after_quiet at.from at.local) uh (sym (ap (set_at (c k).threads t (Some (after_quiet at.from at.local))) own ∙ set_at-hit (c k).threads t (Some (after_quiet at.from at.local))) ∙ there)) y_holds
          | inr other ↦ so.0 u uh (sym (set_at-other (c k).threads t (Some (after_quiet at.from at.local)) u other) ∙ there)
        ]

        was : (u : ℕ) (uh : ThreadState S) → (u ≡ t) ⊎ (u ≢ t) → set_at (c k).threads t (Some (after_quiet at.from at.local)) u ≡ Some uh
            → (zh : ThreadState S) × ((c k).threads u ≡ Some zh) × (uh.section ≡ zh.section) × (uh.held ≡ zh.held)
        was u uh which there = elim which [
          | inl own ↦
              let same = same_Some (after_quiet at.from at.local) uh (sym (ap (set_at (c k).threads t (Some (after_quiet at.from at.local))) own ∙ set_at-hit (c k).threads t (Some (after_quiet at.from at.local))) ∙ there) in
              (at.from, ap (c k).threads own ∙ at.stands, ap (λ (x : ThreadState S). x.section) (sym same), ap (λ (x : ThreadState S). x.held) (sym same))
          | inr other ↦ (uh, sym (set_at-other (c k).threads t (Some (after_quiet at.from at.local)) u other) ∙ there, refl, refl)
        ]

        still : (u : ℕ) (uh : ThreadState S) (r : ℕ) → (u ≡ t) ⊎ (u ≢ t) → (c k).threads u ≡ Some uh → is_held r uh.held ≡ true
            → (v : ℕ) × (vh : ThreadState S) × (set_at (c k).threads t (Some (after_quiet at.from at.local)) v ≡ Some vh) × (is_held r vh.held ≡ true)
        still u uh r which there has = elim which [
          | inl own ↦ (
            t,
            after_quiet at.from at.local,
            set_at-hit (c k).threads t (Some (after_quiet at.from at.local)),
            subst (λ (x : ThreadState S). is_held r x.held ≡ true) (same_Some uh at.from (sym there ∙ ap (c k).threads own ∙ at.stands)) has,
          )
          | inr other ↦ (u, uh, set_at-other (c k).threads t (Some (after_quiet at.from at.local)) u other ∙ there, has)
        ]

    beside_so : (t : ℕ) (step : Step) (a : StepAnswer) → BesideAt c k t step a → So code b first classes c acts run k → So code b first classes c acts run (suc k)
    beside_so t step a at so = subst (λ (core : Core S). ((u : ℕ) (uh : ThreadState S) → core.threads u ≡ Some uh → Holds b (code.next uh.local) uh) × MonitorsAreHeld core) (sym at.leads) (
      so.0,
      record {
        says = λ u r uh there has. beside_stays step (c k).words (r + 1) at.is ∙ so.1.says u r uh there has;
        objects = so.1.objects;
        one = so.1.one;
        taken = λ r object some. so.1.taken r object (λ none. some (beside_stays step (c k).words (r + 1) at.is ∙ none));
      },
    )

    act_so : (act : Act) → slice_get acts k ≡ Some act → ActAt code b c k act → So code b first classes c acts run k → So code b first classes c acts run (suc k)
    act_so (quiet t) here at so = quiet_so t at so
    act_so (did t step a) here at so = did_so code b first classes c acts run k within t step a here at so
    act_so (beside t step a) here at so = beside_so t step a at so

  first_so : So code b first classes c acts run 0
  first_so = (
    λ t th at.
        let begins = ran.begins.threads t th at in
        let local : begins.2 ≡ first = ap (λ (z : ThreadState S). z.local) (sym begins.3) ∙ run.levelled.ordered.begins t th at in
        subst (λ (x : ThreadState S). Holds b (code.next x.local) x) (sym begins.3)
        (begins_holding b begins.0 begins.1 begins.2 (code.next begins.2) (λ rewake. run.levelled.ordered.orderly.first_goes (subst (λ l. IsRewake (code.next l)) local rewake))),
    record {
      says = λ t r th at has. none t r th at has;
      objects = λ t r th at has. none t r th at has;
      one = λ t u r th uh at at_u has has_u. none t r th at has;
      taken = λ r object some. absurd (some (run.apart.begins r object));
    },
  )
    where
      none : {P : Type 0} (t r : ℕ) (th : ThreadState S) → (c 0).threads t ≡ Some th → is_held r th.held ≡ true → P
      none t r th at has = contrary (sym has ∙ ap (λ (x : ThreadState S). is_held r x.held) (ran.begins.threads t th at).3)

  pub so_at : (k : ℕ) → k ≤ length acts → So code b first classes c acts run k
  so_at k within = along code b c acts ran.leads (So code b first classes c acts run) first_so (λ n act here at so. act_so n (slice_get_within acts n act here) act here at so) k within

pub threads_hold : {S : Type 0} (code : Code S) → ThreadsHold code
threads_hold code b first classes c acts run k t th within at = (so_at code b first classes c acts run k within).0 t th at

pub monitors_are_held : {S : Type 0} (code : Code S) → MonitorsOfThreadsAreHeld code
monitors_are_held code b first classes c acts run k within = (so_at code b first classes c acts run k within).1

-- ---- undoing

abbrev step_in : Step → Move → Step
step_in step (Make other) = other
step_in step move = step

pub undoings_fit : {S : Type 0} (code : Code S) → UndoingsFit code
undoings_fit code b first classes c acts run k t w th within at undoing =
    let so = so_at code b first classes c acts run k within in
    let h = so.0 t th at in
    let kept = (facts_at code b c acts (ran code b first classes c acts run) k within).fit t th at in (
      held_fits (revoke_of w) (mark_of th (revoke_of w)) th.held h.once kept.kept.in_levels
          (mark_first (inside th (revoke_of w)) (revoke_of w) th.marks th.held (subst (λ g. MarksHold (top_at g th.levels) (counting_marks g th.levels th.marks) th.held) undoing h.marks)),
      below th.section b.limits.sections h.within run.numbers,
    )
  where
    below : (s l : ℕ) → s ≤ l → l < 2 ^ 32 → s < 2 ^ 32
    below s l low high = omega (arith, low, high)

pub undone_monitors_are_as_before : {S : Type 0} (code : Code S) → UndoneMonitorsAreAsBefore code
undone_monitors_are_as_before {S} code b first classes c acts run k t s w seen th here at undoing =
    undone_held th.section seen (revoke_of seen) (mark_of th (revoke_of seen)) th.held (noted_since (mark_of th (revoke_of seen)).noted th.log) s w h.once named none makes
  where
    within : k < length acts
    within = slice_get_within acts k (did t (MarkUndone s w) StepAnswer.Done) here

    low : k ≤ length acts
    low = omega (arith, within)

    h : Holds b (code.next th.local) th
    h = (so_at code b first classes c acts run k low).0 t th at

    act : DidAt code b c k t (MarkUndone s w) StepAnswer.Done
    act = act_at code b c acts k (did t (MarkUndone s w) StepAnswer.Done) (ran code b first classes c acts run).leads here

    same : act.from ≡ th
    same = same_Some act.from th (sym act.stands ∙ at)

    makes : undo_next th seen (revoke_of seen) ≡ MarkUndone s w
    makes = ap (step_in (MarkUndone s w)) (sym (ap (λ g. move_of code th (code.next th.local) g) undoing)
        ∙ makes_it th.over (nat_le b.limits.turns th.counted) _ (MarkUndone s w) (subst (λ x. next_move code b x ≡ Make (MarkUndone s w)) same act.move))

    none : from_level (revoke_of seen) th.held ≡ []
    none = last_step th.section seen s w (noted_since (mark_of th (revoke_of seen)).noted th.log) (deepened_since (mark_of th (revoke_of seen)) th.held) (from_level (revoke_of seen) th.held) makes

    named : MarkHolds (revoke_of seen) (mark_of th (revoke_of seen)) th.held
    named = mark_there (inside th (revoke_of seen)) (revoke_of seen) th.marks th.held (undone_levels_have_marks code b first classes c acts run.levelled.ordered k t seen th low at undoing)
        (subst (λ g. MarksHold (top_at g th.levels) (counting_marks g th.levels th.marks) th.held) undoing h.marks)
