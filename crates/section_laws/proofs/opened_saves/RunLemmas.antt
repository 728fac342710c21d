-- Saves along a run.
use Rattle.std.proofs.Common.{◌≡◌, ℕ, suc, ◌<◌, ◌≤◌, Some, List, length, sym, subst, arith}
use Rattle.std.proofs.lemmas.Option.{slice_get_within}
use Rattle.op_core.specs.ThreadCode.{Code}
use Rattle.op_core.specs.OrdinaryState.{set_at}
use Rattle.op_core.proofs.PointwiseLemmas.{set_at-hit, set_at-other}
use Rattle.section_state.specs.SectionWord.{revoke_of}
use Rattle.step_port.specs.declared.answer.StepAnswer.{StepAnswer}
use Rattle.step_port.specs.declared.step.Step.{Step}
use Rattle.step_port.specs.declared.step.Step.TheVariants.{Split}
use Rattle.step_port.specs.Steps.{effect_of}
use Rattle.step_port.specs.Words.{CanAnswer}
use Rattle.thread_automaton.specs.declared.Bounds.{Bounds}
use Rattle.thread_automaton.specs.ThreadState.{ThreadState, first_state}
use Rattle.thread_automaton.specs.Changes.{goes_back, changed}
use Rattle.thread_automaton.specs.Answers.{change_of}
use Rattle.thread_automaton.specs.Told.{told, after_answer, after_quiet}
use Rattle.automaton_rows.specs.Fits.{IsFit}
use Rattle.automaton_rows.proofs.RowLemmas.{answers_are_rows, words_can_answer}
use Rattle.core_runs.specs.Cores.{Core, threads_by, levels_by}
use Rattle.core_runs.specs.Acts.{Act, quiet, did, beside, QuietAt, DidAt, ActAt}
use Rattle.section_laws.proofs.FactLemmas.{each}
use Rattle.section_laws.proofs.RunLemmas.{along, facts_at}
use Rattle.section_laws.proofs.own_sections.SeenLemmas.{undoing_seen}
use Rattle.section_laws.proofs.own_sections.MoveLemmas.{own_at}
use Rattle.section_laws.specs.Levels.{IsLevelledRun}
use Rattle.section_laws.proofs.section_levels.RunLemmas.{counted_at}
use Rattle.section_laws.specs.OpenedSaves.{AreAsOpened, SavesAreAsOpened}
use Rattle.section_laws.proofs.opened_saves.ChangeLemmas.{undone_level, changes, counted_opened}

module _ {S : Type 0} (code : Code S) (b : Bounds) (first : S) (classes : ℕ) (c : ℕ → Core S) (acts : List Act) (run : IsLevelledRun code b first classes c acts) where
  abbrev OpenedAt : ℕ → Type 0
  OpenedAt k = (t : ℕ) (th : ThreadState S) → (c k).threads t ≡ Some th → AreAsOpened c t th.saved th.marks ((c k).levels t)

  module _ (k : ℕ) (within : k < length acts) where
    here_at : k ≤ length acts
    here_at = omega (arith, within)

    did_opened : (t : ℕ) (step : Step) (a : StepAnswer) → DidAt code b c k t step a → OpenedAt k → OpenedAt (suc k)
    did_opened t step a at before =
        subst (λ (core : Core S). (u : ℕ) (uh : ThreadState S) → core.threads u ≡ Some uh → AreAsOpened c u uh.saved uh.marks (core.levels u)) (sym at.leads) (λ u uh there. handed step u uh there)
      where
        fits : IsFit code at.from
        fits = (facts_at code b c acts run.ordered.run k here_at).fit t at.from at.stands

        undone : (n : ℕ) → change_of code b at.from (code.next at.from.local) step a ≡ goes_back n → (0 < n) × (n ≤ at.from.levels)
        undone n is =
            let row = answers_are_rows code b at.from step a fits.attempt at.move (subst (CanAnswer (effect_of step)) (sym at.answered) (words_can_answer (c k).words step)) in
            let by = undone_level code b at.from row n is in
            let seen = undoing_seen code at.from (c k).words (own_at code b c acts run.ordered.run run.ordered.in_bits k here_at t at.from at.stands) fits by.0 by.1 in
            (some at.from.pinned (revoke_of by.0) n seen.0 by.2, subst (λ m. m ≤ at.from.levels) (sym by.2) seen.1)
          where
            some : (p r n : ℕ) → p < r → n ≡ r → 0 < n
            some p r n low is = omega (arith, low, is)

        y_opened : AreAsOpened c t (after_answer code b at.from step a).saved (after_answer code b at.from step a).marks (levels_by k (change_of code b at.from (code.next at.from.local) step a) ((c k).levels t))
        y_opened = counted_opened c t (told code b at.from step a) (changed code at.from (change_of code b at.from (code.next at.from.local) step a))
            (levels_by k (change_of code b at.from (code.next at.from.local) step a) ((c k).levels t))
            (changes c t code k at.from at.stands ((c k).levels t) ((counted_at code b first classes c acts run k here_at).there t at.from at.stands) (before t at.from at.stands)
            (change_of code b at.from (code.next at.from.local) step a) undone)

        there_opened : (u : ℕ) (uh : ThreadState S) → set_at (c k).threads t (Some (after_answer code b at.from step a)) u ≡ Some uh
            → AreAsOpened c u uh.saved uh.marks (set_at (c k).levels t (levels_by k (change_of code b at.from (code.next at.from.local) step a) ((c k).levels t)) u)
        there_opened u uh there =
            each (λ z. AreAsOpened c u z.saved z.marks (set_at (c k).levels t (levels_by k (change_of code b at.from (code.next at.from.local) step a) ((c k).levels t)) u)) (c k).threads t (after_answer code b at.from step a) u
            (λ own. subst (λ n. AreAsOpened c n (after_answer code b at.from step a).saved (after_answer code b at.from step a).marks
            (set_at (c k).levels t (levels_by k (change_of code b at.from (code.next at.from.local) step a) ((c k).levels t)) n)) (sym own)
            (subst (AreAsOpened c t (after_answer code b at.from step a).saved (after_answer code b at.from step a).marks)
            (sym (set_at-hit (c k).levels t (levels_by k (change_of code b at.from (code.next at.from.local) step a) ((c k).levels t)))) y_opened))
            (λ vh other at_v. subst (AreAsOpened c u vh.saved vh.marks) (sym (set_at-other (c k).levels t (levels_by k (change_of code b at.from (code.next at.from.local) step a) ((c k).levels t)) u other)) (before u vh at_v)) uh there

        handed : (made : Step) (u : ℕ) (uh : ThreadState S) → threads_by code made at.from.local (set_at (c k).threads t (Some (after_answer code b at.from step a))) u ≡ Some uh
            → AreAsOpened c u uh.saved uh.marks (set_at (c k).levels t (levels_by k (change_of code b at.from (code.next at.from.local) step a) ((c k).levels t)) u)
        handed (Split n r p) u uh there =
            each (λ z. AreAsOpened c u z.saved z.marks (set_at (c k).levels t (levels_by k (change_of code b at.from (code.next at.from.local) step a) ((c k).levels t)) u))
            (set_at (c k).threads t (Some (after_answer code b at.from step a))) n (first_state n p (code.child at.from.local r)) u (λ same. tt) (λ vh other at_v. there_opened u vh at_v) uh there
        handed made u uh there = there_opened u uh there

    quiet_opened : (t : ℕ) → QuietAt code b c k t → OpenedAt k → OpenedAt (suc k)
    quiet_opened t at before =
        subst (λ (core : Core S). (u : ℕ) (uh : ThreadState S) → core.threads u ≡ Some uh → AreAsOpened c u uh.saved uh.marks (core.levels u)) (sym at.leads)
        (λ u. each (λ z. AreAsOpened c u z.saved z.marks ((c k).levels u)) (c k).threads t (after_quiet at.from at.local) u
        (λ own. subst (λ n. AreAsOpened c n at.from.saved at.from.marks ((c k).levels n)) (sym own) (before t at.from at.stands)) (λ vh other at_v. before u vh at_v))

    act_opened : (act : Act) → ActAt code b c k act → OpenedAt k → OpenedAt (suc k)
    act_opened (quiet t) at before = quiet_opened t at before
    act_opened (did t step a) at before = did_opened t step a at before
    act_opened (beside t step a) at before =
        subst (λ (core : Core S). (u : ℕ) (uh : ThreadState S) → core.threads u ≡ Some uh → AreAsOpened c u uh.saved uh.marks (core.levels u)) (sym at.leads) before

  first_opened : OpenedAt 0
  first_opened t th at = subst (λ (z : ThreadState S). AreAsOpened c t z.saved z.marks ((c 0).levels t)) (sym (run.ordered.run.begins.threads t th at).3) tt

  opened_at : (k : ℕ) → k ≤ length acts → OpenedAt k
  opened_at k within = along code b c acts run.ordered.run.leads OpenedAt first_opened (λ n act here at before. act_opened n (slice_get_within acts n act here) act at before) k within

pub saves_are_as_opened : {S : Type 0} (code : Code S) → SavesAreAsOpened code
saves_are_as_opened code b first classes c acts run k t th within at = opened_at code b first classes c acts run k within t th at
