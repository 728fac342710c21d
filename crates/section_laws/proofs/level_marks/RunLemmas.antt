-- The marks of threads along a run.
use Rattle.std.proofs.Common.{◌≡◌, ℕ, suc, ◌+◌, ◌-◌, ◌<◌, ◌≤◌, Bool, true, false, None, Some, List, length, sym, ◌∙◌, ap, subst, arith}
use Rattle.std.specs.Prelude.{nat_lt, nat_le, if◌then◌else◌}
use Rattle.std.proofs.lemmas.Grind.{common_steps}
use Rattle.std.proofs.lemmas.Bool.Decides.{nat_tests}
use Rattle.std.proofs.lemmas.Option.{slice_get_within}
use Rattle.op_core.specs.declared.Limit.TheVariants.{Turns}
use Rattle.op_core.specs.ThreadCode.{Code}
use Rattle.op_core.specs.OrdinaryState.{set_at}
use Rattle.section_state.specs.SectionWord.{revoke_of}
use Rattle.step_port.specs.declared.answer.StepAnswer.{StepAnswer}
use Rattle.step_port.specs.declared.step.Step.{Step}
use Rattle.step_port.specs.declared.step.Step.TheVariants.{Split}
use Rattle.step_port.specs.Steps.{effect_of}
use Rattle.step_port.specs.Words.{CanAnswer}
use Rattle.thread_automaton.specs.declared.Attempt.{Attempt}
use Rattle.thread_automaton.specs.declared.Attempt.TheVariants.{Undoing}
use Rattle.thread_automaton.specs.declared.Bounds.{Bounds}
use Rattle.thread_automaton.specs.declared.Move.{Move}
use Rattle.thread_automaton.specs.declared.Move.TheVariants.{Over, Quiet, Stop, Make}
use Rattle.thread_automaton.specs.ThreadState.{ThreadState, first_state}
use Rattle.thread_automaton.specs.NextMove.{move_of, next_move}
use Rattle.thread_automaton.specs.Changes.{changed}
use Rattle.thread_automaton.specs.Answers.{change_of}
use Rattle.thread_automaton.specs.Told.{Told, advanced, born, told, counted_for, after_answer, after_quiet}
use Rattle.automaton_rows.specs.Fits.{IsFit}
use Rattle.automaton_rows.proofs.RowLemmas.{answers_are_rows, words_can_answer}
use Rattle.core_runs.specs.Cores.{Core, threads_by}
use Rattle.core_runs.specs.Acts.{Act, quiet, did, beside, QuietAt, DidAt, ActAt}
use Rattle.section_laws.proofs.DeedLemmas.{makes_it}
use Rattle.section_laws.proofs.FactLemmas.{each}
use Rattle.section_laws.proofs.RunLemmas.{along, Known, facts_at}
use Rattle.section_laws.proofs.own_sections.ViewLemmas.{view}
use Rattle.section_laws.proofs.own_sections.OwnLemmas.{Own}
use Rattle.section_laws.proofs.own_sections.SeenLemmas.{undoing_seen, looked_pin}
use Rattle.section_laws.proofs.own_sections.MoveLemmas.{own_at}
use Rattle.section_laws.specs.HeldLevels.{IsOrderlyRun}
use Rattle.section_laws.proofs.held_levels.StandLemmas.{closed_low}
use Rattle.section_laws.specs.Marks.{MarksFall, counting_marks, MarksAreThere, MarksOfThreadsFall, UndoneLevelsHaveMarks}
use Rattle.section_laws.proofs.level_marks.RowLemmas.{Marked, keeps}

counted_marked : {S : Type 0} (told : Told) (y : ThreadState S) → Marked y → Marked (counted_for told y)
counted_marked (advanced None) y m = record { deep = m.deep; fall = m.fall }
counted_marked (advanced (Some reply)) y m = record { deep = m.deep; fall = m.fall }
counted_marked born y m = record { deep = m.deep; fall = m.fall }
counted_marked other y m = m

begins_marked : {S : Type 0} (number priority : ℕ) (l : S) → Marked (first_state number priority l)
begins_marked number priority l = record { deep = λ unpinned. absurd (no unpinned); fall = tt }
  where
    no : 0 < 0 → ⊥
    no unpinned = omega (arith, unpinned)

abbrev IsQuiet : Move → Type 0
IsQuiet Quiet = Unit {0}
IsQuiet move = ⊥

-- where a silent move is made all marks count
quiet_falls : {S : Type 0} (code : Code S) (b : Bounds) (th : ThreadState S) → next_move code b th ≡ Quiet → MarksFall (length th.log) (counting_marks th.attempt th.levels th.marks)
    → MarksFall (length th.log) th.marks
quiet_falls code b th move falls = by_tests th.over (nat_le b.limits.turns th.counted) move
  where
    by_attempt : (g : Attempt) → IsQuiet (move_of code th (code.next th.local) g) → MarksFall (length th.log) (counting_marks g th.levels th.marks) → MarksFall (length th.log) th.marks
    by_attempt (Undoing w) is falls = absurd is
    by_attempt g is falls = falls

    by_tests : (over full : Bool) → (if over then Over else if full then Stop Turns else move_of code th (code.next th.local) th.attempt) ≡ Quiet → MarksFall (length th.log) th.marks
    by_tests true full is = absurd (subst IsQuiet (sym is) tt)
    by_tests false true is = absurd (subst IsQuiet (sym is) tt)
    by_tests false false is = by_attempt th.attempt (subst IsQuiet (sym is) tt) falls

module _ {S : Type 0} (code : Code S) (b : Bounds) (first : S) (classes : ℕ) (c : ℕ → Core S) (acts : List Act) (run : IsOrderlyRun code b first classes c acts) where
  abbrev MarkedAt : ℕ → Type 0
  MarkedAt k = (t : ℕ) (th : ThreadState S) → (c k).threads t ≡ Some th → Marked th

  module _ (k : ℕ) (within : k < length acts) where
    here_at : k ≤ length acts
    here_at = omega (arith, within)

    known : Known code (c k)
    known = facts_at code b c acts run.run k here_at

    did_marked : (t : ℕ) (step : Step) (a : StepAnswer) → DidAt code b c k t step a → MarkedAt k → MarkedAt (suc k)
    did_marked t step a at before =
        subst (λ (core : Core S). (u : ℕ) (uh : ThreadState S) → core.threads u ≡ Some uh → Marked uh) (sym at.leads) (λ u uh there. handed step u uh there)
      where
        fits : IsFit code at.from
        fits = known.fit t at.from at.stands

        own : Own (view code at.from) (c k).words
        own = own_at code b c acts run.run run.in_bits k here_at t at.from at.stands

        can : CanAnswer (effect_of step) a
        can = subst (CanAnswer (effect_of step)) (sym at.answered) (words_can_answer (c k).words step)

        made : (made_step : Step) → next_move code b at.from ≡ Make made_step → move_of code at.from (code.next at.from.local) at.from.attempt ≡ Make made_step
        made made_step makes = makes_it at.from.over (nat_le b.limits.turns at.from.counted) _ made_step makes

        y_marked : Marked (after_answer code b at.from step a)
        y_marked = counted_marked (told code b at.from step a) (changed code at.from (change_of code b at.from (code.next at.from.local) step a))
            (keeps code b at.from (before t at.from at.stands) fits (answers_are_rows code b at.from step a fits.attempt at.move can) (made step at.move) can
            (looked_pin code at.from (c k).words own step a at.answered) (λ s w n is. closed_low code first classes run.orderly b c acts run k t at.from here_at at.stands s w n (at.move ∙ ap Make is))
            (undoing_seen code at.from (c k).words own fits))

        there_marked : (u : ℕ) (uh : ThreadState S) → set_at (c k).threads t (Some (after_answer code b at.from step a)) u ≡ Some uh → Marked uh
        there_marked u uh there = each Marked (c k).threads t (after_answer code b at.from step a) u (λ is. y_marked) (λ vh differs at_v. before u vh at_v) uh there

        handed : (made_step : Step) (u : ℕ) (uh : ThreadState S) → threads_by code made_step at.from.local (set_at (c k).threads t (Some (after_answer code b at.from step a))) u ≡ Some uh → Marked uh
        handed (Split n r p) u uh there = each Marked (set_at (c k).threads t (Some (after_answer code b at.from step a))) n (first_state n p (code.child at.from.local r)) u
            (λ same. begins_marked n p (code.child at.from.local r)) (λ vh differs at_v. there_marked u vh at_v) uh there
        handed made_step u uh there = there_marked u uh there

    -- a silent move is made where nothing is being undone
    quiet_marked : (t : ℕ) → QuietAt code b c k t → MarkedAt k → MarkedAt (suc k)
    quiet_marked t at before =
        subst (λ (core : Core S). (u : ℕ) (uh : ThreadState S) → core.threads u ≡ Some uh → Marked uh) (sym at.leads)
        (λ u. each Marked (c k).threads t (after_quiet at.from at.local) u (λ is. y_marked) (λ vh differs at_v. before u vh at_v))
      where
        stood : Marked at.from
        stood = before t at.from at.stands

        y_marked : Marked (after_quiet at.from at.local)
        y_marked = record { deep = stood.deep; fall = quiet_falls code b at.from at.move stood.fall }

    act_marked : (act : Act) → ActAt code b c k act → MarkedAt k → MarkedAt (suc k)
    act_marked (quiet t) at before = quiet_marked t at before
    act_marked (did t step a) at before = did_marked t step a at before
    act_marked (beside t step a) at before = subst (λ (core : Core S). (u : ℕ) (uh : ThreadState S) → core.threads u ≡ Some uh → Marked uh) (sym at.leads) before

  first_marked : MarkedAt 0
  first_marked t th at = let begins = run.run.begins.threads t th at in subst (λ z. Marked z) (sym begins.3) (begins_marked begins.0 begins.1 begins.2)

  marked_at : (k : ℕ) → k ≤ length acts → MarkedAt k
  marked_at k within =
      along code b c acts run.run.leads MarkedAt first_marked (λ n act here at before. act_marked n (slice_get_within acts n act here) act at before) k within

is_less : (m n : ℕ) → nat_lt m n ≡ true → m < n
is_less m n is = grind (arith, common_steps, nat_tests)

pub marks_are_there : {S : Type 0} (code : Code S) → MarksAreThere code
marks_are_there code b first classes c acts run k t th within at unpinned = (marked_at code b first classes c acts run k within t th at).deep (is_less th.pinned th.levels unpinned)

pub marks_fall : {S : Type 0} (code : Code S) → MarksOfThreadsFall code
marks_fall code b first classes c acts run k t th within at = (marked_at code b first classes c acts run k within t th at).fall

pub undone_levels_have_marks : {S : Type 0} (code : Code S) → UndoneLevelsHaveMarks code
undone_levels_have_marks code b first classes c acts run k t w th within at undoing =
    let found = undoing_seen code th (c k).words (own_at code b c acts run.run run.in_bits k within t th at) ((facts_at code b c acts run.run k within).fit t th at) w undoing in
    there th.pinned (revoke_of w) th.levels (length th.marks) found.0 found.1 (marked_at code b first classes c acts run k within t th at).deep
  where
    there : (p r l n : ℕ) → p < r → r ≤ l → (p < l → l ≤ p + n) → l - r < n
    there p r l n low high deep = let so = deep (omega (arith, low, high)) in omega (arith, low, high, so)
