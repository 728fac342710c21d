-- What threads hold and where their codes are, along a run.
use Rattle.std.proofs.Common.{◌≡◌, ℕ, suc, ◌<◌, ◌≤◌, None, Some, List, length, refl, sym, ◌∙◌, ap, subst, arith}
use Rattle.std.specs.Prelude.{nat_le}
use Rattle.std.proofs.lemmas.Option.{slice_get_within}
use Rattle.op_core.specs.declared.Op.TheVariants.{Start}
use Rattle.op_core.specs.declared.Next.{Next}
use Rattle.op_core.specs.declared.Next.TheVariants.{Silent, Want, Ended}
use Rattle.op_core.specs.ThreadCode.{Code, quiet_to, quiet_step}
use Rattle.op_core.specs.Orderly.{IsRewake, CanStand, at_first, by_silent, by_start, IsOrderly}
use Rattle.op_core.specs.OrdinaryState.{set_at}
use Rattle.op_core.proofs.QuietLemmas.{quiet_step-silent}
use Rattle.step_port.specs.declared.answer.StepAnswer.{StepAnswer}
use Rattle.step_port.specs.declared.answer.StepAnswer.TheVariants.{Lost}
use Rattle.step_port.specs.declared.step.Step.{Step}
use Rattle.step_port.specs.declared.step.Step.TheVariants.{Release, CloseLevel, Split}
use Rattle.step_port.specs.Steps.{effect_of}
use Rattle.step_port.specs.Words.{CanAnswer}
use Rattle.thread_automaton.specs.declared.Bounds.{Bounds}
use Rattle.thread_automaton.specs.declared.Move.TheVariants.{Make}
use Rattle.thread_automaton.specs.declared.Attempt.{Attempt}
use Rattle.thread_automaton.specs.declared.Attempt.TheVariants.{Fixed}
use Rattle.thread_automaton.specs.declared.Held.{Held}
use Rattle.thread_automaton.specs.ThreadState.{ThreadState, first_state}
use Rattle.thread_automaton.specs.NextMove.{move_of, next_move}
use Rattle.thread_automaton.specs.Changes.{without, Change, changed}
use Rattle.thread_automaton.specs.Answers.{change_of}
use Rattle.thread_automaton.specs.Told.{Told, advanced, born, told, counted_for, after_answer, after_quiet}
use Rattle.automaton_rows.specs.Fits.{IsFit}
use Rattle.automaton_rows.specs.Rows.{Row, is_lost, handed_out}
use Rattle.automaton_rows.proofs.RowLemmas.{answers_are_rows, words_can_answer}
use Rattle.automaton_rows.proofs.PinLemmas.{steps_caused}
use Rattle.automaton_rows.proofs.ReplyLemmas.{replies_fit}
use Rattle.core_runs.specs.Cores.{Core, threads_by}
use Rattle.core_runs.specs.Acts.{Act, quiet, did, beside, QuietAt, DidAt, ActAt}
use Rattle.section_laws.proofs.DeedLemmas.{makes_it}
use Rattle.section_laws.proofs.ClaimLemmas.{none_some}
use Rattle.section_laws.proofs.FactLemmas.{each}
use Rattle.section_laws.proofs.RunLemmas.{along, Known, facts_at}
use Rattle.section_laws.proofs.own_sections.ViewLemmas.{view}
use Rattle.section_laws.proofs.own_sections.OwnLemmas.{Own}
use Rattle.section_laws.proofs.own_sections.SeenLemmas.{undoing_seen, looked_pin}
use Rattle.section_laws.proofs.own_sections.MoveLemmas.{own_at}
use Rattle.section_laws.specs.HeldLevels.{AreAtMost, kept_by, IsOrderlyRun, ThreadsStandInOrder, HeldLevelsAreOpen, RewakesAreInLevels}
use Rattle.section_laws.proofs.held_levels.HeldLemmas.{highest_low, kept_exit}
use Rattle.section_laws.proofs.held_levels.RowLemmas.{Stands, keeps}

-- a thread is handed out as the start of one is wanted
abbrev pub Wants : Step → Next → Type 0
Wants (Split n r p) next = next ≡ Want (Start r p)
Wants step next = Unit {0}

wants_lost : (step : Step) (v : ℕ) (next : Next) → CanAnswer (effect_of step) (Lost v) → Wants step next
wants_lost (Split n r p) v next can = absurd can
wants_lost step v next can = tt

pub split_wants : {S : Type 0} (code : Code S) (b : Bounds) (th : ThreadState S) {next : Next} {step : Step} {a : StepAnswer} {change : Change}
    → Row code b th next step a change → CanAnswer (effect_of step) a → Wants step next
split_wants code b th {next} (is_lost {step = step} {v = v}) can = wants_lost step v next can
split_wants code b th (handed_out shut some below) can = refl
split_wants code b th row can = tt

-- a silent step is made where it comes next
pub quiet_next : {S : Type 0} (code : Code S) (l m : S) → quiet_step code l ≡ Some m → code.next l ≡ Silent
quiet_next {S} code l m is = by_next (code.next l) is
  where
    by_next : (next : Next) → quiet_to code (code.silent l) next ≡ Some m → next ≡ Silent
    by_next Silent is = refl
    by_next (Want op) is = none_some m is
    by_next Ended is = none_some m is

module _ {S : Type 0} (code : Code S) (first : S) (classes : ℕ) (orderly : IsOrderly code first classes) where
  abbrev StandsSo : ThreadState S → Type 0
  StandsSo th = Stands code first classes orderly th

  counted_stands : (told : Told) (y : ThreadState S) → StandsSo y → StandsSo (counted_for told y)
  counted_stands (advanced None) y s = record { can = s.can; saved = s.saved; held = s.held; rewakes = λ is. let r = s.rewakes is in record { section = r.section; level = r.level; pinned = r.pinned }; waiting = s.waiting }
  counted_stands (advanced (Some reply)) y s = record { can = s.can; saved = s.saved; held = s.held; rewakes = λ is. let r = s.rewakes is in record { section = r.section; level = r.level; pinned = r.pinned }; waiting = s.waiting }
  counted_stands born y s = record { can = s.can; saved = s.saved; held = s.held; rewakes = λ is. let r = s.rewakes is in record { section = r.section; level = r.level; pinned = r.pinned }; waiting = s.waiting }
  counted_stands other y s = s

  -- a thread that begins
  begins_so : (number priority : ℕ) (l : S) → CanStand code first l → (IsRewake (code.next l) → ⊥) → StandsSo (first_state number priority l)
  begins_so number priority l can usual = record { can = can; saved = tt; held = tt; rewakes = λ is. absurd (usual is); waiting = λ step. absurd step }

  module _ (b : Bounds) (c : ℕ → Core S) (acts : List Act) (run : IsOrderlyRun code b first classes c acts) where
    abbrev StandAt : ℕ → Type 0
    StandAt k = (t : ℕ) (th : ThreadState S) → (c k).threads t ≡ Some th → StandsSo th

    module _ (k : ℕ) (within : k < length acts) where
      here_at : k ≤ length acts
      here_at = omega (arith, within)

      known : Known code (c k)
      known = facts_at code b c acts run.run k here_at

      did_stands : (t : ℕ) (step : Step) (a : StepAnswer) → DidAt code b c k t step a → StandAt k → StandAt (suc k)
      did_stands t step a at before =
          subst (λ (core : Core S). (u : ℕ) (uh : ThreadState S) → core.threads u ≡ Some uh → StandsSo uh) (sym at.leads) (λ u uh there. handed step refl u uh there)
        where
          fits : IsFit code at.from
          fits = known.fit t at.from at.stands

          own : Own (view code at.from) (c k).words
          own = own_at code b c acts run.run run.in_bits k here_at t at.from at.stands

          stood : StandsSo at.from
          stood = before t at.from at.stands

          can : CanAnswer (effect_of step) a
          can = subst (CanAnswer (effect_of step)) (sym at.answered) (words_can_answer (c k).words step)

          row : Row code b at.from (code.next at.from.local) step a (change_of code b at.from (code.next at.from.local) step a)
          row = answers_are_rows code b at.from step a fits.attempt at.move can

          y_stands : StandsSo (after_answer code b at.from step a)
          y_stands = counted_stands (told code b at.from step a) (changed code at.from (change_of code b at.from (code.next at.from.local) step a))
              (keeps code first classes orderly b at.from stood fits.kept row refl (made step at.move) can (replies_fit code b at.from step a fits.attempt at.move can)
              (looked_pin code at.from (c k).words own step a at.answered) (undoing_seen code at.from (c k).words own fits))
            where
              made : (step : Step) → next_move code b at.from ≡ Make step → move_of code at.from (code.next at.from.local) at.from.attempt ≡ Make step
              made step makes = makes_it at.from.over (nat_le b.limits.turns at.from.counted) _ step makes

          there_stands : (u : ℕ) (uh : ThreadState S) → set_at (c k).threads t (Some (after_answer code b at.from step a)) u ≡ Some uh → StandsSo uh
          there_stands u uh there = each StandsSo (c k).threads t (after_answer code b at.from step a) u (λ is. y_stands) (λ vh differs at_v. before u vh at_v) uh there

          handed : (made : Step) → step ≡ made → (u : ℕ) (uh : ThreadState S)
              → threads_by code made at.from.local (set_at (c k).threads t (Some (after_answer code b at.from step a))) u ≡ Some uh → StandsSo uh
          handed (Split n r p) is u uh there =
              let wants : code.next at.from.local ≡ Want (Start r p) = subst (λ st. Wants st (code.next at.from.local)) is (split_wants code b at.from row can) in
              each StandsSo (set_at (c k).threads t (Some (after_answer code b at.from step a))) n (first_state n p (code.child at.from.local r)) u
              (λ same. begins_so n p (code.child at.from.local r) (by_start at.from.local r p stood.can wants) (orderly.child_goes at.from.local r p stood.can wants))
              (λ vh differs at_v. there_stands u vh at_v) uh there
          handed made is u uh there = there_stands u uh there

      quiet_stands : (t : ℕ) → QuietAt code b c k t → StandAt k → StandAt (suc k)
      quiet_stands t at before =
          subst (λ (core : Core S). (u : ℕ) (uh : ThreadState S) → core.threads u ≡ Some uh → StandsSo uh) (sym at.leads)
          (λ u. each StandsSo (c k).threads t (after_quiet at.from at.local) u (λ is. y_stands) (λ vh differs at_v. before u vh at_v))
        where
          stood : StandsSo at.from
          stood = before t at.from at.stands

          silent : code.next at.from.local ≡ Silent
          silent = quiet_next code at.from.local at.local at.step

          behind : code.silent at.from.local ≡ at.local
          behind = quiet_step-silent code at.from.local at.local at.step

          kept_silent : (g : Attempt) (held : List Held) → kept_by g Silent held ≡ held
          kept_silent (Fixed (Release q)) held = refl
          kept_silent g held = refl

          y_stands : StandsSo (after_quiet at.from at.local)
          y_stands = record {
            can = subst (CanStand code first) behind (by_silent at.from.local stood.can silent);
            saved = stood.saved;
            held = subst (AreAtMost at.from.levels) (kept_silent at.from.attempt at.from.held) (subst (λ n. AreAtMost at.from.levels (kept_by at.from.attempt n at.from.held)) silent stood.held);
            rewakes = λ is. absurd (orderly.silent_goes at.from.local stood.can silent (subst (λ l. IsRewake (code.next l)) (sym behind) is));
            waiting = λ step. absurd step;
          }

      act_stands : (act : Act) → ActAt code b c k act → StandAt k → StandAt (suc k)
      act_stands (quiet t) at before = quiet_stands t at before
      act_stands (did t step a) at before = did_stands t step a at before
      act_stands (beside t step a) at before = subst (λ (core : Core S). (u : ℕ) (uh : ThreadState S) → core.threads u ≡ Some uh → StandsSo uh) (sym at.leads) before

    first_stands : StandAt 0
    first_stands t th at =
        let begins = run.run.begins.threads t th at in
        let local : begins.2 ≡ first = ap (λ (z : ThreadState S). z.local) (sym begins.3) ∙ run.begins t th at in
        subst StandsSo (sym begins.3) (begins_so begins.0 begins.1 begins.2 (subst (CanStand code first) (sym local) at_first)
        (λ is. orderly.first_goes (subst (λ l. IsRewake (code.next l)) local is)))

    pub stands_at : (k : ℕ) → k ≤ length acts → StandAt k
    stands_at k within =
        along code b c acts run.run.leads StandAt first_stands (λ n act here at before. act_stands n (slice_get_within acts n act here) act at before) k within

    -- inner levels are closed to one that is open
    pub closed_low : (k t : ℕ) (th : ThreadState S) → k ≤ length acts → (c k).threads t ≡ Some th → (s w n : ℕ) → next_move code b th ≡ Make (CloseLevel s w n) → n ≤ th.levels
    closed_low k t th within at s w n makes =
        let fits = (facts_at code b c acts run.run k within).fit t th at in
        let cause = steps_caused code b th (CloseLevel s w n) fits.attempt makes in
        let held = subst (λ next. AreAtMost th.levels (kept_by th.attempt next th.held)) cause.exit (stands_at k within t th at).held in
        subst (λ m. m ≤ th.levels) (sym cause.own.4) (highest_low th.levels (without cause.monitor th.held) (kept_exit th.levels cause.monitor th.attempt th.held held))

pub threads_stand_in_order : {S : Type 0} (code : Code S) → ThreadsStandInOrder code
threads_stand_in_order code b first classes c acts run k t th within at = (stands_at code first classes run.orderly b c acts run k within t th at).can

pub held_levels_are_open : {S : Type 0} (code : Code S) → HeldLevelsAreOpen code
held_levels_are_open code b first classes c acts run k t th within at = (stands_at code first classes run.orderly b c acts run k within t th at).held

pub rewakes_are_in_levels : {S : Type 0} (code : Code S) → RewakesAreInLevels code
rewakes_are_in_levels code b first classes c acts run k t r th within at is =
    (stands_at code first classes run.orderly b c acts run k within t th at).rewakes (subst IsRewake (sym is) tt)
