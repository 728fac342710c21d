-- What is cut is gone back over, or was made with a level open that is to be undone at the end.
use Rattle.std.proofs.Common.{◌≡◌, ◌⊎◌, inl, inr, ℕ, zero, suc, ◌-◌, ◌<◌, ◌≤◌, Bool, true, Some, List, [], ◌∷◌, length, refl, sym, ◌∙◌, ap, subst, arith}
use Rattle.std.specs.Prelude.{slice_get, nat_lt}
use Rattle.std.proofs.lemmas.Option.{same_Some, slice_get_within}
use Rattle.op_core.specs.declared.Op.{Op}
use Rattle.op_core.specs.declared.Reply.{Reply}
use Rattle.op_core.specs.ThreadCode.{Code}
use Rattle.op_core.specs.InPlaceList.{Entry, event, go_back}
use Rattle.op_core.specs.CleanCut.{IsStepOf}
use Rattle.section_state.specs.SectionWord.{revoke_of, undone_of}
use Rattle.step_port.specs.declared.answer.StepAnswer.{StepAnswer}
use Rattle.step_port.specs.declared.step.Step.TheVariants.{MarkUndone}
use Rattle.thread_automaton.specs.declared.Bounds.{Bounds}
use Rattle.thread_automaton.specs.ThreadState.{ThreadState}
use Rattle.core_runs.specs.Cores.{Core}
use Rattle.core_runs.specs.Acts.{Act, did, mover}
use Rattle.core_runs.specs.Entries.{back_to, go_back_to, Shows}
use Rattle.section_laws.specs.LevelRun.{In, IsDoomedAt, GoesBackAt}
use Rattle.section_laws.proofs.level_runs.LevelLemmas.{Falls, below, falls, open_since, doomed_are_undone}
use Rattle.section_laws.specs.Settled.{to_undo}
use Rattle.section_laws.specs.Levels.{core_at, levels_in, revoked_in, UndoesAt, RunsInLevels}
use Rattle.section_laws.proofs.section_levels.LevelLemmas.{at_place, level_in, runs_in_levels, doomed_at}
use Rattle.first_law.proofs.settled_monitors.DoomedLemmas.{Outermost, outermost_of, some_in}
use Rattle.first_law.specs.Cuts.{is_cut_by}
use Rattle.first_law.proofs.doomed_cuts.CutLemmas.{some_is, is_some}
use Rattle.core_law.specs.CleanCuts.{IsShownRun}
use Rattle.core_law.proofs.third_law.EntryLemmas.{entry_at}
use Rattle.core_law.proofs.run_journals.FlagLemmas.{Gone}
use Rattle.core_law.proofs.run_journals.LevelSteps.{StepAt}
use Rattle.core_law.proofs.run_journals.RowSteps.{step_of}

module _ {S : Type 0} (code : Code S) (b : Bounds) (first : S) (classes : ℕ) (c : ℕ → Core S) (acts : List Act) (es : List Entry) (doomed : ℕ → Bool)
    (shown : IsShownRun code b first classes c acts es doomed) where
  abbrev runs : (t : ℕ) → RunsInLevels c acts t
  runs t = runs_in_levels code b first classes c acts shown.levelled t

  place_is : (k : ℕ) → k ≤ length acts → core_at c acts k ≡ c k
  place_is k low = at_place code b first classes c acts shown.levelled k low

  upto : (k n : ℕ) → k < n → k ≤ n
  upto k n is = omega (arith, is)

  -- where a thread undoes its section, its entry says so
  back_shown : (k t n q : ℕ) → GoesBackAt (levels_in c acts t) (runs t).act k n q → (k < length acts) × (slice_get es k ≡ Some (go_back t q))
  back_shown k t n q goes_back = (within, entry.1 ∙ ap Some (entry.2.2 ∙ ap (λ g. back_to t g ((c k).levels t)) (ap (λ (x : ThreadState S). x.attempt) same ∙ marks.undoing) ∙ ap (go_back_to t) opened))
    where
      marks : UndoesAt c acts k t n
      marks = (runs t).undoes k n goes_back.undoes

      entry : (e : Entry) × (slice_get es k ≡ Some e) × Shows code b (c k) (did t (MarkUndone marks.th.section (undone_of marks.word)) StepAnswer.Done) e
      entry = entry_at code b c acts es k (did t (MarkUndone marks.th.section (undone_of marks.word)) StepAnswer.Done) shown.shows marks.notes

      same : entry.2.0 ≡ marks.th
      same = same_Some entry.2.0 marks.th (sym entry.2.1 ∙ marks.stands)

      within : k < length acts
      within = slice_get_within acts k _ marks.notes

      opened : slice_get ((c k).levels t) (length ((c k).levels t) - revoke_of marks.word) ≡ Some q
      opened = ap (λ m. slice_get ((c k).levels t) (length ((c k).levels t) - m)) (sym marks.level)
          ∙ ap (λ (core : Core S). slice_get (core.levels t) (length (core.levels t) - n)) (sym (place_is k (upto k (length acts) within))) ∙ goes_back.opened

  -- ---- an event of thread t

  module _ (a t : ℕ) (op : Op) (reply : Reply) (at : slice_get es a ≡ Some (event t op reply)) (within : a < length acts) where
    cut_is : is_cut_by doomed c acts a ≡ nat_lt 0 (to_undo doomed ((c a).levels t))
    cut_is = by_step (step_of code b first classes c acts es doomed shown a within)
      where
        by_step : (e : Entry) × (slice_get es a ≡ Some e) × StepAt code b first classes c acts es doomed shown a e → is_cut_by doomed c acts a ≡ nat_lt 0 (to_undo doomed ((c a).levels t))
        by_step (e, there, step) = ap (λ o. nat_lt 0 (to_undo doomed ((c a).levels (mover o)))) step.here
            ∙ ap (λ n. nat_lt 0 (to_undo doomed ((c a).levels n))) (step.own t (subst (λ x. IsStepOf t (Some x)) (same_Some (event t op reply) e (sym at ∙ there)) refl))

    -- made with a level open that is doomed, it is cut
    pub open_cut : (p : ℕ) → doomed p ≡ true → p < a → In p ((c (length acts)).levels t) → is_cut_by doomed c acts a ≡ true
    open_cut p so later there = cut_is ∙ is_some (to_undo doomed ((c a).levels t)) (some_in doomed p ((c a).levels t)
        (subst (λ (core : Core S). In p (core.levels t)) (place_is a (upto a (length acts) within))
        (open_since (levels_in c acts t) (revoked_in c acts t) (runs t).act (runs t).is_run p (length acts) a later (upto a (length acts) within)
        (subst (λ (core : Core S). In p (core.levels t)) (sym (place_is (length acts) (omega arith))) there))) so)

    -- what is cut is gone back over, or a level that was open is doomed and open still at the end
    pub covered : is_cut_by doomed c acts a ≡ true → Gone es (length acts) t a ⊎ ((p : ℕ) × (p < a) × (doomed p ≡ true) × In p ((c (length acts)).levels t))
    covered cut = elim (doomed_are_undone (levels_in c acts t) (revoked_in c acts t) (runs t).act (runs t).is_run out.place a (length acts) is_doomed open_there low) [
      | inl there ↦ inr (out.place, before, out.so, subst (λ (core : Core S). In out.place (core.levels t)) (place_is (length acts) (omega arith)) there)
      | inr gone ↦ inl (over gone.0 gone.1 gone.2 gone.3 gone.4 gone.5 gone.6)
    ]
      where
        low : a ≤ length acts
        low = upto a (length acts) within

        out : Outermost doomed ((c a).levels t)
        out = outermost_of doomed ((c a).levels t) (some_is (to_undo doomed ((c a).levels t)) (sym cut_is ∙ cut))

        open_now : In out.place ((c a).levels t)
        open_now = level_in out.place out.level ((c a).levels t) out.is

        is_doomed : IsDoomedAt (levels_in c acts t) (runs t).act out.place
        is_doomed = doomed_at code b first classes c acts shown.levelled t out.place a low open_now ((shown.tells out.place).0 out.so)

        open_there : In out.place (levels_in c acts t a)
        open_there = subst (λ (core : Core S). In out.place (core.levels t)) (sym (place_is a low)) open_now

        before : out.place < a
        before = below a out.place (levels_in c acts t a) (falls (levels_in c acts t) (revoked_in c acts t) (runs t).act (runs t).is_run a) open_there

        over : (k n q : ℕ) → a ≤ k → k < length acts → GoesBackAt (levels_in c acts t) (runs t).act k n q → q ≤ out.place → Gone es (length acts) t a
        over k n q later inside goes_back deep =
            let there = back_shown k t n q goes_back in record {
              at = k;
              place = q;
              later = after later (λ same. no_event (same_Some (event t op reply) (go_back t q) (sym at ∙ ap (slice_get es) same ∙ there.1)));
              before = inside;
              reach = under deep before;
              goes = there.1;
            }
          where
            IsEventThere : Entry → Type 0
            IsEventThere (event u o r) = Unit {0}
            IsEventThere e = ⊥

            no_event : event t op reply ≡ go_back t q → ⊥
            no_event is = cc

            after : a ≤ k → (a ≡ k → ⊥) → a < k
            after low other = omega (arith, low, other)

            under : q ≤ out.place → out.place < a → q ≤ a
            under deep low = omega (arith, deep, low)

  -- ---- the outermost level that is to be undone at the end

  pub nth_falls : (k i j p q : ℕ) (levels : List ℕ) → Falls k levels → slice_get levels i ≡ Some p → slice_get levels j ≡ Some q → i ≤ j → q ≤ p
  nth_falls k i j p q [] falls at there low = absurd (none_there i at)
    where
      none_there : (i : ℕ) → slice_get {X = ℕ} [] i ≡ Some p → ⊥
      none_there zero at = cc
      none_there (suc i) at = cc
  nth_falls k zero zero p q (x ∷ levels) falls at there low = let same : p ≡ q = same_Some p q (sym at ∙ there) in omega (arith, same)
  nth_falls k (suc i) zero p q (x ∷ levels) falls at there low = absurd (omega (arith, low))
  nth_falls k zero (suc j) p q (x ∷ levels) falls at there low = let same : x ≡ p = same_Some x p at in let under : q < x = below x q levels falls.1 (nth_in j levels there) in omega (arith, same, under)
    where
      nth_in : (j : ℕ) (levels : List ℕ) → slice_get levels j ≡ Some q → In q levels
      nth_in j [] there = absurd (none_there j there)
        where
          none_there : (i : ℕ) → slice_get {X = ℕ} [] i ≡ Some q → ⊥
          none_there zero at = cc
          none_there (suc i) at = cc
      nth_in zero (y ∷ levels) there = inl (sym (same_Some y q there))
      nth_in (suc j) (y ∷ levels) there = inr (nth_in j levels there)
  nth_falls k (suc i) (suc j) p q (x ∷ levels) falls at there low = nth_falls x i j p q levels falls.1 at there (omega (arith, low))
