-- What each act of a run makes of the levels that its thread has open, with the entry that it shows.
use Rattle.std.proofs.Common.{◌≡◌, ◌≢◌, ℕ, suc, ◌-◌, ◌<◌, ◌≤◌, Bool, Some, List, ◌∷◌, length, refl, sym, ◌∙◌, ap, subst, arith}
use Rattle.std.specs.Prelude.{slice_get}
use Rattle.std.proofs.lemmas.Option.{same_Some, slice_get_within}
use Rattle.op_core.specs.ThreadCode.{Code}
use Rattle.op_core.specs.InPlaceList.{Entry, silent, go_back, unseen}
use Rattle.op_core.specs.CleanCut.{IsStepOf}
use Rattle.section_state.specs.SectionWord.{revoke_of}
use Rattle.step_port.specs.declared.answer.StepAnswer.{StepAnswer}
use Rattle.step_port.specs.declared.step.Step.{Step}
use Rattle.step_port.specs.declared.step.Step.TheVariants.{MarkUndone}
use Rattle.step_port.specs.Words.{answer_of}
use Rattle.thread_automaton.specs.declared.Attempt.{Attempt}
use Rattle.thread_automaton.specs.declared.Attempt.TheVariants.{Undoing}
use Rattle.thread_automaton.specs.declared.Bounds.{Bounds}
use Rattle.thread_automaton.specs.ThreadState.{ThreadState}
use Rattle.core_runs.specs.Cores.{Core, outermost}
use Rattle.core_runs.specs.Acts.{Act, quiet, did, beside, QuietAt, DidAt, BesideAt, mover}
use Rattle.core_runs.specs.Entries.{StepShows, Shows}
use Rattle.section_laws.specs.LevelRun.{is_undone, LevelAt}
use Rattle.section_laws.proofs.level_runs.LevelLemmas.{RevokedBefore, revoked_before}
use Rattle.section_laws.proofs.RunLemmas.{act_at}
use Rattle.section_laws.specs.Levels.{core_at, levels_in, revoked_in, UndoesAt, RunsInLevels}
use Rattle.section_laws.proofs.section_levels.RowLemmas.{LevelsGo, goes_out, goes_in, outermost_all}
use Rattle.section_laws.proofs.section_levels.RunLemmas.{Counted, counted_at, goes, own_levels, other_levels}
use Rattle.section_laws.proofs.section_levels.LevelLemmas.{at_place, runs_in_levels}
use Rattle.core_law.specs.CleanCuts.{IsShownRun}
use Rattle.core_law.proofs.third_law.EntryLemmas.{IsGoBack, GoesBackBy, goes_back_by, step_is_own, opening_is_unseen, shown_at}

abbrev pub back_thread : Entry → ℕ
back_thread (go_back t p) = t
back_thread e = 0

abbrev pub back_place : Entry → ℕ
back_place (go_back t p) = p
back_place e = 0

-- what act number k, of thread t, which shows this entry, makes of the levels
pub data LevelStep (k t : ℕ) (e : Entry) (before after : List ℕ) : Type 0 where
  levels_shut : (IsGoBack e → ⊥) → (m : ℕ) → m ≤ length before → after ≡ outermost m before → LevelStep k t e before after
  level_opens : e ≡ unseen → after ≡ k ∷ before → LevelStep k t e before after
  levels_undone : (m p : ℕ) → e ≡ go_back t p → m < length before → after ≡ outermost m before → slice_get before (length before - suc m) ≡ Some p → LevelStep k t e before after

abbrev seen_word : Attempt → ℕ
seen_word (Undoing w) = w
seen_word attempt = 0

module _ {S : Type 0} (code : Code S) (b : Bounds) (first : S) (classes : ℕ) (c : ℕ → Core S) (acts : List Act) (es : List Entry) (doomed : ℕ → Bool)
    (shown : IsShownRun code b first classes c acts es doomed) where
  pub record StepAt (k : ℕ) (e : Entry) : Type 0 where
    pub act : Act
    pub here : slice_get acts k ≡ Some act
    pub shows : Shows code b (c k) act e
    pub level : LevelStep k (mover (Some act)) e ((c k).levels (mover (Some act))) ((c (suc k)).levels (mover (Some act)))
    pub others : (u : ℕ) → u ≢ mover (Some act) → (c (suc k)).levels u ≡ (c k).levels u
    pub own : (u : ℕ) → IsStepOf u (Some e) → mover (Some act) ≡ u

  upto : (k n : ℕ) → k < n → k ≤ n
  upto k n is = omega (arith, is)

  stays : (k t : ℕ) (e : Entry) (after : List ℕ) → (IsGoBack e → ⊥) → after ≡ (c k).levels t → LevelStep k t e ((c k).levels t) after
  stays k t e after other same = levels_shut other (length ((c k).levels t)) (omega arith) (same ∙ sym (outermost_all (length ((c k).levels t)) ((c k).levels t) refl))

  -- ---- a thread marks levels as undone

  module _ (k t p : ℕ) (step : Step) (a : StepAnswer) (th : ThreadState S) (here : slice_get acts k ≡ Some (did t step a)) (stands : (c k).threads t ≡ Some th)
      (mark : GoesBackBy t t p th.attempt ((c k).levels t) step) (within : k < length acts) where
    runs : RunsInLevels c acts t
    runs = runs_in_levels code b first classes c acts shown.levelled t

    place_is : (j : ℕ) → j ≤ length acts → core_at c acts j ≡ c j
    place_is j low = at_place code b first classes c acts shown.levelled j low

    levels_are : (j : ℕ) → j ≤ length acts → levels_in c acts t j ≡ (c j).levels t
    levels_are j low = ap (λ (core : Core S). core.levels t) (place_is j low)

    act_is : DidAt code b c k t step a
    act_is = act_at code b c acts k (did t step a) shown.levelled.ordered.run.leads here

    notes : (n : ℕ) × (runs.act k ≡ is_undone n)
    notes = runs.notes k mark.section mark.mark (here ∙ ap (λ st. Some (did t st a)) mark.is ∙ ap (λ an. Some (did t (MarkUndone mark.section mark.mark) an)) (act_is.answered ∙ ap (answer_of (c k).words) mark.is))

    marks : UndoesAt c acts k t notes.0
    marks = runs.undoes k notes.0 notes.1

    level_is : LevelAt (levels_in c acts t) (revoked_in c acts t) k (is_undone notes.0)
    level_is = subst (LevelAt (levels_in c acts t) (revoked_in c acts t) k) notes.1 (runs.is_run.2 k)

    same_word : marks.word ≡ mark.word
    same_word = ap seen_word (sym marks.undoing ∙ ap (λ (x : ThreadState S). x.attempt) (same_Some marks.th th (sym marks.stands ∙ stands)) ∙ mark.undoing)

    was : RevokedBefore (levels_in c acts t) (revoked_in c acts t) runs.act runs.is_run k notes.0
    was = revoked_before (levels_in c acts t) (revoked_in c acts t) runs.act runs.is_run k notes.0 level_is.1

    some : 0 < notes.0
    some = was.level.0

    deep : notes.0 ≤ length ((c k).levels t)
    deep = subst (λ xs. notes.0 ≤ length xs) (sym was.stays ∙ levels_are k (upto k (length acts) within)) was.level.1

    next : suc k ≤ length acts
    next = within

    after_is : (c (suc k)).levels t ≡ outermost (notes.0 - 1) ((c k).levels t)
    after_is = sym (levels_are (suc k) next) ∙ level_is.0 ∙ ap (outermost (notes.0 - 1)) (levels_are k (upto k (length acts) within))

    pub undone_levels : LevelStep k t (go_back t p) ((c k).levels t) ((c (suc k)).levels t)
    undone_levels = levels_undone (notes.0 - 1) p refl (less (notes.0) (length ((c k).levels t)) some deep) after_is
        (ap (λ n. slice_get ((c k).levels t) (length ((c k).levels t) - n)) (one_more notes.0 some ∙ marks.level ∙ ap revoke_of same_word) ∙ mark.opened)
      where
        less : (n l : ℕ) → 0 < n → n ≤ l → n - 1 < l
        less n l some low = omega (arith, some, low)

        one_more : (n : ℕ) → 0 < n → suc (n - 1) ≡ n
        one_more n some = omega (arith, some)

  -- ---- each act

  module _ (k : ℕ) (e : Entry) (within : k < length acts) where
    low : k ≤ length acts
    low = upto k (length acts) within

    quiet_step : (t : ℕ) → slice_get acts k ≡ Some (quiet t) → e ≡ silent t → QuietAt code b c k t → StepAt k e
    quiet_step t here shows at = record {
      act = quiet t;
      here = here;
      shows = shows;
      level = stays k t e ((c (suc k)).levels t) (λ is. subst IsGoBack shows is) (ap (λ (core : Core S). core.levels t) at.leads);
      others = λ u other. ap (λ (core : Core S). core.levels u) at.leads;
      own = λ u is. subst (λ x. IsStepOf u (Some x)) shows is;
    }

    beside_step : (t : ℕ) (step : Step) (a : StepAnswer) → slice_get acts k ≡ Some (beside t step a) → e ≡ unseen → BesideAt c k t step a → StepAt k e
    beside_step t step a here shows at = record {
      act = beside t step a;
      here = here;
      shows = shows;
      level = stays k 0 e ((c (suc k)).levels 0) (λ is. subst IsGoBack shows is) (ap (λ (core : Core S). core.levels 0) at.leads);
      others = λ u other. ap (λ (core : Core S). core.levels u) at.leads;
      own = λ u is. absurd (subst (λ x. IsStepOf u (Some x)) shows is);
    }

    did_step : (t : ℕ) (step : Step) (a : StepAnswer) → slice_get acts k ≡ Some (did t step a) → Shows code b (c k) (did t step a) e → DidAt code b c k t step a → StepAt k e
    did_step t step a here shows at = record {
      act = did t step a;
      here = here;
      shows = shows;
      level = by_entry e refl;
      others = λ u other. ap (λ (core : Core S). core.levels u) at.leads ∙ other_levels code b first classes c acts shown.levelled k within t step a here at counted u other;
      own = λ u is. step_is_own code b (c k) t u shows.0 e step a shows.2 is;
    }
      where
        counted : Counted code b first classes c acts shown.levelled (c k)
        counted = counted_at code b first classes c acts shown.levelled k low

        by_levels : (IsGoBack e → ⊥) → {n m : ℕ} {after : List ℕ} → n ≡ length ((c k).levels t) → (c (suc k)).levels t ≡ after → LevelsGo step k n m ((c k).levels t) after → LevelStep k t e ((c k).levels t) ((c (suc k)).levels t)
        by_levels other {n} {m} is same (goes_out few kept) = levels_shut other m (subst (λ l. m ≤ l) is few) (same ∙ kept)
        by_levels other is same (goes_in opening more kept) = level_opens (opening_is_unseen code b (c k) t t shows.0 e step a opening shows.2) (same ∙ kept)

        plain : (IsGoBack e → ⊥) → LevelStep k t e ((c k).levels t) ((c (suc k)).levels t)
        plain other = by_levels other (sym (counted.there t at.from at.stands))
            (ap (λ (core : Core S). core.levels t) at.leads ∙ own_levels code b first classes c acts shown.levelled k within t step a here at counted) (goes code b first classes c acts shown.levelled k within t step a here at counted)

        back : (u p : ℕ) → e ≡ go_back u p → LevelStep k t e ((c k).levels t) ((c (suc k)).levels t)
        back u p is =
            let same : t ≡ u = (goes_back_by code b (c k) t u shows.0 p step a (subst (λ x. StepShows code b (c k) t shows.0 step a x) is shows.2)).own in
            let at_own : e ≡ go_back t p = is ∙ ap (λ n. go_back n p) (sym same) in
            subst (λ x. LevelStep k t x ((c k).levels t) ((c (suc k)).levels t)) (sym at_own)
            (undone_levels k t p step a shows.0 here shows.1 (goes_back_by code b (c k) t t shows.0 p step a (subst (λ x. StepShows code b (c k) t shows.0 step a x) at_own shows.2)) within)

        by_entry : (x : Entry) → e ≡ x → LevelStep k t e ((c k).levels t) ((c (suc k)).levels t)
        by_entry (go_back u p) is = back u p is
        by_entry (silent u) is = plain (λ go. subst IsGoBack is go)
        by_entry (Entry.event u op reply) is = plain (λ go. subst IsGoBack is go)
        by_entry (Entry.put_back r i v) is = plain (λ go. subst IsGoBack is go)
        by_entry (Entry.give_back u r n) is = plain (λ go. subst IsGoBack is go)
        by_entry unseen is = plain (λ go. subst IsGoBack is go)

  pub step_at : (k : ℕ) (e : Entry) → slice_get es k ≡ Some e → StepAt k e
  step_at k e entry = let found = shown_at code b c acts es k e shown.shows entry in by_act found.0 found.1 found.2
    where
      by_act : (x : Act) → slice_get acts k ≡ Some x → Shows code b (c k) x e → StepAt k e
      by_act (quiet t) here shows = quiet_step k e (slice_get_within acts k (quiet t) here) t here shows (act_at code b c acts k (quiet t) shown.levelled.ordered.run.leads here)
      by_act (did t step a) here shows = did_step k e (slice_get_within acts k (did t step a) here) t step a here shows (act_at code b c acts k (did t step a) shown.levelled.ordered.run.leads here)
      by_act (beside t step a) here shows = beside_step k e (slice_get_within acts k (beside t step a) here) t step a here shows (act_at code b c acts k (beside t step a) shown.levelled.ordered.run.leads here)
