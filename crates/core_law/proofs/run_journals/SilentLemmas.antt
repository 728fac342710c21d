-- The silent moves of a thread that are left since its event before are those that it counts.
use Rattle.std.proofs.Common.{◌≡◌, ◌⊎◌, inl, inr, ℕ, zero, suc, ◌-◌, ◌<◌, ◌≤◌, Bool, Option, None, Some, List, [], ◌∷◌, length, refl, sym, ◌∙◌, ap, subst, arith}
use Rattle.std.specs.Prelude.{slice_get}
use Rattle.std.proofs.lemmas.Option.{same_Some, slice_get_within}
use Rattle.op_core.specs.declared.Op.{Op}
use Rattle.op_core.specs.declared.Reply.{Reply}
use Rattle.op_core.specs.declared.Next.{Next}
use Rattle.op_core.specs.declared.Next.TheVariants.{Silent, Want, Ended}
use Rattle.op_core.specs.ThreadCode.{Code}
use Rattle.op_core.specs.InPlaceList.{Entry, silent, event, go_back}
use Rattle.section_state.specs.SectionWord.{revoke_of}
use Rattle.step_port.specs.declared.answer.StepAnswer.{StepAnswer}
use Rattle.step_port.specs.declared.step.Step.{Step}
use Rattle.step_port.specs.declared.step.Step.TheVariants.{RestoreWord, SetDepth, Release, MarkUndone}
use Rattle.monitor_core.specs.Monitors.{monitor_depth}
use Rattle.step_port.specs.Steps.{effect_of}
use Rattle.step_port.specs.Words.{answer_of, CanAnswer}
use Rattle.thread_automaton.specs.declared.Attempt.{Attempt}
use Rattle.thread_automaton.specs.declared.Attempt.TheVariants.{Undoing}
use Rattle.thread_automaton.specs.declared.Bounds.{Bounds}
use Rattle.thread_automaton.specs.ThreadState.{ThreadState, Mark, nth_or, no_mark, mark_of}
use Rattle.thread_automaton.specs.Changes.{goes_back, changed}
use Rattle.thread_automaton.specs.Answers.{change_of, undone_at}
use Rattle.thread_automaton.specs.Told.{Told, probed, advanced, born, blocked, told, after_answer}
use Rattle.automaton_rows.specs.Fits.{IsFit}
use Rattle.automaton_rows.specs.Rows.{Row}
use Rattle.automaton_rows.proofs.RowLemmas.{answers_are_rows, words_can_answer}
use Rattle.core_runs.specs.Cores.{Core}
use Rattle.core_runs.specs.Acts.{Act, did, DidAt}
use Rattle.core_runs.specs.Entries.{event_told, monitor_shows, StepShows, go_back_to, back_to}
use Rattle.section_laws.proofs.level_marks.RunLemmas.{undone_levels_have_marks}
use Rattle.section_laws.proofs.level_runs.LevelLemmas.{has_nth}
use Rattle.section_laws.proofs.RunLemmas.{facts_at}
use Rattle.section_laws.proofs.own_sections.SeenLemmas.{undoing_seen}
use Rattle.section_laws.proofs.own_sections.MoveLemmas.{own_at}
use Rattle.section_laws.specs.LevelRun.{is_undone}
use Rattle.section_laws.specs.Levels.{UndoesAt, RunsInLevels}
use Rattle.section_laws.proofs.section_levels.LevelLemmas.{runs_in_levels}
use Rattle.section_laws.proofs.section_levels.RunLemmas.{counted_at}
use Rattle.section_laws.specs.OpenedSaves.{AreAsOpened}
use Rattle.section_laws.proofs.opened_saves.ChangeLemmas.{undone_level}
use Rattle.section_laws.proofs.opened_saves.RunLemmas.{saves_are_as_opened}
use Rattle.core_law.specs.CleanCuts.{IsShownRun}
use Rattle.core_law.proofs.third_law.EntryLemmas.{IsGoBack, GoesBackBy, goes_back_by}
use Rattle.core_law.proofs.third_law.AllowedLemmas.{event_is_told}
use Rattle.first_law.proofs.EntryLemmas.{NoReply}
use Rattle.core_law.proofs.run_journals.TurnLemmas.{silents_stay, silents_end, change_stays, change_back, marks_none, marks_step, event_shown}

abbrev pub IsEvent : Entry → Type 0
IsEvent (event t op reply) = Unit {0}
IsEvent e = ⊥

abbrev pub IsSilent : Entry → Type 0
IsSilent (silent t) = Unit {0}
IsSilent e = ⊥

pub reply_or : (tells : Told) → NoReply tells ⊎ ((reply : Reply) × (tells ≡ advanced (Some reply)))
reply_or probed = inl tt
reply_or (advanced None) = inl tt
reply_or (advanced (Some reply)) = inr (reply, refl)
reply_or born = inl tt
reply_or (Told.lost v) = inl tt
reply_or (blocked why) = inl tt

told_moves : (t : ℕ) (next : Next) (tells : Told) → IsSilent (event_told t next tells) → ⊥
told_moves t Silent tells is = is
told_moves t Ended tells is = is
told_moves t (Want op) probed is = is
told_moves t (Want op) (advanced None) is = is
told_moves t (Want op) (advanced (Some reply)) is = is
told_moves t (Want op) born is = is
told_moves t (Want op) (Told.lost v) is = is
told_moves t (Want op) (blocked why) is = is

monitor_moves : (t : ℕ) (g : Attempt) (r n : ℕ) (e : Entry) → (IsSilent e → ⊥) → IsSilent (monitor_shows t g r n e) → ⊥
monitor_moves t (Undoing w) r n e other is = is
monitor_moves t g r n e other is = other is

place_moves : (t : ℕ) (o : Option ℕ) → IsSilent (go_back_to t o) → ⊥
place_moves t None is = is
place_moves t (Some p) is = is

back_moves : (t : ℕ) (g : Attempt) (levels : List ℕ) → IsSilent (back_to t g levels) → ⊥
back_moves t (Undoing w) levels is = place_moves t (slice_get levels (length levels - revoke_of w)) is
back_moves t g levels is = is

-- a step shows no silent move
pub step_moves : {S : Type 0} (code : Code S) (b : Bounds) (core : Core S) (t : ℕ) (th : ThreadState S) (step : Step) (a : StepAnswer) (e : Entry) → StepShows code b core t th step a e → IsSilent e → ⊥
step_moves code b core t th (RestoreWord at old) a e (r, i, there, place, is) moves = subst IsSilent is moves
step_moves code b core t th (Release r) a e is moves =
    monitor_moves t th.attempt r 0 (event_told t (code.next th.local) (told code b th (Release r) a)) (told_moves t (code.next th.local) (told code b th (Release r) a)) (subst IsSilent is moves)
step_moves code b core t th (SetDepth r new) a e is moves =
    monitor_moves t th.attempt r (monitor_depth new) (event_told t (code.next th.local) (told code b th (SetDepth r new) a)) (told_moves t (code.next th.local) (told code b th (SetDepth r new) a)) (subst IsSilent is moves)
step_moves code b core t th (MarkUndone s w) a e is moves = back_moves t th.attempt (core.levels t) (subst IsSilent is moves)
step_moves code b core t th step a e is moves = told_moves t (code.next th.local) (told code b th step a) (subst IsSilent is moves)

-- the thread as a level opened that is still saved
opened_nth : {S : Type 0} (c : ℕ → Core S) (t p i : ℕ) (saved : List S) (marks : List Mark) (places : List ℕ) → AreAsOpened c t saved marks places → i < length saved → slice_get places i ≡ Some p
    → (th : ThreadState S) × ((c p).threads t ≡ Some th) × (th.silents ≡ (nth_or no_mark i marks).silents)
opened_nth c t p i [] marks places are low at = absurd (omega (arith, low))
opened_nth c t p i (l ∷ saved) [] places are low at = absurd are
opened_nth c t p i (l ∷ saved) (m ∷ marks) [] are low at = absurd are
opened_nth c t p zero (l ∷ saved) (m ∷ marks) (q ∷ places) are low at =
    let same : q ≡ p = same_Some q p at in (are.0.th, ap (λ n. (c n).threads t) (sym same) ∙ are.0.stands, are.0.moves)
opened_nth c t p (suc i) (l ∷ saved) (m ∷ marks) (q ∷ places) are low at = opened_nth c t p i saved marks places are.1 (omega (arith, low)) at

module _ {S : Type 0} (code : Code S) (b : Bounds) (first : S) (classes : ℕ) (c : ℕ → Core S) (acts : List Act) (es : List Entry) (doomed : ℕ → Bool)
    (shown_run : IsShownRun code b first classes c acts es doomed) where
  -- ---- one step of a thread

  module _ (k t : ℕ) (step : Step) (a : StepAnswer) (e : Entry) (here : slice_get acts k ≡ Some (did t step a)) (at : DidAt code b c k t step a)
      (shows : StepShows code b (c k) t at.from step a e) where
    low : k ≤ length acts
    low = let is = slice_get_within acts k (did t step a) here in omega (arith, is)

    fits : IsFit code at.from
    fits = (facts_at code b c acts shown_run.levelled.ordered.run k low).fit t at.from at.stands

    can : CanAnswer (effect_of step) a
    can = subst (CanAnswer (effect_of step)) (sym at.answered) (words_can_answer (c k).words step)

    row : Row code b at.from (code.next at.from.local) step a (change_of code b at.from (code.next at.from.local) step a)
    row = answers_are_rows code b at.from step a fits.attempt at.move can

    count : length ((c k).levels t) ≡ at.from.levels
    count = (counted_at code b first classes c acts shown_run.levelled k low).there t at.from at.stands

    seen : (w : ℕ) → at.from.attempt ≡ Undoing w → (at.from.pinned < revoke_of w) × (revoke_of w ≤ at.from.levels)
    seen w undoing = undoing_seen code at.from (c k).words (own_at code b c acts shown_run.levelled.ordered.run shown_run.levelled.ordered.in_bits k low t at.from at.stands) fits w undoing

    -- what it does when it goes back is shown
    pub plain_change : (IsGoBack e → ⊥) → (n : ℕ) → change_of code b at.from (code.next at.from.local) step a ≡ goes_back n → ⊥
    plain_change other n is = other (subst IsGoBack (sym (shown_is ∙ ap (λ g. back_to t g ((c k).levels t)) by.1 ∙ ap (go_back_to t) nth.1)) tt)
      where
        marks : (s w : ℕ) × (step ≡ MarkUndone s w)
        marks = marks_step code b at.from row n is

        by : (w : ℕ) × (at.from.attempt ≡ Undoing w) × (n ≡ revoke_of w)
        by = undone_level code b at.from row n is

        shown_is : e ≡ back_to t at.from.attempt ((c k).levels t)
        shown_is = subst (λ st. StepShows code b (c k) t at.from st a e) marks.2 shows

        inside : (l r v p : ℕ) → p < r → r ≤ v → l ≡ v → l - r < l
        inside l r v p some deep same = omega (arith, some, deep, same)

        nth : (p : ℕ) × (slice_get ((c k).levels t) (length ((c k).levels t) - revoke_of by.0) ≡ Some p)
        nth = has_nth (length ((c k).levels t) - revoke_of by.0) ((c k).levels t)
            (inside (length ((c k).levels t)) (revoke_of by.0) at.from.levels at.from.pinned (seen by.0 by.1).0 (seen by.0 by.1).1 count)

    pub marks_go_back : (s w : ℕ) → step ≡ MarkUndone s w → (IsGoBack e → ⊥) → ⊥
    marks_go_back s w is other = plain_change other (revoke_of marks.word) (ap (λ st. change_of code b at.from (code.next at.from.local) st a) is
        ∙ ap (change_of code b at.from (code.next at.from.local) (MarkUndone s w)) done ∙ ap undone_at undoing)
      where
        done : a ≡ StepAnswer.Done
        done = at.answered ∙ ap (answer_of (c k).words) is

        runs : RunsInLevels c acts t
        runs = runs_in_levels code b first classes c acts shown_run.levelled t

        notes : (n : ℕ) × (runs.act k ≡ is_undone n)
        notes = runs.notes k s w (here ∙ ap (λ st. Some (did t st a)) is ∙ ap (λ an. Some (did t (MarkUndone s w) an)) done)

        marks : UndoesAt c acts k t notes.0
        marks = runs.undoes k notes.0 notes.1

        undoing : at.from.attempt ≡ Undoing marks.word
        undoing = ap (λ (x : ThreadState S). x.attempt) (same_Some at.from marks.th (sym at.stands ∙ marks.stands)) ∙ marks.undoing

    pub own_event : (op : Op) (reply : Reply) → e ≡ event t op reply → (after_answer code b at.from step a).silents ≡ 0
    own_event op reply is = silents_end (told code b at.from step a) reply (changed code at.from (change_of code b at.from (code.next at.from.local) step a))
        (event_is_told code b (c k) t t at.from op reply step a (subst (λ x. StepShows code b (c k) t at.from step a x) is shows)).so

    pub own_plain : (IsEvent e → ⊥) → (IsGoBack e → ⊥) → (after_answer code b at.from step a).silents ≡ at.from.silents
    own_plain unseen_so other = elim (reply_or (told code b at.from step a)) [
      | inl none ↦ silents_stay (told code b at.from step a) (changed code at.from (change_of code b at.from (code.next at.from.local) step a)) none
          ∙ change_stays code at.from (change_of code b at.from (code.next at.from.local) step a) (plain_change other)
      | inr (reply, is) ↦ absurd (unseen_so (subst IsEvent (sym (event_shown code b (c k) t at.from step a e reply fits.attempt at.move can shows is).1) tt))
    ]

    pub own_back : (p : ℕ) → e ≡ go_back t p → (th : ThreadState S) × ((c p).threads t ≡ Some th) × ((after_answer code b at.from step a).silents ≡ th.silents)
    own_back p is = (then_.0, then_.1, moved ∙ sym then_.2)
      where
        mark : GoesBackBy t t p at.from.attempt ((c k).levels t) step
        mark = goes_back_by code b (c k) t t at.from p step a (subst (λ x. StepShows code b (c k) t at.from step a x) is shows)

        done : a ≡ StepAnswer.Done
        done = at.answered ∙ ap (answer_of (c k).words) mark.is

        change_is : change_of code b at.from (code.next at.from.local) step a ≡ goes_back (revoke_of mark.word)
        change_is = ap (λ st. change_of code b at.from (code.next at.from.local) st a) mark.is
            ∙ ap (change_of code b at.from (code.next at.from.local) (MarkUndone mark.section mark.mark)) done ∙ ap undone_at mark.undoing

        none : NoReply (told code b at.from step a)
        none = subst (λ st. NoReply (told code b at.from st a)) (sym mark.is) (marks_none code b (c k) t at.from (code.next at.from.local) mark.section mark.mark a)

        moved : (after_answer code b at.from step a).silents ≡ (mark_of at.from (revoke_of mark.word)).silents
        moved = silents_stay (told code b at.from step a) (changed code at.from (change_of code b at.from (code.next at.from.local) step a)) none
            ∙ ap (λ change. (changed code at.from change).silents) change_is ∙ change_back code at.from (revoke_of mark.word)

        then_ : (th : ThreadState S) × ((c p).threads t ≡ Some th) × (th.silents ≡ (nth_or no_mark (at.from.levels - revoke_of mark.word) at.from.marks).silents)
        then_ = opened_nth c t p (at.from.levels - revoke_of mark.word) at.from.saved at.from.marks ((c k).levels t) (saves_are_as_opened code b first classes c acts shown_run.levelled k t at.from low at.stands)
            (subst (λ n. at.from.levels - revoke_of mark.word < n) (sym fits.kept.saves) (undone_levels_have_marks code b first classes c acts shown_run.levelled.ordered k t mark.word at.from low at.stands mark.undoing))
            (ap (λ n. slice_get ((c k).levels t) (n - revoke_of mark.word)) (sym count) ∙ mark.opened)

    pub own_moves : IsSilent e → ⊥
    own_moves is = step_moves code b (c k) t at.from step a e shows is
