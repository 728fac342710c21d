-- What a thread tells of its step is what its act tells.
use Rattle.std.proofs.Common.{◌≡◌, ◌⊎◌, inl, inr, ℕ, suc, ◌-◌, ◌<◌, ◌≤◌, Bool, false, Option, None, Some, List, [], ◌∷◌, ◌++◌, length, refl, sym, ◌∙◌, ap, subst, arith}
use Rattle.std.specs.Prelude.{slice_get, nat_lt, if◌then◌else◌}
use Rattle.std.proofs.lemmas.Grind.{common_steps}
use Rattle.std.proofs.lemmas.Bool.Decides.{nat_tests}
use Rattle.std.proofs.lemmas.Option.{same_Some, slice_get_within}
use Rattle.op_core.specs.declared.Next.{Next}
use Rattle.op_core.specs.declared.Next.TheVariants.{Silent, Want, Ended}
use Rattle.op_core.specs.ThreadCode.{Code}
use Rattle.op_core.specs.InPlaceList.{Entry, silent, event, put_back, give_back, go_back, unseen}
use Rattle.section_state.specs.SectionWord.{revoke_of}
use Rattle.monitor_core.specs.Monitors.{monitor_depth}
use Rattle.step_port.specs.declared.answer.StepAnswer.{StepAnswer}
use Rattle.step_port.specs.declared.step.Step.{Step}
use Rattle.step_port.specs.declared.step.Step.TheVariants.{RestoreWord, SetDepth, Release, MarkUndone}
use Rattle.step_port.specs.Steps.{effect_of}
use Rattle.step_port.specs.Words.{CanAnswer}
use Rattle.thread_automaton.specs.declared.Attempt.{Attempt}
use Rattle.thread_automaton.specs.declared.Attempt.TheVariants.{Undoing}
use Rattle.thread_automaton.specs.declared.Bounds.{Bounds}
use Rattle.thread_automaton.specs.ThreadState.{ThreadState}
use Rattle.thread_automaton.specs.Told.{Told, probed, advanced, born, blocked, told, after_answer}
use Rattle.automaton_rows.specs.Fits.{IsFit}
use Rattle.automaton_rows.proofs.RowLemmas.{words_can_answer}
use Rattle.core_runs.specs.Cores.{Core}
use Rattle.core_runs.specs.Acts.{Act, quiet, did, QuietAt, DidAt}
use Rattle.core_runs.specs.Entries.{event_told, monitor_shows, go_back_to, back_to, StepShows, Shows}
use Rattle.section_laws.proofs.RunLemmas.{act_at, facts_at}
use Rattle.section_laws.proofs.section_levels.RunLemmas.{Counted, counted_at, own_there}
use Rattle.core_law.specs.CleanCuts.{IsShownRun}
use Rattle.core_law.proofs.third_law.AllowedLemmas.{IsTold, event_is_told}
use Rattle.core_law.proofs.third_law.EntryLemmas.{IsGoBack, goes_back_by, entry_at}
use Rattle.first_law.proofs.EntryLemmas.{NoReply}
use Rattle.journal_rows.specs.Told.{event_came, opens_a_level, closes_levels, undoes_levels_to}
use Rattle.core_law.specs.RunCalls.{counted_silents, entry_calls, open_or_close_calls, level_calls, calls_by, calls_at}
use Rattle.core_law.proofs.run_journals.TurnLemmas.{event_shown}
use Rattle.core_law.proofs.run_journals.SilentLemmas.{IsEvent, IsSilent, reply_or, step_moves, marks_go_back}
use Rattle.core_law.specs.Calls.{reply_calls, shown_calls, depth_calls, step_calls}
use Rattle.core_law.specs.ToldLaws.{StepsTellRows, SilentMovesTellNothing}

abbrev IsPutBack : Entry → Type 0
IsPutBack (put_back r i v) = Unit {0}
IsPutBack e = ⊥

-- ---- words are put back by their step alone

told_puts : (t : ℕ) (next : Next) (tells : Told) → IsPutBack (event_told t next tells) → ⊥
told_puts t Silent tells is = is
told_puts t Ended tells is = is
told_puts t (Want op) probed is = is
told_puts t (Want op) (advanced None) is = is
told_puts t (Want op) (advanced (Some reply)) is = is
told_puts t (Want op) born is = is
told_puts t (Want op) (Told.lost v) is = is
told_puts t (Want op) (blocked why) is = is

monitor_puts : (t : ℕ) (g : Attempt) (r n : ℕ) (e : Entry) → (IsPutBack e → ⊥) → IsPutBack (monitor_shows t g r n e) → ⊥
monitor_puts t (Undoing w) r n e other is = is
monitor_puts t g r n e other is = other is

place_puts : (t : ℕ) (o : Option ℕ) → IsPutBack (go_back_to t o) → ⊥
place_puts t None is = is
place_puts t (Some p) is = is

back_puts : (t : ℕ) (g : Attempt) (levels : List ℕ) → IsPutBack (back_to t g levels) → ⊥
back_puts t (Undoing w) levels is = place_puts t (slice_get levels (length levels - revoke_of w)) is
back_puts t g levels is = is

abbrev pub IsRestore : Step → Type 0
IsRestore (RestoreWord at old) = Unit {0}
IsRestore step = ⊥

abbrev pub IsMark : Step → Type 0
IsMark (MarkUndone s w) = Unit {0}
IsMark step = ⊥

step_puts : {S : Type 0} (code : Code S) (b : Bounds) (core : Core S) (t : ℕ) (th : ThreadState S) (step : Step) (a : StepAnswer) (e : Entry) → (IsRestore step → ⊥) → StepShows code b core t th step a e → IsPutBack e → ⊥
step_puts code b core t th (RestoreWord at old) a e other is puts = other tt
step_puts code b core t th (Release r) a e other is puts =
    monitor_puts t th.attempt r 0 (event_told t (code.next th.local) (told code b th (Release r) a)) (told_puts t (code.next th.local) (told code b th (Release r) a)) (subst IsPutBack is puts)
step_puts code b core t th (SetDepth r new) a e other is puts =
    monitor_puts t th.attempt r (monitor_depth new) (event_told t (code.next th.local) (told code b th (SetDepth r new) a)) (told_puts t (code.next th.local) (told code b th (SetDepth r new) a)) (subst IsPutBack is puts)
step_puts code b core t th (MarkUndone s w) a e other is puts = back_puts t th.attempt (core.levels t) (subst IsPutBack is puts)
step_puts code b core t th step a e other is puts = told_puts t (code.next th.local) (told code b th step a) (subst IsPutBack is puts)

pub none_said : (t silents : ℕ) (next : Next) (tells : Told) → NoReply tells → reply_calls t silents next tells ≡ []
none_said t silents Silent tells none = refl
none_said t silents Ended tells none = refl
none_said t silents (Want op) probed none = refl
none_said t silents (Want op) (advanced None) none = refl
none_said t silents (Want op) (advanced (Some reply)) none = absurd none
none_said t silents (Want op) born none = refl
none_said t silents (Want op) (Told.lost v) none = refl
none_said t silents (Want op) (blocked why) none = refl

-- ---- levels

plain_levels : (t n m : ℕ) (e : Entry) → (IsGoBack e → ⊥) → level_calls t n m e ≡ open_or_close_calls t n m
plain_levels t n m (silent u) other = refl
plain_levels t n m (event u op reply) other = refl
plain_levels t n m (put_back r i v) other = refl
plain_levels t n m (give_back u r k) other = refl
plain_levels t n m (go_back u p) other = absurd (other tt)
plain_levels t n m unseen other = refl

pub plain_depth : (t n m : ℕ) (step : Step) → (IsMark step → ⊥) → depth_calls t n m step ≡ open_or_close_calls t n m
plain_depth t n m (MarkUndone s w) other = absurd (other tt)
plain_depth t n m step other = refl

pub plain_shown : (t silents : ℕ) (next : Next) (step : Step) (tells : Told) → (IsRestore step → ⊥) → shown_calls t silents next step tells ≡ reply_calls t silents next tells
plain_shown t silents next (RestoreWord at old) tells other = absurd (other tt)
plain_shown t silents next step tells other = refl

pub mark_or : (step : Step) → ((s w : ℕ) × (step ≡ MarkUndone s w)) ⊎ (IsMark step → ⊥)
mark_or (MarkUndone s w) = inl (s, w, refl)
mark_or step = inr (λ is. is)

pub restore_or : (step : Step) → ((at old : ℕ) × (step ≡ RestoreWord at old)) ⊎ (IsRestore step → ⊥)
restore_or (RestoreWord at old) = inl (at, old, refl)
restore_or step = inr (λ is. is)

module _ {S : Type 0} (code : Code S) (b : Bounds) (first : S) (classes : ℕ) (c : ℕ → Core S) (acts : List Act) (es : List Entry) (doomed : ℕ → Bool)
    (shown : IsShownRun code b first classes c acts es doomed) where
  module _ (k t : ℕ) (step : Step) (a : StepAnswer) (e : Entry) (here : slice_get acts k ≡ Some (did t step a)) (at : DidAt code b c k t step a)
      (shows : StepShows code b (c k) t at.from step a e) where
    low : k ≤ length acts
    low = let is = slice_get_within acts k (did t step a) here in omega (arith, is)

    fits : IsFit code at.from
    fits = (facts_at code b c acts shown.levelled.ordered.run k low).fit t at.from at.stands

    can : CanAnswer (effect_of step) a
    can = subst (CanAnswer (effect_of step)) (sym at.answered) (words_can_answer (c k).words step)

    abbrev tells : Told
    tells = told code b at.from step a

    -- a mark of undone levels is shown as one
    pub mark_shown : (s w : ℕ) → step ≡ MarkUndone s w → (u p : ℕ) × (e ≡ go_back u p)
    mark_shown s w is = by_entry e refl
      where
        never : (IsGoBack e → ⊥) → (u p : ℕ) × (e ≡ go_back u p)
        never other = absurd (marks_go_back code b first classes c acts es doomed shown k t step a e here at shows s w is other)

        by_entry : (x : Entry) → e ≡ x → (u p : ℕ) × (e ≡ go_back u p)
        by_entry (go_back u p) same = (u, p, same)
        by_entry (silent u) same = never (λ go. subst IsGoBack same go)
        by_entry (event u op reply) same = never (λ go. subst IsGoBack same go)
        by_entry (put_back r i v) same = never (λ go. subst IsGoBack same go)
        by_entry (give_back u r n) same = never (λ go. subst IsGoBack same go)
        by_entry unseen same = never (λ go. subst IsGoBack same go)

    pub mark_only : (u p : ℕ) → e ≡ go_back u p → IsMark step
    mark_only u p is = subst IsMark (sym (goes_back_by code b (c k) t u at.from p step a (subst (λ x. StepShows code b (c k) t at.from step a x) is shows)).is) tt

    levels_told : (n m : ℕ) → level_calls t n m e ≡ depth_calls t n m step
    levels_told n m = elim (mark_or step) [
      | inl (s, w, is) ↦ marked (mark_shown s w is).0 (mark_shown s w is).1 s w (mark_shown s w is).2 is
      | inr other ↦ plain_levels t n m e (not_back other) ∙ sym (plain_depth t n m step other)
    ]
      where
        marked : (u p s w : ℕ) → e ≡ go_back u p → step ≡ MarkUndone s w → level_calls t n m e ≡ depth_calls t n m step
        marked u p s w goes is = ap (level_calls t n m) goes
            ∙ ap (λ v. undoes_levels_to v m ∷ []) (sym (goes_back_by code b (c k) t u at.from p step a (subst (λ x. StepShows code b (c k) t at.from step a x) goes shows)).own)
            ∙ ap (depth_calls t n m) (sym is)

        not_back : (IsMark step → ⊥) → IsGoBack e → ⊥
        not_back other go = by_entry e refl go
          where
            by_entry : (x : Entry) → e ≡ x → IsGoBack x → ⊥
            by_entry (go_back u p) is go = other (mark_only u p is)
            by_entry (silent u) is go = go
            by_entry (event u op reply) is go = go
            by_entry (put_back r i v) is go = go
            by_entry (give_back u r n) is go = go
            by_entry unseen is go = go

    entry_told : entry_calls (c k) t e ≡ shown_calls t at.from.silents (code.next at.from.local) step tells
    entry_told = elim (restore_or step) [
      | inl (place, old, is) ↦
          let puts = subst (λ st. StepShows code b (c k) t at.from st a e) is shows in
          ap (entry_calls (c k) t) puts.4 ∙ sym (ap (λ st. shown_calls t at.from.silents (code.next at.from.local) st tells) is)
      | inr other ↦ by_entry other e refl ∙ sym (plain_shown t at.from.silents (code.next at.from.local) step tells other)
    ]
      where
        quiet_so : (IsEvent e → ⊥) → [] ≡ reply_calls t at.from.silents (code.next at.from.local) tells
        quiet_so unseen_so = elim (reply_or tells) [
          | inl none ↦ sym (none_said t at.from.silents (code.next at.from.local) tells none)
          | inr (reply, is) ↦ absurd (unseen_so (subst IsEvent (sym (event_shown code b (c k) t at.from step a e reply fits.attempt at.move can shows is).1) tt))
        ]

        by_entry : (IsRestore step → ⊥) → (x : Entry) → e ≡ x → entry_calls (c k) t e ≡ reply_calls t at.from.silents (code.next at.from.local) tells
        by_entry other (event u op reply) is =
            let by : IsTold t u (code.next at.from.local) tells op reply = event_is_told code b (c k) t u at.from op reply step a (subst (λ x. StepShows code b (c k) t at.from step a x) is shows) in
            ap (entry_calls (c k) t) is ∙ ap (λ v. event_came (record { thread = v; silent = counted_silents ((c k).threads v); op = op; reply = reply }) ∷ []) (sym by.own)
            ∙ ap (λ o. event_came (record { thread = t; silent = counted_silents o; op = op; reply = reply }) ∷ []) at.stands
            ∙ sym (ap (λ next. reply_calls t at.from.silents next tells) by.wants ∙ ap (reply_calls t at.from.silents (Want op)) by.so)
        by_entry other (silent u) is = absurd (step_moves code b (c k) t at.from step a e shows (subst IsSilent (sym is) tt))
        by_entry other (put_back r i v) is = absurd (step_puts code b (c k) t at.from step a e other shows (subst IsPutBack (sym is) tt))
        by_entry other (give_back u r n) is = ap (entry_calls (c k) t) is ∙ quiet_so (λ ev. subst IsEvent is ev)
        by_entry other (go_back u p) is = ap (entry_calls (c k) t) is ∙ quiet_so (λ ev. subst IsEvent is ev)
        by_entry other unseen is = ap (entry_calls (c k) t) is ∙ quiet_so (λ ev. subst IsEvent is ev)

    counted : Counted code b first classes c acts shown.levelled (c k)
    counted = counted_at code b first classes c acts shown.levelled k low

    levels_after : length ((c (suc k)).levels t) ≡ (after_answer code b at.from step a).levels
    levels_after = (counted_at code b first classes c acts shown.levelled (suc k) within).there t (after_answer code b at.from step a)
        (ap (λ (core : Core S). core.threads t) at.leads ∙ own_there code b first classes c acts shown.levelled k within t step a here at counted)
      where
        within : k < length acts
        within = slice_get_within acts k (did t step a) here

    calls_told : calls_by c k t e ≡ step_calls t at.from (code.next at.from.local) step tells (after_answer code b at.from step a)
    calls_told = ap (λ n. level_calls t n (length ((c (suc k)).levels t)) e ++ entry_calls (c k) t e) (counted.there t at.from at.stands)
        ∙ ap (λ m. level_calls t at.from.levels m e ++ entry_calls (c k) t e) levels_after
        ∙ ap (λ xs. xs ++ entry_calls (c k) t e) (levels_told at.from.levels (after_answer code b at.from step a).levels)
        ∙ ap (λ xs. depth_calls t at.from.levels (after_answer code b at.from step a).levels step ++ xs) entry_told

  pub step_told : (k t : ℕ) (step : Step) (a : StepAnswer) (th : ThreadState S) → slice_get acts k ≡ Some (did t step a) → (c k).threads t ≡ Some th
      → calls_at c k (slice_get acts k) (slice_get es k) ≡ step_calls t th (code.next th.local) step (told code b th step a) (after_answer code b th step a)
  step_told k t step a th here stands =
      ap (λ o. calls_at c k o (slice_get es k)) here ∙ ap (calls_at c k (Some (did t step a))) found.1
      ∙ calls_told k t step a found.0 here at (subst (λ (x : ThreadState S). StepShows code b (c k) t x step a found.0) (same_Some found.2.0 at.from (sym found.2.1 ∙ at.stands)) found.2.2)
      ∙ ap (λ (x : ThreadState S). step_calls t x (code.next x.local) step (told code b x step a) (after_answer code b x step a)) (same_Some at.from th (sym at.stands ∙ stands))
    where
      found : (e : Entry) × (slice_get es k ≡ Some e) × Shows code b (c k) (did t step a) e
      found = entry_at code b c acts es k (did t step a) shown.shows here

      at : DidAt code b c k t step a
      at = act_at code b c acts k (did t step a) shown.levelled.ordered.run.leads here

  pub silent_told : (k t : ℕ) → slice_get acts k ≡ Some (quiet t) → calls_at c k (slice_get acts k) (slice_get es k) ≡ []
  silent_told k t here = ap (λ o. calls_at c k o (slice_get es k)) here ∙ ap (calls_at c k (Some (quiet t))) found.1 ∙ ap (λ e. calls_by c k t e) found.2
      ∙ ap (λ n. level_calls t (length ((c k).levels t)) n (silent t) ++ []) (ap (λ (core : Core S). length (core.levels t)) at.leads) ∙ none_told (length ((c k).levels t))
    where
      found : (e : Entry) × (slice_get es k ≡ Some e) × Shows code b (c k) (quiet t) e
      found = entry_at code b c acts es k (quiet t) shown.shows here

      at : QuietAt code b c k t
      at = act_at code b c acts k (quiet t) shown.levelled.ordered.run.leads here

      not_less : (n : ℕ) → nat_lt n n ≡ false
      not_less n = grind (arith, common_steps, nat_tests)

      none_told : (n : ℕ) → open_or_close_calls t n n ++ [] ≡ []
      none_told n = ap (λ z. (if z then opens_a_level t ∷ [] else if z then closes_levels t n ∷ [] else []) ++ []) (not_less n)

pub steps_tell_rows : {S : Type 0} (code : Code S) → StepsTellRows code
steps_tell_rows code b first classes c acts es doomed shown k t step a th here stands = step_told code b first classes c acts es doomed shown k t step a th here stands

pub silent_moves_tell_nothing : {S : Type 0} (code : Code S) → SilentMovesTellNothing code
silent_moves_tell_nothing code b first classes c acts es doomed shown k t here = silent_told code b first classes c acts es doomed shown k t here
