-- How many items the rows have, act by act.
use Rattle.std.proofs.Common.{◌≡◌, inl, inr, ℕ, zero, suc, ◌+◌, ◌<◌, ◌≤◌, Bool, None, Some, List, [], ◌∷◌, ◌++◌, length, length-append, refl, sym, ◌∙◌, ap, subst, arith}
use Rattle.std.specs.Prelude.{slice_get}
use Rattle.std.proofs.lemmas.Option.{same_Some, slice_get_within}
use Rattle.op_core.specs.declared.Reply.{Reply}
use Rattle.op_core.specs.ThreadCode.{Code}
use Rattle.op_core.specs.InPlaceList.{Entry, silent, event, put_back, give_back, go_back, unseen}
use Rattle.step_port.specs.declared.answer.StepAnswer.{StepAnswer}
use Rattle.step_port.specs.declared.step.Step.{Step}
use Rattle.step_port.specs.declared.step.Step.TheVariants.{MarkUndone}
use Rattle.step_port.specs.Steps.{effect_of}
use Rattle.step_port.specs.Words.{CanAnswer}
use Rattle.thread_automaton.specs.declared.Bounds.{Bounds}
use Rattle.thread_automaton.specs.ThreadState.{ThreadState}
use Rattle.thread_automaton.specs.Told.{Told, probed, advanced, born, blocked, told}
use Rattle.automaton_rows.specs.Fits.{IsFit}
use Rattle.automaton_rows.proofs.RowLemmas.{words_can_answer}
use Rattle.core_runs.specs.Cores.{Core}
use Rattle.core_runs.specs.Acts.{Act, did, DidAt, mover}
use Rattle.core_runs.specs.Entries.{StepShows, Shows}
use Rattle.section_laws.proofs.RunLemmas.{act_at, facts_at}
use Rattle.core_law.specs.CleanCuts.{IsShownRun}
use Rattle.core_law.proofs.third_law.AllowedLemmas.{event_is_told}
use Rattle.core_law.proofs.third_law.EntryLemmas.{entry_at}
use Rattle.first_law.proofs.EntryLemmas.{NoReply}
use Rattle.word_runs.specs.WordTurns.{counts_for}
use Rattle.journal_rows.specs.Told.{after_row_calls}
use Rattle.core_law.specs.RunCalls.{calls_at, rows_at}
use Rattle.core_law.proofs.run_journals.RowSteps.{shown_by}
use Rattle.core_law.proofs.run_journals.FlagLemmas.{NextRows, next_rows}
use Rattle.core_law.proofs.run_journals.SilentLemmas.{reply_or}
use Rattle.core_law.proofs.run_journals.TurnLemmas.{event_shown}
use Rattle.core_law.proofs.told_journals.StepLemmas.{IsMark, mark_or, mark_shown, mark_only}
use Rattle.core_law.specs.ToldLaws.{RowsGoOn, ItemsAreCounted}

-- ---- an act more

get_before : {A : Type 0} (xs : List A) (x : A) (i : ℕ) → i < length xs → slice_get (xs ++ x ∷ []) i ≡ slice_get xs i
get_before [] x i low = absurd (omega (arith, low))
get_before (y ∷ xs) x zero low = refl
get_before (y ∷ xs) x (suc i) low = get_before xs x i (omega (arith, low))

get_new : {A : Type 0} (xs : List A) (x : A) (n : ℕ) → length xs ≡ n → slice_get (xs ++ x ∷ []) n ≡ Some x
get_new [] x n is = ap (slice_get (x ∷ [])) (sym is)
get_new (y ∷ xs) x n is = ap (slice_get (y ∷ (xs ++ x ∷ []))) (sym is) ∙ get_new xs x (length xs) refl

module _ {S : Type 0} (c : ℕ → Core S) (acts : List Act) (es : List Entry) (x : Act) (e : Entry) (count : length es ≡ length acts) where
  rows_before : (k : ℕ) → k ≤ length acts → rows_at c (acts ++ x ∷ []) (es ++ e ∷ []) k ≡ rows_at c acts es k
  rows_before zero within = refl
  rows_before (suc k) within =
      ap (after_row_calls (calls_at c k (slice_get (acts ++ x ∷ []) k) (slice_get (es ++ e ∷ []) k))) (rows_before k (lower within))
      ∙ ap (λ o. after_row_calls (calls_at c k o (slice_get (es ++ e ∷ []) k)) (rows_at c acts es k)) (get_before acts x k within)
      ∙ ap (λ o. after_row_calls (calls_at c k (slice_get acts k) o) (rows_at c acts es k)) (get_before es e k (subst (λ n. k < n) (sym count) within))
    where
      lower : suc k ≤ length acts → k ≤ length acts
      lower within = omega (arith, within)

  one_more : rows_at c (acts ++ x ∷ []) (es ++ e ∷ []) (suc (length acts)) ≡ after_row_calls (calls_at c (length acts) (Some x) (Some e)) (rows_at c acts es (length acts))
  one_more = ap (after_row_calls (calls_at c (length acts) (slice_get (acts ++ x ∷ []) (length acts)) (slice_get (es ++ e ∷ []) (length acts)))) (rows_before (length acts) (omega arith))
      ∙ ap (λ o. after_row_calls (calls_at c (length acts) o (slice_get (es ++ e ∷ []) (length acts))) (rows_at c acts es (length acts))) (get_new acts x (length acts) refl)
      ∙ ap (λ o. after_row_calls (calls_at c (length acts) (Some x) o) (rows_at c acts es (length acts))) (get_new es e (length acts) count)

pub rows_go_on : (S : Type 0) → RowsGoOn S
rows_go_on S c acts es x e count = one_more c acts es x e count

-- ---- items

pub counts_none : (step : Step) (tells : Told) → (IsMark step → ⊥) → NoReply tells → counts_for step tells ≡ 0
counts_none (MarkUndone s w) tells other none = absurd (other tt)
counts_none step probed other none = refl
counts_none step (advanced None) other none = refl
counts_none step (advanced (Some reply)) other none = absurd none
counts_none step born other none = refl
counts_none step (Told.lost v) other none = refl
counts_none step (blocked why) other none = refl

pub counts_one : (step : Step) (reply : Reply) → (IsMark step → ⊥) → counts_for step (advanced (Some reply)) ≡ 1
counts_one (MarkUndone s w) reply other = refl
counts_one step reply other = refl

module _ {S : Type 0} (code : Code S) (b : Bounds) (first : S) (classes : ℕ) (c : ℕ → Core S) (acts : List Act) (es : List Entry) (doomed : ℕ → Bool)
    (shown : IsShownRun code b first classes c acts es doomed) (k t : ℕ) (step : Step) (a : StepAnswer) (e : Entry) (here : slice_get acts k ≡ Some (did t step a)) (at : DidAt code b c k t step a)
    (shows : StepShows code b (c k) t at.from step a e) where
  low : k ≤ length acts
  low = let is = slice_get_within acts k (did t step a) here in omega (arith, is)

  fits : IsFit code at.from
  fits = (facts_at code b c acts shown.levelled.ordered.run k low).fit t at.from at.stands

  can : CanAnswer (effect_of step) a
  can = subst (CanAnswer (effect_of step)) (sym at.answered) (words_can_answer (c k).words step)

  pub added_is : (levels : ℕ) (back : ℕ → ℕ) → length (shown_by (c k) levels back e) ≡ counts_for step (told code b at.from step a)
  added_is levels back = elim (mark_or step) [
    | inl (s, w, is) ↦ marked s w is (mark_shown code b first classes c acts es doomed shown k t step a e here at shows s w is)
    | inr other ↦ elim (reply_or (told code b at.from step a)) [
      | inl none ↦ by_entry other none e refl ∙ sym (counts_none step (told code b at.from step a) other none)
      | inr (reply, is) ↦ ap (λ x. length (shown_by (c k) levels back x)) (event_shown code b (c k) t at.from step a e reply fits.attempt at.move can shows is).1
          ∙ sym (ap (counts_for step) is ∙ counts_one step reply other)
    ]
  ]
    where
      marked : (s w : ℕ) → step ≡ MarkUndone s w → (u p : ℕ) × (e ≡ go_back u p) → length (shown_by (c k) levels back e) ≡ counts_for step (told code b at.from step a)
      marked s w is (u, p, goes) = ap (λ x. length (shown_by (c k) levels back x)) goes ∙ ap (λ st. counts_for st (told code b at.from step a)) (sym is)

      by_entry : (IsMark step → ⊥) → NoReply (told code b at.from step a) → (x : Entry) → e ≡ x → length (shown_by (c k) levels back e) ≡ 0
      by_entry other none (silent u) is = ap (λ x. length (shown_by (c k) levels back x)) is
      by_entry other none (event u op reply) is = absurd (subst NoReply (event_is_told code b (c k) t u at.from op reply step a (subst (λ x. StepShows code b (c k) t at.from step a x) is shows)).so none)
      by_entry other none (put_back r i v) is = ap (λ x. length (shown_by (c k) levels back x)) is
      by_entry other none (give_back u r n) is = ap (λ x. length (shown_by (c k) levels back x)) is
      by_entry other none (go_back u p) is = absurd (other (mark_only code b first classes c acts es doomed shown k t step a e here at shows u p is))
      by_entry other none unseen is = ap (λ x. length (shown_by (c k) levels back x)) is

pub items_are_counted : {S : Type 0} (code : Code S) → ItemsAreCounted code
items_are_counted {S} code b first classes c acts es doomed shown k t step a th here stands = by (next_rows code b first classes c acts es doomed shown k within)
  where
    within : k < length acts
    within = slice_get_within acts k (did t step a) here

    at : DidAt code b c k t step a
    at = act_at code b c acts k (did t step a) shown.levelled.ordered.run.leads here

    found : (e : Entry) × (slice_get es k ≡ Some e) × Shows code b (c k) (did t step a) e
    found = entry_at code b c acts es k (did t step a) shown.shows here

    by : NextRows code b first classes c acts es doomed shown k → length (rows_at c acts es (suc k)).items ≡ length (rows_at c acts es k).items + counts_for step (told code b th step a)
    by now = ap length now.row.items
        ∙ length-append (rows_at c acts es k).items (shown_by (c k) (length ((c (suc k)).levels (mover (Some now.step.act)))) (rows_at c acts es k).back now.entry)
        ∙ ap (λ n. length (rows_at c acts es k).items + n)
        (ap (λ e. length (shown_by (c k) (length ((c (suc k)).levels (mover (Some now.step.act)))) (rows_at c acts es k).back e)) (same_Some now.entry found.0 (sym now.there ∙ found.1))
        ∙ added_is code b first classes c acts es doomed shown k t step a found.0 here at
        (subst (λ (x : ThreadState S). StepShows code b (c k) t x step a found.0) (same_Some found.2.0 at.from (sym found.2.1 ∙ at.stands)) found.2.2)
        (length ((c (suc k)).levels (mover (Some now.step.act)))) (rows_at c acts es k).back
        ∙ ap (λ (x : ThreadState S). counts_for step (told code b x step a)) (same_Some at.from th (sym at.stands ∙ stands)))
