-- What each act of a run makes of the rows.
use Rattle.std.proofs.Common.{◌≡◌, ◌≢◌, inl, inr, ℕ, zero, suc, ◌+◌, ◌-◌, ◌<◌, ◌≤◌, ◌&&◌, Bool, true, false, not, Some, List, [], ◌∷◌, ◌++◌, length, take, map, reverse, append-nil, arith, refl, sym, ◌∙◌, ap, subst}
use Rattle.std.specs.Prelude.{slice_get, nat_lt, nat_le, if◌then◌else◌}
use Rattle.std.proofs.lemmas.Grind.{common_steps}
use Rattle.std.proofs.lemmas.Bool.Decides.{nat_tests}
use Rattle.std.proofs.lemmas.List.{take_all}
use Rattle.op_core.specs.ThreadCode.{Code}
use Rattle.op_core.specs.OrdinaryState.{set_at}
use Rattle.op_core.proofs.PointwiseLemmas.{same_or_other, set_at-hit, set_at-other}
use Rattle.op_core.specs.InPlaceList.{Entry, silent, event, put_back, give_back, go_back, unseen}
use Rattle.trace_journal.specs.declared.item.JournalItem.{JournalItem}
use Rattle.trace_journal.specs.declared.item.JournalItem.TheVariants.{Event as event_item, Undone}
use Rattle.thread_automaton.specs.declared.Bounds.{Bounds}
use Rattle.core_runs.specs.Cores.{Core, outermost}
use Rattle.core_runs.specs.Acts.{Act, mover}
use Rattle.section_laws.proofs.section_levels.RowLemmas.{length_outermost}
use Rattle.section_laws.proofs.RunLemmas.{get_some}
use Rattle.core_law.specs.CleanCuts.{IsShownRun}
use Rattle.core_law.proofs.third_law.EntryLemmas.{IsGoBack, entry_at}
use Rattle.journal_rows.specs.Told.{RowCall, opens_a_level, closes_levels, RowsTold, is_event_of, is_since, after_row_call, after_row_calls}
use Rattle.core_law.specs.RunCalls.{counted_silents, entry_calls, open_or_close_calls, level_calls, calls_by, calls_at, rows_at}
use Rattle.core_law.proofs.run_journals.ListLemmas.{count_first, count_more, count_nth, count_length}
use Rattle.core_law.proofs.run_journals.LevelSteps.{LevelStep, levels_shut, level_opens, levels_undone, StepAt, step_at}

after_append : (xs ys : List RowCall) (s : RowsTold) → after_row_calls (xs ++ ys) s ≡ after_row_calls xs (after_row_calls ys s)
after_append [] ys s = refl
after_append (x ∷ xs) ys s = ap (after_row_call x) (after_append xs ys s)

-- what an entry of a core shows
abbrev pub shown_by : {S : Type 0} → Core S → ℕ → (ℕ → ℕ) → Entry → List JournalItem
shown_by c levels back (event t op reply) = event_item (record { thread = t; silent = counted_silents (c.threads t); op = op; reply = reply }) ∷ []
shown_by c levels back (go_back t p) = Undone t (levels + 1) (back t) ∷ []
shown_by c levels back e = []

-- what it makes of the words that were put back, of thread t
abbrev pub words_after : ℕ → (ℕ → ℕ) → Entry → ℕ → ℕ
words_after t back (put_back r i v) = set_at back t (suc (back t))
words_after t back (go_back u p) = set_at back u 0
words_after t back e = back

-- it goes back over item i
abbrev pub over : (ℕ → ℕ) → List JournalItem → Entry → ℕ → Bool
over count items (go_back t p) i = is_event_of t (slice_get items i) && nat_le (count p) i
over count items e i = false

-- the rows s, which thread t's levels and an entry make s'
pub record RowStep {S : Type 0} (core : Core S) (count : ℕ → ℕ) (t : ℕ) (e : Entry) (after : List ℕ) (s next : RowsTold) : Type 0 where
  pub items : next.items ≡ s.items ++ shown_by core (length after) s.back e
  pub back : (u : ℕ) → next.back u ≡ words_after t s.back e u
  pub own : next.levels t ≡ map count (reverse after)
  pub others : (u : ℕ) → u ≢ t → next.levels u ≡ s.levels u
  pub left : (i : ℕ) → next.left i ≡ (s.left i && not (over count s.items e i))

abbrev IsUnseen : Entry → Type 0
IsUnseen unseen = Unit {0}
IsUnseen e = ⊥

and_true : (z : Bool) → z ≡ (z && true)
and_true true = refl
and_true false = refl

-- ---- levels that open or close

record LevelsMade (s next : RowsTold) (t : ℕ) (opened : List ℕ) : Type 0 where
  items : next.items ≡ s.items
  left : next.left ≡ s.left
  back : next.back ≡ s.back
  own : next.levels t ≡ opened
  others : (u : ℕ) → u ≢ t → next.levels u ≡ s.levels u

abbrev chosen : Bool → Bool → ℕ → ℕ → List RowCall
chosen z w t m = if z then opens_a_level t ∷ [] else if w then closes_levels t m ∷ [] else []

less_so : (n m : ℕ) → nat_lt n m ≡ true → n < m
less_so n m is = grind (arith, common_steps, nat_tests)

not_less : (n m : ℕ) → nat_lt n m ≡ false → m ≤ n
not_less n m is = grind (arith, common_steps, nat_tests)

shut_told : (s : RowsTold) (t n m : ℕ) → m ≤ n → length (s.levels t) ≡ n → LevelsMade s (after_row_calls (open_or_close_calls t n m) s) t (take m (s.levels t))
shut_told s t n m few count = by (nat_lt n m) refl (nat_lt m n) refl
  where
    by : (z : Bool) → nat_lt n m ≡ z → (w : Bool) → nat_lt m n ≡ w → LevelsMade s (after_row_calls (chosen z w t m) s) t (take m (s.levels t))
    by true more w is = absurd (too_many (less_so n m more))
      where
        too_many : n < m → ⊥
        too_many more = omega (arith, more, few)
    by false more true is = record { items = refl; left = refl; back = refl; own = set_at-hit s.levels t (take m (s.levels t)); others = λ u other. set_at-other s.levels t (take m (s.levels t)) u other }
    by false more false is = record { items = refl; left = refl; back = refl; own = sym (take_all m (s.levels t) (low (not_less m n is) count)); others = λ u other. refl }
      where
        low : {k : ℕ} → n ≤ m → k ≡ n → k ≤ m
        low few is = omega (arith, few, is)

open_told : (s : RowsTold) (t n m : ℕ) → m ≡ suc n → LevelsMade s (after_row_calls (open_or_close_calls t n m) s) t (s.levels t ++ length s.items ∷ [])
open_told s t n m more = by (nat_lt n m) refl
  where
    by : (z : Bool) → nat_lt n m ≡ z → LevelsMade s (after_row_calls (if z then opens_a_level t ∷ [] else if nat_lt m n then closes_levels t m ∷ [] else []) s) t (s.levels t ++ length s.items ∷ [])
    by true is = record { items = refl; left = refl; back = refl; own = set_at-hit s.levels t (s.levels t ++ length s.items ∷ []); others = λ u other. set_at-other s.levels t (s.levels t ++ length s.items ∷ []) u other }
    by false is = absurd (too_few (not_less n m is))
      where
        too_few : m ≤ n → ⊥
        too_few low = omega (arith, low, more)

-- ---- one act

module _ {S : Type 0} (core : Core S) (count : ℕ → ℕ) (k t : ℕ) (s : RowsTold) (before after : List ℕ) (counted : s.levels t ≡ map count (reverse before)) where
  abbrev next : Entry → RowsTold
  next e = after_row_calls (level_calls t (length before) (length after) e ++ entry_calls core t e) s

  has_length : length (s.levels t) ≡ length before
  has_length = ap length counted ∙ count_length count before

  -- an entry that doesn't go back
  entry_step : (e : Entry) → (IsGoBack e → ⊥) → (opened : List ℕ) → opened ≡ map count (reverse after)
      → ((z : RowsTold) → z.levels ≡ s.levels → (IsUnseen e → z.items ≡ s.items) → LevelsMade z (after_row_calls (open_or_close_calls t (length before) (length after)) z) t opened)
      → RowStep core count t e after s (next e)
  entry_step (silent u) other opened is told =
      let by = told s refl (λ _. refl) in
      let parts : next (silent u) ≡ after_row_calls (open_or_close_calls t (length before) (length after)) s = after_append (open_or_close_calls t (length before) (length after)) [] s in
      subst (RowStep core count t (silent u) after s) (sym parts)
      (record { items = by.items ∙ sym (append-nil s.items); back = λ u. ap (λ f. f u) by.back; own = by.own ∙ is; others = by.others; left = λ i. ap (λ f. f i) by.left ∙ and_true (s.left i) })
  entry_step (event u op reply) other opened is told =
      let z : RowsTold = after_row_calls (entry_calls core t (event u op reply)) s in
      let by = told z refl (λ un. absurd un) in
      let parts : next (event u op reply) ≡ after_row_calls (open_or_close_calls t (length before) (length after)) z = after_append (open_or_close_calls t (length before) (length after)) (entry_calls core t (event u op reply)) s in
      subst (RowStep core count t (event u op reply) after s) (sym parts) (record { items = by.items; back = λ u. ap (λ f. f u) by.back; own = by.own ∙ is; others = by.others; left = λ i. ap (λ f. f i) by.left ∙ and_true (s.left i) })
  entry_step (put_back r j v) other opened is told =
      let z : RowsTold = after_row_calls (entry_calls core t (put_back r j v)) s in
      let by = told z refl (λ un. absurd un) in
      let parts : next (put_back r j v) ≡ after_row_calls (open_or_close_calls t (length before) (length after)) z = after_append (open_or_close_calls t (length before) (length after)) (entry_calls core t (put_back r j v)) s in
      subst (RowStep core count t (put_back r j v) after s) (sym parts)
      (record { items = by.items ∙ sym (append-nil s.items); back = λ u. ap (λ f. f u) by.back; own = by.own ∙ is; others = by.others; left = λ i. ap (λ f. f i) by.left ∙ and_true (s.left i) })
  entry_step (give_back u r n) other opened is told =
      let by = told s refl (λ _. refl) in
      let parts : next (give_back u r n) ≡ after_row_calls (open_or_close_calls t (length before) (length after)) s = after_append (open_or_close_calls t (length before) (length after)) [] s in
      subst (RowStep core count t (give_back u r n) after s) (sym parts)
      (record { items = by.items ∙ sym (append-nil s.items); back = λ u. ap (λ f. f u) by.back; own = by.own ∙ is; others = by.others; left = λ i. ap (λ f. f i) by.left ∙ and_true (s.left i) })
  entry_step (go_back u p) other opened is told = absurd (other tt)
  entry_step unseen other opened is told =
      let by = told s refl (λ _. refl) in
      let parts : next unseen ≡ after_row_calls (open_or_close_calls t (length before) (length after)) s = after_append (open_or_close_calls t (length before) (length after)) [] s in
      subst (RowStep core count t unseen after s) (sym parts)
      (record { items = by.items ∙ sym (append-nil s.items); back = λ u. ap (λ f. f u) by.back; own = by.own ∙ is; others = by.others; left = λ i. ap (λ f. f i) by.left ∙ and_true (s.left i) })

  shut_step : (e : Entry) → (IsGoBack e → ⊥) → (m : ℕ) → m ≤ length before → after ≡ outermost m before → RowStep core count t e after s (next e)
  shut_step e other m few kept = entry_step e other (take (length after) (s.levels t))
      (ap (take (length after)) counted ∙ count_first count (length after) before fits ∙ ap (λ xs. map count (reverse xs)) (ap (λ n. outermost n before) long ∙ sym kept))
      (λ z same items. subst (λ f. LevelsMade z (after_row_calls (open_or_close_calls t (length before) (length after)) z) t (take (length after) (f t))) same
      (shut_told z t (length before) (length after) fits (ap (λ f. length (f t)) same ∙ has_length)))
    where
      long : length after ≡ m
      long = ap length kept ∙ length_outermost m before few

      fits : length after ≤ length before
      fits = subst (λ n. n ≤ length before) (sym long) few

  open_step : (e : Entry) → e ≡ unseen → after ≡ k ∷ before → count k ≡ length s.items → RowStep core count t e after s (next e)
  open_step e is kept at = subst (λ x. RowStep core count t x after s (next x)) (sym is) (entry_step unseen (λ go. go) (s.levels t ++ length s.items ∷ [])
      (ap (λ xs. xs ++ length s.items ∷ []) counted ∙ ap (λ n. map count (reverse before) ++ n ∷ []) (sym at) ∙ count_more count k before ∙ ap (λ xs. map count (reverse xs)) (sym kept))
      (λ z same items. subst (λ f. LevelsMade z (after_row_calls (open_or_close_calls t (length before) (length after)) z) t (f t ++ length s.items ∷ [])) same
      (subst (λ xs. LevelsMade z (after_row_calls (open_or_close_calls t (length before) (length after)) z) t (z.levels t ++ length xs ∷ [])) (items tt) (open_told z t (length before) (length after) (ap length kept)))))

  undo_step : (m p : ℕ) → m < length before → after ≡ outermost m before → slice_get before (length before - suc m) ≡ Some p → RowStep core count t (go_back t p) after s (next (go_back t p))
  undo_step m p low kept opened = record {
    items = refl;
    back = λ u. refl;
    own = set_at-hit s.levels t (take (length after) (s.levels t)) ∙ ap (λ n. take n (s.levels t)) long ∙ ap (take m) counted ∙ count_first count m before (upto low) ∙ ap (λ xs. map count (reverse xs)) (sym kept);
    others = λ u other. set_at-other s.levels t (take (length after) (s.levels t)) u other;
    left = λ i. ap (λ o. s.left i && not (is_event_of t (slice_get s.items i) && is_since o i)) (ap (slice_get (s.levels t)) long ∙ ap (λ xs. slice_get xs m) counted ∙ count_nth count m p before low opened);
  }
    where
      upto : m < length before → m ≤ length before
      upto low = omega (arith, low)

      long : length after ≡ m
      long = ap length kept ∙ length_outermost m before (upto low)

  pub row_step : (e : Entry) → count k ≡ length s.items → LevelStep k t e before after → RowStep core count t e after s (next e)
  row_step e at (levels_shut other m few kept) = shut_step e other m few kept
  row_step e at (level_opens is kept) = open_step e is kept at
  row_step e at (levels_undone m p is low kept opened) = subst (λ x. RowStep core count t x after s (next x)) (sym is) (undo_step m p low kept opened)

-- ---- along the run

module _ {S : Type 0} (code : Code S) (b : Bounds) (first : S) (classes : ℕ) (c : ℕ → Core S) (acts : List Act) (es : List Entry) (doomed : ℕ → Bool)
    (shown : IsShownRun code b first classes c acts es doomed) where
  abbrev pub rows : ℕ → RowsTold
  rows k = rows_at c acts es k

  -- how many items there are when k acts were made
  abbrev pub count : ℕ → ℕ
  count k = length (rows k).items

  pub entry_there : (k : ℕ) → k < length acts → (e : Entry) × (slice_get es k ≡ Some e)
  entry_there k within = let x = get_some acts k within in let found = entry_at code b c acts es k x.0 shown.shows x.1 in (found.0, found.1)

  abbrev pub mover_of : {k : ℕ} {e : Entry} → StepAt code b first classes c acts es doomed shown k e → ℕ
  mover_of step = mover (Some step.act)

  rows_are : (k : ℕ) (e : Entry) → slice_get es k ≡ Some e → (step : StepAt code b first classes c acts es doomed shown k e) → rows (suc k) ≡ after_row_calls (calls_by c k (mover (Some step.act)) e) (rows k)
  rows_are k e entry step = ap (λ o. after_row_calls (calls_at c k o (slice_get es k)) (rows k)) step.here ∙ ap (λ o. after_row_calls (calls_at c k (Some step.act) o) (rows k)) entry

  abbrev pub AreCounted : ℕ → Type 0
  AreCounted k = (u : ℕ) → (rows k).levels u ≡ map count (reverse ((c k).levels u))

  pub row_at : (k : ℕ) (e : Entry) → slice_get es k ≡ Some e → (step : StepAt code b first classes c acts es doomed shown k e) → AreCounted k
      → RowStep (c k) count (mover (Some step.act)) e ((c (suc k)).levels (mover (Some step.act))) (rows k) (rows (suc k))
  row_at k e entry step counted =
      subst (RowStep (c k) count (mover (Some step.act)) e ((c (suc k)).levels (mover (Some step.act))) (rows k)) (sym (rows_are k e entry step))
      (row_step (c k) count k (mover (Some step.act)) (rows k) ((c k).levels (mover (Some step.act))) ((c (suc k)).levels (mover (Some step.act))) (counted (mover (Some step.act))) e refl step.level)

  next_counted : (k : ℕ) (e : Entry) → slice_get es k ≡ Some e → (step : StepAt code b first classes c acts es doomed shown k e) → AreCounted k → AreCounted (suc k)
  next_counted k e entry step counted u = elim (same_or_other u (mover (Some step.act))) [
    | inl own ↦ ap (rows (suc k)).levels own ∙ row.own ∙ ap (λ n. map count (reverse ((c (suc k)).levels n))) (sym own)
    | inr other ↦ row.others u other ∙ counted u ∙ ap (λ xs. map count (reverse xs)) (sym (step.others u other))
  ]
    where
      row : RowStep (c k) count (mover (Some step.act)) e ((c (suc k)).levels (mover (Some step.act))) (rows k) (rows (suc k))
      row = row_at k e entry step counted

  pub counted_at : (k : ℕ) → k ≤ length acts → AreCounted k
  counted_at zero within = λ u. ap (λ xs. map count (reverse xs)) (sym (shown.levelled.closed u))
  counted_at (suc k) within = let found = entry_there k within in
      next_counted k found.0 found.1 (step_at code b first classes c acts es doomed shown k found.0 found.1) (counted_at k (lower within))
    where
      lower : suc k ≤ length acts → k ≤ length acts
      lower within = omega (arith, within)

  pub step_of : (k : ℕ) → k < length acts → (e : Entry) × (slice_get es k ≡ Some e) × StepAt code b first classes c acts es doomed shown k e
  step_of k within = let found = entry_there k within in (found.0, found.1, step_at code b first classes c acts es doomed shown k found.0 found.1)
