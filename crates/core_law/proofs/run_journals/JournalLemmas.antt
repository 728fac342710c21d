-- Journals, from the front and place by place.
use Rattle.std.proofs.Common.{◌≡◌, ℕ, zero, suc, ◌+◌, ◌<◌, ◌≤◌, Bool, true, false, Option, None, Some, List, [], ◌∷◌, ◌++◌, length, drop, slice_get, append_assoc, append-nil, arith, refl, sym, ◌∙◌, ap}
use Rattle.std.specs.Prelude.{if◌then◌else◌}
use Rattle.op_core.specs.OrdinaryState.{set_at}
use Rattle.op_core.specs.InPlaceList.{Entry, silent, event, put_back, give_back, go_back, unseen}
use Rattle.op_core.specs.CleanCut.{kept_from}
use Rattle.trace_journal.specs.declared.item.JournalItem.{JournalItem}
use Rattle.trace_journal.specs.declared.item.JournalItem.TheVariants.{Event as event_item, Undone}
use Rattle.trace_journal.specs.Text.{events_in}
use Rattle.core_runs.specs.Cores.{Core}
use Rattle.core_runs.specs.Acts.{Act, mover}
use Rattle.core_law.specs.Journal.{journal_from, run_journal}
use Rattle.core_law.specs.JournalLaws.{JournalsHaveEvents}

if_in : {A B : Type 0} (f : A → B) (z : Bool) (x y : A) → f (if z then x else y) ≡ (if z then f x else f y)
if_in f true x y = refl
if_in f false x y = refl

-- ---- events

module _ {S : Type 0} (c : ℕ → Core S) (cut : ℕ → Bool) where
  events_from : (acts : List Act) (es : List Entry) (k : ℕ) (silents back : ℕ → ℕ) → length es ≡ length acts → events_in (journal_from c cut k silents back acts es) ≡ kept_from cut k silents es
  events_from [] [] k silents back count = refl
  events_from [] (e ∷ es) k silents back count = absurd (omega (arith, count))
  events_from (x ∷ acts) [] k silents back count = absurd (omega (arith, count))
  events_from (x ∷ acts) (silent t ∷ es) k silents back count = events_from acts es (suc k) (if cut k then silents else set_at silents t (suc (silents t))) back (omega (arith, count))
  events_from (x ∷ acts) (event t op reply ∷ es) k silents back count =
      by_cut (cut k) (events_from acts es (suc k) silents back (omega (arith, count))) (events_from acts es (suc k) (set_at silents t 0) back (omega (arith, count)))
    where
      by_cut : (z : Bool) → events_in (journal_from c cut (suc k) silents back acts es) ≡ kept_from cut (suc k) silents es
          → events_in (journal_from c cut (suc k) (set_at silents t 0) back acts es) ≡ kept_from cut (suc k) (set_at silents t 0) es
          → events_in (if z then journal_from c cut (suc k) silents back acts es
          else (event_item (record { thread = t; silent = silents t; op = op; reply = reply }) ∷ journal_from c cut (suc k) (set_at silents t 0) back acts es))
          ≡ (if z then kept_from cut (suc k) silents es else (record { thread = t; silent = silents t; op = op; reply = reply } ∷ kept_from cut (suc k) (set_at silents t 0) es))
      by_cut true out kept = out
      by_cut false out kept = ap (λ events. record { thread = t; silent = silents t; op = op; reply = reply } ∷ events) kept
  events_from (x ∷ acts) (put_back r i v ∷ es) k silents back count = events_from acts es (suc k) silents (set_at back (mover (Some x)) (suc (back (mover (Some x))))) (omega (arith, count))
  events_from (x ∷ acts) (give_back t r n ∷ es) k silents back count = events_from acts es (suc k) silents back (omega (arith, count))
  events_from (x ∷ acts) (go_back t p ∷ es) k silents back count = events_from acts es (suc k) silents (set_at back t 0) (omega (arith, count))
  events_from (x ∷ acts) (unseen ∷ es) k silents back count = events_from acts es (suc k) silents back (omega (arith, count))

pub journals_have_events : (S : Type 0) → JournalsHaveEvents S
journals_have_events S c cut acts es count = events_from c cut acts es 0 (λ _. 0) (λ _. 0) count

-- ---- place by place

module _ {S : Type 0} (c : ℕ → Core S) (cut : ℕ → Bool) where
  -- what an entry makes of the silent moves that are left
  abbrev pub silents_after : ℕ → (ℕ → ℕ) → Entry → ℕ → ℕ
  silents_after k silents (silent t) = if cut k then silents else set_at silents t (suc (silents t))
  silents_after k silents (event t op reply) = if cut k then silents else set_at silents t 0
  silents_after k silents e = silents

  -- and of the words that were put back
  abbrev pub back_after : ℕ → (ℕ → ℕ) → Entry → ℕ → ℕ
  back_after t back (put_back r i v) = set_at back t (suc (back t))
  back_after t back (go_back u p) = set_at back u 0
  back_after t back e = back

  -- what it puts into the journal
  abbrev pub items_by : ℕ → (ℕ → ℕ) → (ℕ → ℕ) → Entry → List JournalItem
  items_by k silents back (event t op reply) = if cut k then [] else (event_item (record { thread = t; silent = silents t; op = op; reply = reply }) ∷ [])
  items_by k silents back (go_back t p) = Undone t (length ((c (suc k)).levels t) + 1) (back t) ∷ []
  items_by k silents back e = []

  one_from : (x : Act) (e : Entry) (acts : List Act) (es : List Entry) (k : ℕ) (silents back : ℕ → ℕ)
      → journal_from c cut k silents back (x ∷ acts) (e ∷ es) ≡ items_by k silents back e ++ journal_from c cut (suc k) (silents_after k silents e) (back_after (mover (Some x)) back e) acts es
  one_from x (silent t) acts es k silents back = refl
  one_from x (event t op reply) acts es k silents back = by_cut (cut k)
    where
      by_cut : (z : Bool) → (if z then journal_from c cut (suc k) silents back acts es
          else (event_item (record { thread = t; silent = silents t; op = op; reply = reply }) ∷ journal_from c cut (suc k) (set_at silents t 0) back acts es))
          ≡ (if z then [] else (event_item (record { thread = t; silent = silents t; op = op; reply = reply }) ∷ [])) ++ journal_from c cut (suc k) (if z then silents else set_at silents t 0) back acts es
      by_cut true = refl
      by_cut false = refl
  one_from x (put_back r i v) acts es k silents back = refl
  one_from x (give_back t r n) acts es k silents back = refl
  one_from x (go_back t p) acts es k silents back = refl
  one_from x unseen acts es k silents back = refl

  module _ (acts : List Act) (es : List Entry) where
    abbrev pub silents_with : ℕ → (ℕ → ℕ) → Option Entry → ℕ → ℕ
    silents_with k silents None = silents
    silents_with k silents (Some e) = silents_after k silents e

    abbrev pub back_with : Option Act → (ℕ → ℕ) → Option Entry → ℕ → ℕ
    back_with x back None = back
    back_with x back (Some e) = back_after (mover x) back e

    abbrev pub items_with : ℕ → (ℕ → ℕ) → (ℕ → ℕ) → Option Entry → List JournalItem
    items_with k silents back None = []
    items_with k silents back (Some e) = items_by k silents back e

    abbrev pub silents_at : ℕ → ℕ → ℕ
    silents_at zero = λ _. 0
    silents_at (suc k) = silents_with k (silents_at k) (slice_get es k)

    abbrev pub back_at : ℕ → ℕ → ℕ
    back_at zero = λ _. 0
    back_at (suc k) = back_with (slice_get acts k) (back_at k) (slice_get es k)

    abbrev pub journal_to : ℕ → List JournalItem
    journal_to zero = []
    journal_to (suc k) = journal_to k ++ items_with k (silents_at k) (back_at k) (slice_get es k)

    drop_at : {A : Type 0} (xs : List A) (k : ℕ) (x : A) → slice_get xs k ≡ Some x → drop k xs ≡ x ∷ drop (suc k) xs
    drop_at [] k x at = absurd (cc)
    drop_at (y ∷ xs) zero x at = let same : y ≡ x = cc in ap (λ z. z ∷ xs) same
    drop_at (y ∷ xs) (suc k) x at = drop_at xs k x at

    split_at : (k : ℕ) → k ≤ length acts → length es ≡ length acts → ((j : ℕ) → j < length acts → (x : Act) × (e : Entry) × (slice_get acts j ≡ Some x) × (slice_get es j ≡ Some e))
        → run_journal c cut acts es ≡ journal_to k ++ journal_from c cut k (silents_at k) (back_at k) (drop k acts) (drop k es)
    split_at zero within count each = refl
    split_at (suc k) within count each = step (each k (low within)) (split_at k (lower within) count each)
      where
        low : suc k ≤ length acts → k < length acts
        low within = omega (arith, within)

        lower : suc k ≤ length acts → k ≤ length acts
        lower within = omega (arith, within)

        step : (x : Act) × (e : Entry) × (slice_get acts k ≡ Some x) × (slice_get es k ≡ Some e)
            → run_journal c cut acts es ≡ journal_to k ++ journal_from c cut k (silents_at k) (back_at k) (drop k acts) (drop k es)
            → run_journal c cut acts es ≡ (journal_to k ++ items_with k (silents_at k) (back_at k) (slice_get es k))
            ++ journal_from c cut (suc k) (silents_with k (silents_at k) (slice_get es k)) (back_with (slice_get acts k) (back_at k) (slice_get es k)) (drop (suc k) acts) (drop (suc k) es)
        step (x, e, act_is, entry_is) before =
            before ∙ ap (λ xs. journal_to k ++ journal_from c cut k (silents_at k) (back_at k) xs (drop k es)) (drop_at acts k x act_is)
            ∙ ap (λ xs. journal_to k ++ journal_from c cut k (silents_at k) (back_at k) (x ∷ drop (suc k) acts) xs) (drop_at es k e entry_is)
            ∙ ap (λ xs. journal_to k ++ xs) (one_from x e (drop (suc k) acts) (drop (suc k) es) k (silents_at k) (back_at k))
            ∙ sym (append_assoc (journal_to k) (items_by k (silents_at k) (back_at k) e) (journal_from c cut (suc k) (silents_after k (silents_at k) e) (back_after (mover (Some x)) (back_at k) e) (drop (suc k) acts) (drop (suc k) es)))
            ∙ ap (λ o. (journal_to k ++ items_with k (silents_at k) (back_at k) o)
            ++ journal_from c cut (suc k) (silents_with k (silents_at k) o) (back_with (Some x) (back_at k) o) (drop (suc k) acts) (drop (suc k) es)) (sym entry_is)
            ∙ ap (λ o. (journal_to k ++ items_with k (silents_at k) (back_at k) (slice_get es k))
            ++ journal_from c cut (suc k) (silents_with k (silents_at k) (slice_get es k)) (back_with o (back_at k) (slice_get es k)) (drop (suc k) acts) (drop (suc k) es)) (sym act_is)

    drop_end : {A : Type 0} (xs : List A) (n : ℕ) → length xs ≡ n → drop n xs ≡ []
    drop_end [] n is = ap (λ m. drop m []) (sym is)
    drop_end (x ∷ xs) n is = ap (λ m. drop m (x ∷ xs)) (sym is) ∙ drop_end xs (length xs) refl

    pub journal_is : length es ≡ length acts → ((j : ℕ) → j < length acts → (x : Act) × (e : Entry) × (slice_get acts j ≡ Some x) × (slice_get es j ≡ Some e))
        → run_journal c cut acts es ≡ journal_to (length acts)
    journal_is count each = split_at (length acts) (omega arith) count each
        ∙ ap (λ xs. journal_to (length acts) ++ journal_from c cut (length acts) (silents_at (length acts)) (back_at (length acts)) xs (drop (length acts) es)) (drop_end acts (length acts) refl)
        ∙ append-nil (journal_to (length acts))
