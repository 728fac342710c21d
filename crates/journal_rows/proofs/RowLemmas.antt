-- Rows in memory are those of what was told.
use Rattle.std.proofs.Common.{◌≡◌, ◌≢◌, inl, inr, ℕ, zero, suc, ◌+◌, ◌<◌, ◌≤◌, ◌&&◌, Bool, true, false, not, Option, None, Some, List, [], ◌∷◌, ◌++◌, length, take, slice_get, slice_set, arith, refl, sym, ◌∙◌, ap, subst}
use Rattle.std.specs.Prelude.{nat_eq, nat_le, if◌then◌else◌}
use Rattle.std.proofs.lemmas.Grind.{common_steps}
use Rattle.std.proofs.lemmas.Bool.Decides.{nat_tests}
use Rattle.std.proofs.lemmas.List.{length-set}
use Rattle.std.proofs.lemmas.Option.{same_Some, slice_get_past, slice_get_within}
use Rattle.op_core.specs.declared.Event.{Event}
use Rattle.op_core.specs.OrdinaryState.{set_at}
use Rattle.op_core.proofs.PointwiseLemmas.{set_at-hit, set_at-other}
use Rattle.trace_journal.specs.declared.item.JournalItem.{JournalItem}
use Rattle.trace_journal.specs.declared.item.JournalItem.TheVariants.{Event as event_item, Undone}
use Rattle.journal_rows.specs.declared.thread_rows.ThreadRows.{ThreadRows}
use Rattle.journal_rows.specs.Leaving.{none_open, kept_while_open, from_below, marked_from, from_opened, marked_since}
use Rattle.journal_rows.specs.Rows.{numbers_below, is_listed, listed_since, OpenedWithin, IsThreadOf, AreItemsTold, AreFresh}
use Rattle.journal_rows.specs.Told.{RowsTold, nothing_told, is_event_of, is_since, with_levels_out, with_undoing, after_row_call, event_came, opens_a_level, closes_levels, puts_word_back}
use Rattle.journal_rows.proofs.NumberLemmas.{is_at_least, is_below, at_least_is, below_same, none_below, cut_below, not_marked, is_marked}
use Rattle.journal_rows.proofs.ThreadLemmas.{get_more, get_last, last_or, all_put, at_other, at_own, parts_more, own_is, other_is, with_item}

-- ---- what each call makes

pub parts_new : (rows : List ThreadRows) → AreFresh rows → AreItemsTold [] [] rows nothing_told
parts_new rows new = record {
  items = refl;
  count = refl;
  left = λ i low. absurd (omega (arith, low));
  later = λ i past. refl;
  threads = λ t x at. let is = new t x at in record { opened = is.0; back = is.1; events = is.2; within = tt };
}

module _ (all : List JournalItem) (flags : List Bool) (rows : List ThreadRows) (s : RowsTold) (are : AreItemsTold all flags rows s) where
  fresh : s.left (length s.items) ≡ true
  fresh = are.later (length s.items) (omega arith)

  pub event_parts : (e : Event) (x y : ThreadRows) → slice_get rows e.thread ≡ Some x → y.opened.items ≡ x.opened.items → y.back ≡ x.back
      → y.events ≡ (if none_open x.opened.items then x.events else length all ∷ x.events)
      → AreItemsTold (all ++ event_item e ∷ []) (flags ++ true ∷ []) (slice_set rows e.thread y) (after_row_call (event_came e) s)
  event_parts e x y at opened back events = parts_more s (event_item e) fresh all flags rows (slice_set rows e.thread y) are
      (all_put (IsThreadOf (with_item s (event_item e) fresh)) rows e.thread y
      (λ u z other there. at_other s (event_item e) fresh u z (other_is e.thread u other) (are.threads u z there))
      (at_own s (event_item e) fresh e.thread x y (own_is e.thread) (are.threads e.thread x at) opened back
      (events ∙ ap (λ n. if none_open x.opened.items then x.events else n ∷ x.events) (ap length are.items))))

  -- nothing changes for a thread whose levels, words and events stay
  same_thread : (left : ℕ → Bool) (levels : ℕ → List ℕ) (back : ℕ → ℕ) (u : ℕ) (z : ThreadRows) → levels u ≡ s.levels u → back u ≡ s.back u
      → ((i : ℕ) → is_event_of u (slice_get s.items i) ≡ true → left i ≡ s.left i) → IsThreadOf s u z → IsThreadOf (record s { left = left; levels = levels; back = back }) u z
  same_thread left levels back u z same_levels same_back same_left is = record {
    opened = is.opened ∙ sym same_levels;
    back = is.back ∙ sym same_back;
    events = is.events ∙ ap (listed_since s u) (sym same_levels) ∙ listed (levels u);
    within = subst (OpenedWithin (length s.items)) (sym same_levels) is.within;
  }
    where
      same_test : (a e : Bool) (l m : Bool) → (e ≡ true → m ≡ l) → ((a && e) && l) ≡ ((a && e) && m)
      same_test true true l m same = sym (same refl)
      same_test true false l m same = refl
      same_test false e l m same = refl

      listed : (opened : List ℕ) → listed_since s u opened ≡ listed_since (record s { left = left; levels = levels; back = back }) u opened
      listed [] = refl
      listed (first ∷ opened) = below_same (is_listed s u first) (is_listed (record s { left = left; levels = levels; back = back }) u first) (length s.items)
          (λ i low. same_test (nat_le first i) (is_event_of u (slice_get s.items i)) (s.left i) (left i) (same_left i))

  -- a thread's levels are others
  with_levels_at : (t : ℕ) (opened : List ℕ) (y : ThreadRows) → IsThreadOf (record s { levels = set_at s.levels t opened }) t y → AreItemsTold all flags (slice_set rows t y) (record s { levels = set_at s.levels t opened })
  with_levels_at t opened y is = record {
    items = are.items;
    count = are.count;
    left = are.left;
    later = are.later;
    threads = all_put (IsThreadOf (record s { levels = set_at s.levels t opened })) rows t y
        (λ u z other there. same_thread s.left (set_at s.levels t opened) s.back u z (set_at-other s.levels t opened u other) refl (λ i is. refl) (are.threads u z there)) is;
  }

  thread_with : (t : ℕ) (opened : List ℕ) (y : ThreadRows) → y.opened.items ≡ opened → y.back ≡ s.back t → y.events ≡ listed_since s t opened → OpenedWithin (length s.items) opened
      → IsThreadOf (record s { levels = set_at s.levels t opened }) t y
  thread_with t opened y is back events within = record {
    opened = is ∙ sym here;
    back = back;
    events = events ∙ ap (listed_since s t) (sym here);
    within = subst (OpenedWithin (length s.items)) (sym here) within;
  }
    where
      here : set_at s.levels t opened t ≡ opened
      here = set_at-hit s.levels t opened

  pub opened_parts : (t : ℕ) (x y : ThreadRows) → slice_get rows t ≡ Some x → y.opened.items ≡ x.opened.items ++ length all ∷ [] → y.back ≡ x.back → y.events ≡ x.events
      → AreItemsTold all flags (slice_set rows t y) (after_row_call (opens_a_level t) s)
  opened_parts t x y at opened back events = with_levels_at t (s.levels t ++ length s.items ∷ []) y (thread_with t (s.levels t ++ length s.items ∷ []) y
      (opened ∙ ap (λ n. x.opened.items ++ n ∷ []) (ap length are.items) ∙ ap (λ xs. xs ++ length s.items ∷ []) was.opened) (back ∙ was.back)
      (events ∙ was.events ∙ listed (s.levels t)) (within (s.levels t) was.within))
    where
      was : IsThreadOf s t x
      was = are.threads t x at

      not_yet : (a e l : Bool) → a ≡ false → ((a && e) && l) ≡ false
      not_yet true e l lacks = absurd (cc)
      not_yet false e l lacks = refl

      listed : (levels : List ℕ) → listed_since s t levels ≡ listed_since s t (levels ++ length s.items ∷ [])
      listed [] = sym (none_below (is_listed s t (length s.items)) (length s.items)
          (λ i low. not_yet (nat_le (length s.items) i) (is_event_of t (slice_get s.items i)) (s.left i) (too_high i (length s.items) low)))
        where
          too_high : (i n : ℕ) → i < n → nat_le n i ≡ false
          too_high i n low = grind (arith, common_steps, nat_tests)
      listed (first ∷ levels) = refl

      within : (levels : List ℕ) → OpenedWithin (length s.items) levels → OpenedWithin (length s.items) (levels ++ length s.items ∷ [])
      within [] is = (omega arith, λ k opened at. absurd (cc))
      within (first ∷ levels) (least, rest) = (
        least,
        λ k opened at. elim (last_or k levels (length s.items) (slice_get_within (levels ++ length s.items ∷ []) k opened at)) [
          | inl lower ↦ rest k opened (sym (get_more levels (length s.items) k lower) ∙ at)
          | inr here ↦
              let same : opened ≡ length s.items = same_Some opened (length s.items) (sym at ∙ ap (slice_get (levels ++ length s.items ∷ [])) here ∙ get_last levels (length s.items)) in
              (omega (arith, same, least), omega (arith, same))
        ],
      )

  get_take : (n : ℕ) (xs : List ℕ) (k x : ℕ) → slice_get (take n xs) k ≡ Some x → slice_get xs k ≡ Some x
  get_take zero xs k x at = absurd (cc)
  get_take (suc n) [] k x at = absurd (cc)
  get_take (suc n) (y ∷ xs) zero x at = at
  get_take (suc n) (y ∷ xs) (suc k) x at = get_take n xs k x at

  within_take : (m n : ℕ) (levels : List ℕ) → OpenedWithin m levels → OpenedWithin m (take n levels)
  within_take m zero levels is = tt
  within_take m (suc n) [] is = tt
  within_take m (suc n) (first ∷ levels) (least, rest) = (least, λ k opened at. rest k opened (get_take n levels k opened at))

  pub closed_parts : (t n : ℕ) (x y : ThreadRows) → slice_get rows t ≡ Some x → y.opened.items ≡ take n x.opened.items → y.back ≡ x.back → y.events ≡ kept_while_open (take n x.opened.items) x.events
      → AreItemsTold all flags (slice_set rows t y) (after_row_call (closes_levels t n) s)
  closed_parts t n x y at opened back events = with_levels_at t (take n (s.levels t)) y (thread_with t (take n (s.levels t)) y (opened ∙ ap (take n) was.opened) (back ∙ was.back)
      (events ∙ ap (λ levels. kept_while_open (take n levels) x.events) was.opened ∙ ap (kept_while_open (take n (s.levels t))) was.events ∙ listed n (s.levels t))
      (within_take (length s.items) n (s.levels t) was.within))
    where
      was : IsThreadOf s t x
      was = are.threads t x at

      listed : (n : ℕ) (levels : List ℕ) → kept_while_open (take n levels) (listed_since s t levels) ≡ listed_since s t (take n levels)
      listed zero levels = refl
      listed (suc n) [] = refl
      listed (suc n) (first ∷ levels) = refl

  -- how many words it has put back is another number
  pub back_set : (t v : ℕ) (x y : ThreadRows) → slice_get rows t ≡ Some x → y.opened.items ≡ x.opened.items → y.events ≡ x.events → y.back ≡ v
      → AreItemsTold all flags (slice_set rows t y) (record s { back = set_at s.back t v })
  back_set t v x y at opened events back = record {
    items = are.items;
    count = are.count;
    left = are.left;
    later = are.later;
    threads = all_put (IsThreadOf (record s { back = set_at s.back t v })) rows t y
        (λ u z other there. same_thread s.left s.levels (set_at s.back t v) u z refl (set_at-other s.back t v u other) (λ i is. refl) (are.threads u z there))
        (record { opened = opened ∙ was.opened; back = back ∙ sym (set_at-hit s.back t v); events = events ∙ was.events; within = was.within });
  }
    where
      was : IsThreadOf s t x
      was = are.threads t x at

  -- ---- what a thread did in levels isn't left

  module _ (t n : ℕ) (x y : ThreadRows) (at : slice_get rows t ≡ Some x) (opened : y.opened.items ≡ take n x.opened.items) (back : y.back ≡ x.back) where
    was : IsThreadOf s t x
    was = are.threads t x at

    abbrev new : RowsTold
    new = with_levels_out t n s

    other_event : (o : Option JournalItem) (u : ℕ) → u ≢ t → is_event_of u o ≡ true → is_event_of t o ≡ false
    other_event None u other is = refl
    other_event (Some (event_item e)) u other is = apart e.thread u t other is
      where
        apart : (a u t : ℕ) → u ≢ t → nat_eq a u ≡ true → nat_eq a t ≡ false
        apart a u t other is = grind (arith, common_steps, nat_tests)
    other_event (Some (Undone a l w)) u other is = refl

    stays : (l e w : Bool) → e ≡ false → (l && not (e && w)) ≡ l
    stays true true w lacks = absurd (cc)
    stays true false w lacks = refl
    stays false e w lacks = refl

    none_out : (l e : Bool) → (l && not (e && false)) ≡ l
    none_out true true = refl
    none_out true false = refl
    none_out false e = refl

    -- beside the flags and the events of the thread all is as it has to be
    out_by : (marks : List Bool) → length marks ≡ length s.items → ((i : ℕ) → i < length s.items → slice_get marks i ≡ Some (new.left i))
        → y.events ≡ listed_since new t (take n (s.levels t)) → AreItemsTold all marks (slice_set rows t y) new
    out_by marks count left events = record {
      items = are.items;
      count = count;
      left = left;
      later = λ i past. ap (λ o. s.left i && not (is_event_of t o && is_since (slice_get (s.levels t) n) i)) (slice_get_past s.items i past) ∙ stays (s.left i) false (is_since (slice_get (s.levels t) n) i) refl ∙ are.later i past;
      threads = all_put (IsThreadOf new) rows t y
          (λ u z other there. same_thread new.left new.levels s.back u z (set_at-other s.levels t (take n (s.levels t)) u other) refl
          (λ i is. stays (s.left i) (is_event_of t (slice_get s.items i)) (is_since (slice_get (s.levels t) n) i) (other_event (slice_get s.items i) u other is)) (are.threads u z there))
          (record {
            opened = opened ∙ ap (take n) was.opened ∙ sym here;
            back = back ∙ was.back;
            events = events ∙ ap (listed_since new t) (sym here);
            within = subst (OpenedWithin (length s.items)) (sym here) (within_take (length s.items) n (s.levels t) was.within);
          });
    }
      where
        here : set_at s.levels t (take n (s.levels t)) t ≡ take n (s.levels t)
        here = set_at-hit s.levels t (take n (s.levels t))

    take_all : (k : ℕ) (levels : List ℕ) → slice_get levels k ≡ None → take k levels ≡ levels
    take_all zero [] lacks = refl
    take_all zero (first ∷ levels) lacks = absurd (cc)
    take_all (suc k) [] lacks = refl
    take_all (suc k) (first ∷ levels) lacks = ap (λ xs. first ∷ xs) (take_all k levels lacks)

    -- there is no such level
    out_none : slice_get (s.levels t) n ≡ None → y.events ≡ x.events → AreItemsTold all flags (slice_set rows t y) new
    out_none lacks events = out_by flags are.count (λ i low. are.left i low ∙ ap Some (sym (same_left i)))
        (events ∙ was.events ∙ ap (listed_since s t) (sym (take_all n (s.levels t) lacks)) ∙ listed (take n (s.levels t)))
      where
        same_left : (i : ℕ) → new.left i ≡ s.left i
        same_left i = ap (λ o. s.left i && not (is_event_of t (slice_get s.items i) && is_since o i)) lacks ∙ none_out (s.left i) (is_event_of t (slice_get s.items i))

        listed : (levels : List ℕ) → listed_since s t levels ≡ listed_since new t levels
        listed [] = refl
        listed (first ∷ levels) = below_same (is_listed s t first) (is_listed new t first) (length s.items) (λ i low. ap (λ l. (nat_le first i && is_event_of t (slice_get s.items i)) && l) (sym (same_left i)))

    -- the level is there: of those that are open, the first opened first
    out_some : (first m : ℕ) (levels : List ℕ) → s.levels t ≡ first ∷ levels → slice_get (first ∷ levels) n ≡ Some m → first ≤ m
        → y.events ≡ from_below m x.events → AreItemsTold all (marked_from m x.events flags) (slice_set rows t y) new
    out_some first m levels open_now level least events = out_by (marked_from m x.events flags) (marked_length (x.events) flags ∙ are.count) flagged
        (events ∙ ap (from_below m) listed ∙ cut_below test m (length s.items) ∙ kept n level ∙ ap (λ xs. listed_since new t (take n xs)) (sym open_now))
      where
        test : ℕ → Bool
        test i = (nat_le first i && is_event_of t (slice_get s.items i)) && s.left i

        listed : x.events ≡ numbers_below (is_listed s t first) (length s.items)
        listed = was.events ∙ ap (listed_since s t) open_now

        new_left : (i : ℕ) → new.left i ≡ (s.left i && not (is_event_of t (slice_get s.items i) && nat_le m i))
        new_left i = ap (λ o. s.left i && not (is_event_of t (slice_get s.items i) && is_since o i)) (ap (λ xs. slice_get xs n) open_now ∙ level)

        marked_length : (numbers : List ℕ) (marks : List Bool) → length (marked_from m numbers marks) ≡ length marks
        marked_length [] marks = refl
        marked_length (i ∷ numbers) marks = by_test (nat_le m i) (marked_length numbers (slice_set marks i false))
          where
            by_test : (z : Bool) → length (marked_from m numbers (slice_set marks i false)) ≡ length (slice_set marks i false) → length (if z then marked_from m numbers (slice_set marks i false) else marks) ≡ length marks
            by_test true rest = rest ∙ length-set marks i false
            by_test false rest = refl

        flagged : (i : ℕ) → i < length s.items → slice_get (marked_from m x.events flags) i ≡ Some (new.left i)
        flagged i low = ap (λ xs. slice_get (marked_from m xs flags) i) listed ∙ by (is_event_of t (slice_get s.items i)) refl (nat_le m i) refl (s.left i) refl ∙ ap Some (sym (new_left i))
          where
            passes : (a e l : Bool) → a ≡ true → e ≡ true → l ≡ true → ((a && e) && l) ≡ true
            passes a e l first_so event_so left_so = ap (λ z. (z && e) && l) first_so ∙ ap (λ z. (true && z) && l) event_so ∙ left_so

            no_event : (a l : Bool) → ((a && false) && l) ≡ true → ⊥
            no_event true l passing = cc
            no_event false l passing = cc

            not_left : (a e : Bool) → ((a && e) && false) ≡ true → ⊥
            not_left true true passing = cc
            not_left true false passing = cc
            not_left false e passing = cc

            reach : first ≤ m → m ≤ i → first ≤ i
            reach one two = omega (arith, one, two)

            too_low : nat_le m i ≡ false → m ≤ i → ⊥
            too_low lacks up = let under = is_below m i lacks in omega (arith, under, up)

            at_test : (e l : Bool) → is_event_of t (slice_get s.items i) ≡ e → s.left i ≡ l → is_listed s t first i ≡ true → ((nat_le first i && e) && l) ≡ true
            at_test e l event_is left_is passing = sym (ap (λ z. (nat_le first i && z) && s.left i) event_is ∙ ap (λ z. (nat_le first i && e) && z) left_is) ∙ passing

            by : (e : Bool) → is_event_of t (slice_get s.items i) ≡ e → (w : Bool) → nat_le m i ≡ w → (l : Bool) → s.left i ≡ l
                → slice_get (marked_from m (numbers_below (is_listed s t first) (length s.items)) flags) i ≡ Some (l && not (e && w))
            by true event_is true up true left_is = is_marked (is_listed s t first) m (length s.items) flags i low (subst (λ k. i < k) (sym are.count) low)
                (passes (nat_le first i) (is_event_of t (slice_get s.items i)) (s.left i) (at_least_is first i (reach least (is_at_least m i up))) event_is left_is) (is_at_least m i up)
            by true event_is true up false left_is = not_marked (is_listed s t first) m (length s.items) flags i
                (λ _ passing _. not_left (nat_le first i) true (at_test true false event_is left_is passing)) ∙ are.left i low ∙ ap Some left_is
            by true event_is false up l left_is = not_marked (is_listed s t first) m (length s.items) flags i (λ _ _ reached. too_low up reached) ∙ are.left i low ∙ ap Some (left_is ∙ sym (none_out l true))
            by false event_is w up l left_is = not_marked (is_listed s t first) m (length s.items) flags i
                (λ _ passing _. no_event (nat_le first i) l (at_test false l event_is left_is passing)) ∙ are.left i low ∙ ap Some (left_is ∙ sym (stays l false w refl))

        kept : (k : ℕ) → slice_get (first ∷ levels) k ≡ Some m → numbers_below (λ i. is_listed s t first i && not (nat_le m i)) (length s.items) ≡ listed_since new t (take k (first ∷ levels))
        kept zero at_first = none_below (λ i. is_listed s t first i && not (nat_le m i)) (length s.items)
            (λ i low. gone (nat_le first i) (is_event_of t (slice_get s.items i)) (s.left i) (nat_le m i) (ap (λ z. nat_le z i) (same_Some first m at_first)))
          where
            gone : (a e l w : Bool) → a ≡ w → (((a && e) && l) && not w) ≡ false
            gone true e l true same = and_false ((true && e) && l)
              where
                and_false : (z : Bool) → (z && false) ≡ false
                and_false true = refl
                and_false false = refl
            gone true e l false same = absurd (cc)
            gone false e l w same = refl
        kept (suc k) later = below_same (λ i. is_listed s t first i && not (nat_le m i)) (is_listed new t first) (length s.items)
            (λ i low. same_test (nat_le first i) (is_event_of t (slice_get s.items i)) (s.left i) (nat_le m i) ∙ ap (λ l. (nat_le first i && is_event_of t (slice_get s.items i)) && l) (sym (new_left i)))
          where
            same_test : (a e l w : Bool) → (((a && e) && l) && not w) ≡ ((a && e) && (l && not (e && w)))
            same_test true true true w = refl
            same_test true true false w = refl
            same_test true false l w = refl
            same_test false e l w = refl

    pub out_parts : y.events ≡ from_opened (slice_get x.opened.items n) x.events → AreItemsTold all (marked_since (slice_get x.opened.items n) x.events flags) (slice_set rows t y) new
    out_parts events = by_level (slice_get (s.levels t) n) refl
      where
        same_level : slice_get x.opened.items n ≡ slice_get (s.levels t) n
        same_level = ap (λ xs. slice_get xs n) was.opened

        by_first : (levels : List ℕ) (m : ℕ) → s.levels t ≡ levels → slice_get levels n ≡ Some m → OpenedWithin (length s.items) levels → y.events ≡ from_below m x.events → AreItemsTold all (marked_from m x.events flags) (slice_set rows t y) new
        by_first [] m open_now level within is = absurd (lacks n level)
          where
            lacks : (k : ℕ) → slice_get [] k ≡ Some m → ⊥
            lacks zero level = cc
            lacks (suc k) level = cc
        by_first (first ∷ levels) m open_now level within is = out_some first m levels open_now level (low n level) is
          where
            low : (k : ℕ) → slice_get (first ∷ levels) k ≡ Some m → first ≤ m
            low zero at_first = let same : first ≡ m = same_Some first m at_first in omega (arith, same)
            low (suc k) later = (within.1 k m later).0

        by_level : (o : Option ℕ) → slice_get (s.levels t) n ≡ o → AreItemsTold all (marked_since (slice_get x.opened.items n) x.events flags) (slice_set rows t y) new
        by_level None lacks = subst (λ o. AreItemsTold all (marked_since o x.events flags) (slice_set rows t y) new) (sym (same_level ∙ lacks))
            (out_none lacks (events ∙ ap (λ o. from_opened o x.events) (same_level ∙ lacks)))
        by_level (Some m) level = subst (λ o. AreItemsTold all (marked_since o x.events flags) (slice_set rows t y) new) (sym (same_level ∙ level))
            (by_first (s.levels t) m refl level was.within (events ∙ ap (λ o. from_opened o x.events) (same_level ∙ level)))

  -- an undoing comes: y is as the thread then is
  pub undoing_parts : (t n : ℕ) (x y : ThreadRows) → slice_get rows t ≡ Some x → y.opened.items ≡ x.opened.items → y.events ≡ x.events → y.back ≡ 0
      → AreItemsTold (all ++ Undone t (n + 1) x.back ∷ []) (flags ++ true ∷ []) (slice_set rows t y) (with_undoing t n s)
  undoing_parts t n x y at opened events back =
      subst (λ words. AreItemsTold (all ++ Undone t (n + 1) words ∷ []) (flags ++ true ∷ []) (slice_set rows t y) (with_undoing t n s)) (sym (are.threads t x at).back)
      (parts_more (record s { back = set_at s.back t 0 }) (Undone t (n + 1) (s.back t)) fresh all flags (slice_set rows t y) (slice_set rows t y) zeroed
      (λ u z there. at_other (record s { back = set_at s.back t 0 }) (Undone t (n + 1) (s.back t)) fresh u z refl (zeroed.threads u z there)))
    where
      zeroed : AreItemsTold all flags (slice_set rows t y) (record s { back = set_at s.back t 0 })
      zeroed = back_set t 0 x y at opened events back

  -- the thread puts a word back
  pub word_parts : (t : ℕ) (x y : ThreadRows) → slice_get rows t ≡ Some x → y.opened.items ≡ x.opened.items → y.events ≡ x.events → y.back ≡ x.back + 1
      → AreItemsTold all flags (slice_set rows t y) (after_row_call (puts_word_back t) s)
  word_parts t x y at opened events back = back_set t (suc (s.back t)) x y at opened events (back ∙ one_more (x.back) ∙ ap suc (are.threads t x at).back)
    where
      one_more : (n : ℕ) → n + 1 ≡ suc n
      one_more n = omega arith

  -- nothing changes
  pub same_parts : (t : ℕ) (x y : ThreadRows) → slice_get rows t ≡ Some x → y.opened.items ≡ x.opened.items → y.events ≡ x.events → y.back ≡ x.back → AreItemsTold all flags (slice_set rows t y) s
  same_parts t x y at opened events back = record {
    items = are.items;
    count = are.count;
    left = are.left;
    later = are.later;
    threads = all_put (IsThreadOf s) rows t y (λ u z other there. are.threads u z there)
        (let was = are.threads t x at in record { opened = opened ∙ was.opened; back = back ∙ was.back; events = events ∙ was.events; within = was.within });
  }
