-- Which events of a run the rows leave: those that weren't gone back over.
use Rattle.std.proofs.Common.{◌≡◌, ◌≢◌, ◌⊎◌, inl, inr, ℕ, zero, suc, ◌+◌, ◌-◌, ◌<◌, ◌≤◌, ◌&&◌, Bool, true, false, not, Some, List, [], ◌∷◌, ◌++◌, length, length-append, arith, refl, sym, ◌∙◌, ap, subst}
use Rattle.std.specs.Prelude.{slice_get, nat_eq, nat_le}
use Rattle.std.proofs.lemmas.Bool.{cases_lt}
use Rattle.std.proofs.lemmas.Grind.{common_steps}
use Rattle.std.proofs.lemmas.Bool.Decides.{nat_tests}
use Rattle.std.proofs.lemmas.Option.{same_Some, slice_get_past}
use Rattle.op_core.specs.declared.Op.{Op}
use Rattle.op_core.specs.declared.Reply.{Reply}
use Rattle.op_core.specs.ThreadCode.{Code}
use Rattle.op_core.specs.InPlaceList.{Entry, silent, event, put_back, give_back, go_back, unseen}
use Rattle.op_core.proofs.PointwiseLemmas.{same_or_other}
use Rattle.trace_journal.specs.declared.item.JournalItem.{JournalItem}
use Rattle.trace_journal.specs.declared.item.JournalItem.TheVariants.{Event as event_item}
use Rattle.thread_automaton.specs.declared.Bounds.{Bounds}
use Rattle.core_runs.specs.Cores.{Core}
use Rattle.core_runs.specs.Acts.{Act, mover}
use Rattle.core_law.specs.CleanCuts.{IsShownRun}
use Rattle.core_law.proofs.third_law.EntryLemmas.{IsGoBack}
use Rattle.journal_rows.specs.Told.{RowsTold, is_event_of}
use Rattle.core_law.specs.RunCalls.{counted_silents}
use Rattle.core_law.proofs.run_journals.LevelSteps.{back_thread, back_place, StepAt}
use Rattle.core_law.proofs.run_journals.RowSteps.{shown_by, over, RowStep, rows, row_at, counted_at, step_of}

get_append : {A : Type 0} (xs ys : List A) (i : ℕ) → i < length xs → slice_get (xs ++ ys) i ≡ slice_get xs i
get_append [] ys i low = absurd (omega (arith, low))
get_append (x ∷ xs) ys zero low = refl
get_append (x ∷ xs) ys (suc i) low = get_append xs ys i (omega (arith, low))

pub get_next : {A : Type 0} (xs : List A) (x : A) (ys : List A) → slice_get (xs ++ x ∷ ys) (length xs) ≡ Some x
get_next [] x ys = refl
get_next (y ∷ xs) x ys = get_next xs x ys

-- thread t has gone back, before place k, to place a or further
pub record Gone (es : List Entry) (k t a : ℕ) : Type 0 where
  pub at : ℕ
  pub place : ℕ
  pub later : a < at
  pub before : at < k
  pub reach : place ≤ a
  pub goes : slice_get es at ≡ Some (go_back t place)

-- it is marked as left exactly if its thread hasn't
pub data FlagSo (es : List Entry) (k t a : ℕ) (left : Bool) : Type 0 where
  is_kept : left ≡ true → (Gone es k t a → ⊥) → FlagSo es k t a left
  is_gone : left ≡ false → Gone es k t a → FlagSo es k t a left

pub true_and : (z : Bool) → (z && true) ≡ z
true_and true = refl
true_and false = refl

false_and : (z : Bool) → (z && false) ≡ false
false_and true = refl
false_and false = refl

module _ {S : Type 0} (code : Code S) (b : Bounds) (first : S) (classes : ℕ) (c : ℕ → Core S) (acts : List Act) (es : List Entry) (doomed : ℕ → Bool)
    (shown : IsShownRun code b first classes c acts es doomed) where
  abbrev table : ℕ → RowsTold
  table k = rows code b first classes c acts es doomed shown k

  abbrev size : ℕ → ℕ
  size k = length (table k).items

  -- the rows at the next place
  pub record NextRows (k : ℕ) : Type 0 where
    pub entry : Entry
    pub there : slice_get es k ≡ Some entry
    pub step : StepAt code b first classes c acts es doomed shown k entry
    pub row : RowStep (c k) size (mover (Some step.act)) entry ((c (suc k)).levels (mover (Some step.act))) (table k) (table (suc k))

  upto : (k n : ℕ) → k < n → k ≤ n
  upto k n is = omega (arith, is)

  pub next_rows : (k : ℕ) → k < length acts → NextRows k
  next_rows k within =
      let found = step_of code b first classes c acts es doomed shown k within in record {
        entry = found.0;
        there = found.1;
        step = found.2;
        row = row_at code b first classes c acts es doomed shown k found.0 found.1 found.2 (counted_at code b first classes c acts es doomed shown k (upto k (length acts) within));
      }

  -- ---- items stay where they are

  record Grown (j k : ℕ) : Type 0 where
    more : List JournalItem
    is : (table k).items ≡ (table j).items ++ more

  grown : (d j : ℕ) → d + j ≤ length acts → Grown j (d + j)
  grown zero j within = record { more = []; is = ap (λ n. (table n).items) (none_more j) ∙ sym (append_none (table j).items) }
    where
      none_more : (j : ℕ) → 0 + j ≡ j
      none_more j = omega arith

      append_none : (xs : List JournalItem) → xs ++ [] ≡ xs
      append_none [] = refl
      append_none (x ∷ xs) = ap (λ ys. x ∷ ys) (append_none xs)
  grown (suc d) j within = one (grown d j (lower within)) (next_rows (d + j) (low within))
    where
      lower : suc d + j ≤ length acts → d + j ≤ length acts
      lower within = omega (arith, within)

      low : suc d + j ≤ length acts → d + j < length acts
      low within = omega (arith, within)

      next : suc d + j ≡ suc (d + j)
      next = omega arith

      assoc : (xs ys zs : List JournalItem) → (xs ++ ys) ++ zs ≡ xs ++ (ys ++ zs)
      assoc [] ys zs = refl
      assoc (x ∷ xs) ys zs = ap (λ us. x ∷ us) (assoc xs ys zs)

      one : Grown j (d + j) → NextRows (d + j) → Grown j (suc d + j)
      one before now =
          let added : List JournalItem = shown_by (c (d + j)) (length ((c (suc (d + j))).levels (mover (Some now.step.act)))) (table (d + j)).back now.entry in record {
            more = before.more ++ added;
            is = ap (λ n. (table n).items) next ∙ now.row.items ∙ ap (λ xs. xs ++ added) before.is ∙ assoc (table j).items before.more added;
          }

  grown_to : (j k : ℕ) → j ≤ k → k ≤ length acts → Grown j k
  grown_to j k low within = subst (Grown j) (sum low) (grown (k - j) j (subst (λ n. n ≤ length acts) (sym (sum low)) within))
    where
      sum : j ≤ k → (k - j) + j ≡ k
      sum low = omega (arith, low)

  pub size_rises : (j k : ℕ) → j ≤ k → k ≤ length acts → size j ≤ size k
  size_rises j k low within =
      let g = grown_to j k low within in
      let is : size k ≡ size j + length g.more = ap length g.is ∙ length-append (table j).items g.more in
      omega (arith, is)

  pub items_stay : (j k i : ℕ) → j ≤ k → k ≤ length acts → i < size j → slice_get (table k).items i ≡ slice_get (table j).items i
  items_stay j k i low within inside = let g = grown_to j k low within in ap (λ xs. slice_get xs i) g.is ∙ get_append (table j).items g.more i inside

  -- ---- the item of an event

  module _ (a t : ℕ) (op : Op) (reply : Reply) (at : slice_get es a ≡ Some (event t op reply)) (inside : a < length acts) where
    abbrev pub item : JournalItem
    item = event_item (record { thread = t; silent = counted_silents ((c a).threads t); op = op; reply = reply })

    items_next : (table (suc a)).items ≡ (table a).items ++ item ∷ []
    items_next = by (next_rows a inside)
      where
        by : NextRows a → (table (suc a)).items ≡ (table a).items ++ item ∷ []
        by now = now.row.items ∙ ap (λ e. (table a).items ++ shown_by (c a) (length ((c (suc a)).levels (mover (Some now.step.act)))) (table a).back e) (same_Some now.entry (event t op reply) (sym now.there ∙ at))

    pub one_more : size (suc a) ≡ suc (size a)
    one_more = ap length items_next ∙ length-append (table a).items (item ∷ []) ∙ next (size a)
      where
        next : (n : ℕ) → n + 1 ≡ suc n
        next n = omega arith

    pub item_there : (k : ℕ) → a < k → k ≤ length acts → slice_get (table k).items (size a) ≡ Some item
    item_there k later within = items_stay (suc a) k (size a) later within (subst (λ n. size a < n) (sym one_more) (less (size a))) ∙ ap (λ xs. slice_get xs (size a)) items_next ∙ get_next (table a).items item []
      where
        less : (n : ℕ) → n < suc n
        less n = omega arith

  -- ---- flags

  pub later_left : (k : ℕ) → k ≤ length acts → (i : ℕ) → size k ≤ i → (table k).left i ≡ true
  later_left zero within i past = refl
  later_left (suc k) within i past = by (next_rows k (low within)) (later_left k (lower within) i (before (size_rises k (suc k) (one k) within) past))
    where
      low : suc k ≤ length acts → k < length acts
      low within = omega (arith, within)

      lower : suc k ≤ length acts → k ≤ length acts
      lower within = omega (arith, within)

      one : (k : ℕ) → k ≤ suc k
      one k = omega arith

      before : size k ≤ size (suc k) → size (suc k) ≤ i → size k ≤ i
      before rises past = omega (arith, rises, past)

      not_over : (e : Entry) → over size (table k).items e i ≡ false
      not_over (go_back t p) = ap (λ o. is_event_of t o && nat_le (size p) i) (slice_get_past (table k).items i (before (size_rises k (suc k) (one k) within) past))
      not_over (silent t) = refl
      not_over (event t op reply) = refl
      not_over (put_back r j v) = refl
      not_over (give_back t r n) = refl
      not_over unseen = refl

      by : NextRows k → (table k).left i ≡ true → (table (suc k)).left i ≡ true
      by now was = now.row.left i ∙ ap (λ z. z && not (over size (table k).items now.entry i)) was ∙ ap not (not_over now.entry)

  module _ (a t : ℕ) (op : Op) (reply : Reply) (at : slice_get es a ≡ Some (event t op reply)) where
    abbrev FlagAt : ℕ → Type 0
    FlagAt k = FlagSo es k t a ((table k).left (size a))

    -- what is gone at the next place was so before, unless it goes now
    gone_before : (k : ℕ) → (e : Entry) → slice_get es k ≡ Some e → ((p : ℕ) → e ≡ go_back t p → p ≤ a → ⊥) → Gone es (suc k) t a → Gone es k t a
    gone_before k e here other gone = elim (cases_lt gone.at k) [
      | inl earlier ↦ record { at = gone.at; place = gone.place; later = gone.later; before = earlier; reach = gone.reach; goes = gone.goes }
      | inr past ↦ absurd (other gone.place (same_Some e (go_back t gone.place) (sym here ∙ ap (slice_get es) (is_now gone.at gone.before past) ∙ gone.goes)) gone.reach)
    ]
      where
        is_now : (j : ℕ) → j < suc k → k ≤ j → k ≡ j
        is_now j low high = omega (arith, low, high)

    gone_later : (k : ℕ) → Gone es k t a → Gone es (suc k) t a
    gone_later k gone = record { at = gone.at; place = gone.place; later = gone.later; before = more gone.at gone.before; reach = gone.reach; goes = gone.goes }
      where
        more : (j : ℕ) → j < k → j < suc k
        more j low = omega (arith, low)

    -- it isn't gone back over now
    stays_so : (k : ℕ) (e : Entry) (z : Bool) → slice_get es k ≡ Some e → ((p : ℕ) → e ≡ go_back t p → p ≤ a → ⊥) → z ≡ (table k).left (size a) → FlagAt k → FlagSo es (suc k) t a z
    stays_so k e z here other same (is_kept left not_gone) = is_kept (same ∙ left) (λ gone. not_gone (gone_before k e here other gone))
    stays_so k e z here other same (is_gone left gone) = is_gone (same ∙ left) (gone_later k gone)

    is_less : (m n : ℕ) → m < n → nat_le n m ≡ false
    is_less m n low = grind (arith, common_steps, nat_tests)

    is_more : (m n : ℕ) → n ≤ m → nat_le n m ≡ true
    is_more m n low = grind (arith, common_steps, nat_tests)

    own_is : (n : ℕ) → nat_eq n n ≡ true
    own_is n = grind (arith, common_steps, nat_tests)

    other_is : (m n : ℕ) → m ≢ n → nat_eq m n ≡ false
    other_is m n other = grind (arith, common_steps, nat_tests)

    module _ (k : ℕ) (within : k < length acts) (earlier : a < k) (now : NextRows k) (was : FlagAt k) where
      inside : a < length acts
      inside = omega (arith, within, earlier)

      low : k ≤ length acts
      low = omega (arith, within)

      at_item : (u : ℕ) → is_event_of u (slice_get (table k).items (size a)) ≡ nat_eq t u
      at_item u = ap (is_event_of u) (item_there a t op reply at inside k earlier low)

      goes_over : (u p : ℕ) → now.entry ≡ go_back u p → (table (suc k)).left (size a) ≡ ((table k).left (size a) && not (nat_eq t u && nat_le (size p) (size a)))
      goes_over u p is = now.row.left (size a) ∙ ap (λ e. (table k).left (size a) && not (over size (table k).items e (size a))) is
          ∙ ap (λ z. (table k).left (size a) && not (z && nat_le (size p) (size a))) (at_item u)

      back_to : (u p : ℕ) → now.entry ≡ go_back u p → p ≤ k → FlagAt (suc k)
      back_to u p is deep = elim (same_or_other t u) [
        | inr other ↦ stays_so k now.entry ((table (suc k)).left (size a)) now.there (λ q goes reach. other (sym (ap back_thread (sym is ∙ goes))))
            (goes_over u p is ∙ ap (λ z. (table k).left (size a) && not (z && nat_le (size p) (size a))) (other_is t u other) ∙ true_and ((table k).left (size a))) was
        | inl own ↦ elim (cases_lt a p) [
          | inl deeper ↦ stays_so k now.entry ((table (suc k)).left (size a)) now.there (λ q goes reach. too_low (ap back_place (sym is ∙ goes)) reach deeper)
              (goes_over u p is ∙ ap (λ z. (table k).left (size a) && not (nat_eq t u && z)) (is_less (size a) (size p) (less (one_more a t op reply at inside) (size_rises (suc a) p deeper (reach_end deep))))
              ∙ ap (λ z. (table k).left (size a) && not z) (false_and (nat_eq t u)) ∙ true_and ((table k).left (size a))) was
          | inr reach ↦ is_gone (goes_over u p is ∙ ap (λ n. (table k).left (size a) && not (nat_eq t n && nat_le (size p) (size a))) (sym own)
              ∙ ap (λ z. (table k).left (size a) && not (z && nat_le (size p) (size a))) (own_is t)
              ∙ ap (λ z. (table k).left (size a) && not z) (is_more (size a) (size p) (size_rises p a reach (upto a (length acts) inside))) ∙ false_and ((table k).left (size a)))
              (record { at = k; place = p; later = earlier; before = one k; reach = reach; goes = now.there ∙ ap Some is ∙ ap (λ n. Some (go_back n p)) (sym own) })
        ]
      ]
        where
          too_low : {p q : ℕ} → p ≡ q → q ≤ a → a < p → ⊥
          too_low same reach deeper = omega (arith, same, reach, deeper)

          less : {n m q : ℕ} → n ≡ suc m → n ≤ q → m < q
          less is up = omega (arith, is, up)

          reach_end : p ≤ k → p ≤ length acts
          reach_end deep = omega (arith, deep, low)

          one : (k : ℕ) → k < suc k
          one k = omega arith

      next_flag : ((u p : ℕ) → now.entry ≡ go_back u p → p ≤ k) → FlagAt (suc k)
      next_flag deep = by_entry now.entry refl
        where
          plain : (e : Entry) → now.entry ≡ e → (IsGoBack e → ⊥) → over size (table k).items e (size a) ≡ false → FlagAt (suc k)
          plain e is other none = stays_so k now.entry ((table (suc k)).left (size a)) now.there (λ p goes reach. other (subst IsGoBack (sym (sym is ∙ goes)) tt))
              (now.row.left (size a) ∙ ap (λ x. (table k).left (size a) && not (over size (table k).items x (size a))) is ∙ ap (λ z. (table k).left (size a) && not z) none ∙ true_and ((table k).left (size a))) was

          by_entry : (e : Entry) → now.entry ≡ e → FlagAt (suc k)
          by_entry (go_back u p) is = back_to u p is (deep u p is)
          by_entry (silent u) is = plain (silent u) is (λ go. go) refl
          by_entry (event u o r) is = plain (event u o r) is (λ go. go) refl
          by_entry (put_back r j v) is = plain (put_back r j v) is (λ go. go) refl
          by_entry (give_back u r n) is = plain (give_back u r n) is (λ go. go) refl
          by_entry unseen is = plain unseen is (λ go. go) refl

    -- entries go back to earlier places
    abbrev pub GoesEarlier : Type 0
    GoesEarlier = (k u p : ℕ) → slice_get es k ≡ Some (go_back u p) → p ≤ k

    pub flag_at : GoesEarlier → (k : ℕ) → k ≤ length acts → a < k → FlagAt k
    flag_at earlier zero within low = absurd (none_below low)
      where
        none_below : a < 0 → ⊥
        none_below low = omega (arith, low)
    flag_at earlier (suc k) within low = by_place (cases_lt a k) (flag_at earlier k (lower within))
      where
        lower : suc k ≤ length acts → k ≤ length acts
        lower within = omega (arith, within)

        now : NextRows k
        now = next_rows k (inside within)
          where
            inside : suc k ≤ length acts → k < length acts
            inside within = omega (arith, within)

        here : k ≤ a → a < suc k → a ≡ k
        here past low = omega (arith, past, low)

        by_place : (a < k) ⊎ (k ≤ a) → (a < k → FlagAt k) → FlagAt (suc k)
        by_place (inl before) was = next_flag k within before now (was before) (λ u p is. earlier k u p (now.there ∙ ap Some is))
        by_place (inr past) was = is_kept (ap (λ n. (table (suc k)).left (size n)) (here past low) ∙ now.row.left (size k)
            ∙ ap (λ e. (table k).left (size k) && not (over size (table k).items e (size k))) (same_Some now.entry (event t op reply) (sym now.there ∙ ap (slice_get es) (sym (here past low)) ∙ at))
            ∙ true_and ((table k).left (size k)) ∙ later_left k (lower within) (size k) (omega arith)) (λ gone. too_late gone.at gone.later gone.before past)
          where
            too_late : (j : ℕ) → a < j → j < suc k → k ≤ a → ⊥
            too_late j later before past = omega (arith, later, before, past)
