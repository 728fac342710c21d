-- The rows of threads, where an item is added.
use Rattle.std.proofs.Common.{◌≡◌, ◌≢◌, ◌⊎◌, inl, inr, ℕ, zero, suc, ◌<◌, ◌≤◌, ◌&&◌, Bool, true, false, Some, List, [], ◌∷◌, ◌++◌, length, slice_get, slice_set, arith, refl, sym, ◌∙◌, ap, subst}
use Rattle.std.specs.Prelude.{nat_eq, nat_le, if◌then◌else◌}
use Rattle.std.proofs.lemmas.Bool.{cases_lt}
use Rattle.std.proofs.lemmas.Grind.{common_steps}
use Rattle.std.proofs.lemmas.Bool.Decides.{nat_tests}
use Rattle.std.proofs.lemmas.Option.{same_Some}
use Rattle.op_core.proofs.PointwiseLemmas.{same_or_other}
use Rattle.trace_journal.specs.declared.item.JournalItem.{JournalItem}
use Rattle.journal_rows.specs.declared.thread_rows.ThreadRows.{ThreadRows}
use Rattle.journal_rows.specs.Leaving.{none_open}
use Rattle.journal_rows.specs.Rows.{numbers_below, is_listed, listed_since, OpenedWithin, IsThreadOf, AreItemsTold}
use Rattle.journal_rows.specs.Told.{RowsTold, is_event_of}
use Rattle.journal_rows.proofs.NumberLemmas.{set_hit, set_other, at_least_is, below_same}

-- ---- lists

pub length_more : {A : Type 0} (xs : List A) (x : A) → length (xs ++ x ∷ []) ≡ suc (length xs)
length_more [] x = refl
length_more (y ∷ xs) x = ap suc (length_more xs x)

pub get_more : {A : Type 0} (xs : List A) (x : A) (i : ℕ) → i < length xs → slice_get (xs ++ x ∷ []) i ≡ slice_get xs i
get_more [] x i low = absurd (omega (arith, low))
get_more (y ∷ xs) x zero low = refl
get_more (y ∷ xs) x (suc i) low = get_more xs x i (omega (arith, low))

pub get_last : {A : Type 0} (xs : List A) (x : A) → slice_get (xs ++ x ∷ []) (length xs) ≡ Some x
get_last [] x = refl
get_last (y ∷ xs) x = get_last xs x

pub last_or : (i : ℕ) {A : Type 0} (xs : List A) (x : A) → i < length (xs ++ x ∷ []) → (i < length xs) ⊎ (i ≡ length xs)
last_or i xs x low = elim (cases_lt i (length xs)) [
  | inl lower ↦ inl lower
  | inr past ↦ inr (here i (length xs) (length (xs ++ x ∷ [])) past low (length_more xs x))
]
  where
    here : (i n m : ℕ) → n ≤ i → i < m → m ≡ suc n → i ≡ n
    here i n m past low is = omega (arith, past, low, is)

-- what is so of each, where another one is put at a place
pub all_put : {A : Type 0} (P : ℕ → A → Type 0) (xs : List A) (t : ℕ) (y : A) → ((u : ℕ) (x : A) → u ≢ t → slice_get xs u ≡ Some x → P u x) → P t y
    → (u : ℕ) (x : A) → slice_get (slice_set xs t y) u ≡ Some x → P u x
all_put {A} P xs t y others here u x at = elim (same_or_other u t) [
  | inl same ↦ subst (λ v. P v x) (sym same) (subst (P t) (same_Some y x (sym (set_hit xs t y (inside same)) ∙ ap (slice_get (slice_set xs t y)) (sym same) ∙ at)) here)
  | inr other ↦ others u x other (sym (set_other xs u t y other) ∙ at)
]
  where
    inside : u ≡ t → t < length xs
    inside same = by_length xs t (subst (λ v. slice_get (slice_set xs t y) v ≡ Some x) same at)
      where
        by_length : (xs : List A) (t : ℕ) → slice_get (slice_set xs t y) t ≡ Some x → t < length xs
        by_length [] t at = absurd (cc)
        by_length (z ∷ xs) zero at = omega arith
        by_length (z ∷ xs) (suc t) at = let rest : t < length xs = by_length xs t at in omega (arith, rest)

-- ---- threads

pub within_more : (n m : ℕ) (levels : List ℕ) → n ≤ m → OpenedWithin n levels → OpenedWithin m levels
within_more n m [] low within = tt
within_more n m (first ∷ levels) low (least, rest) = (up first least, λ k opened at. let both = rest k opened at in (both.0, up opened both.1))
  where
    up : (k : ℕ) → k ≤ n → k ≤ m
    up k least = omega (arith, least, low)

pub and_true : (z : Bool) → ((true && z) && true) ≡ z
and_true true = refl
and_true false = refl

pub if_same : {A : Type 0} (z : Bool) (x : A) → (if z then x else x) ≡ x
if_same true x = refl
if_same false x = refl

module _ (s : RowsTold) (item : JournalItem) (fresh : s.left (length s.items) ≡ true) where
  abbrev pub with_item : RowsTold
  with_item = record s { items = s.items ++ item ∷ [] }

  abbrev pub more_listed : ℕ → List ℕ → List ℕ
  more_listed t levels = if none_open levels then listed_since s t levels else (if is_event_of t (Some item) then length s.items ∷ listed_since s t levels else listed_since s t levels)

  pub listed_more : (t : ℕ) (levels : List ℕ) → OpenedWithin (length s.items) levels → listed_since with_item t levels ≡ more_listed t levels
  listed_more t [] within = refl
  listed_more t (first ∷ levels) within =
      ap (numbers_below (is_listed with_item t first)) (length_more s.items item)
      ∙ ap (λ z. if z then length s.items ∷ numbers_below (is_listed with_item t first) (length s.items) else numbers_below (is_listed with_item t first) (length s.items)) here
      ∙ ap (λ numbers. if is_event_of t (Some item) then length s.items ∷ numbers else numbers)
      (below_same (is_listed with_item t first) (is_listed s t first) (length s.items) (λ i low. ap (λ o. (nat_le first i && is_event_of t o) && s.left i) (get_more s.items item i low)))
    where
      here : is_listed with_item t first (length s.items) ≡ is_event_of t (Some item)
      here = ap (λ o. (nat_le first (length s.items) && is_event_of t o) && s.left (length s.items)) (get_last s.items item)
          ∙ ap (λ z. (z && is_event_of t (Some item)) && s.left (length s.items)) (at_least_is first (length s.items) within.0)
          ∙ ap (λ z. (true && is_event_of t (Some item)) && z) fresh ∙ and_true (is_event_of t (Some item))

  pub at_other : (t : ℕ) (x : ThreadRows) → is_event_of t (Some item) ≡ false → IsThreadOf s t x → IsThreadOf with_item t x
  at_other t x other is = record {
    opened = is.opened;
    back = is.back;
    events = is.events ∙ sym (listed_more t (s.levels t) is.within
        ∙ ap (λ z. if none_open (s.levels t) then listed_since s t (s.levels t) else (if z then length s.items ∷ listed_since s t (s.levels t) else listed_since s t (s.levels t))) other
        ∙ if_same (none_open (s.levels t)) (listed_since s t (s.levels t)));
    within = within_more (length s.items) (length (s.items ++ item ∷ [])) (s.levels t) (grown (length s.items) (length (s.items ++ item ∷ [])) (length_more s.items item)) is.within;
  }
    where
      grown : (n m : ℕ) → m ≡ suc n → n ≤ m
      grown n m is = omega (arith, is)

  pub at_own : (t : ℕ) (x y : ThreadRows) → is_event_of t (Some item) ≡ true → IsThreadOf s t x → y.opened.items ≡ x.opened.items → y.back ≡ x.back
      → y.events ≡ (if none_open x.opened.items then x.events else length s.items ∷ x.events) → IsThreadOf with_item t y
  at_own t x y own is opened back events = record {
    opened = opened ∙ is.opened;
    back = back ∙ is.back;
    events = events ∙ ap (λ levels. if none_open levels then x.events else length s.items ∷ x.events) is.opened
        ∙ ap (λ numbers. if none_open (s.levels t) then numbers else length s.items ∷ numbers) is.events
        ∙ sym (listed_more t (s.levels t) is.within
        ∙ ap (λ z. if none_open (s.levels t) then listed_since s t (s.levels t) else (if z then length s.items ∷ listed_since s t (s.levels t) else listed_since s t (s.levels t))) own);
    within = within_more (length s.items) (length (s.items ++ item ∷ [])) (s.levels t) (grown (length s.items) (length (s.items ++ item ∷ [])) (length_more s.items item)) is.within;
  }
    where
      grown : (n m : ℕ) → m ≡ suc n → n ≤ m
      grown n m is = omega (arith, is)

  -- with the item and its flag
  pub parts_more : (all : List JournalItem) (flags : List Bool) (rows new : List ThreadRows) → AreItemsTold all flags rows s
      → ((t : ℕ) (x : ThreadRows) → slice_get new t ≡ Some x → IsThreadOf with_item t x) → AreItemsTold (all ++ item ∷ []) (flags ++ true ∷ []) new with_item
  parts_more all flags rows new are threads = record {
    items = ap (λ xs. xs ++ item ∷ []) are.items;
    count = length_more flags true ∙ ap suc are.count ∙ sym (length_more s.items item);
    left = λ i low. elim (last_or i s.items item low) [
      | inl lower ↦ get_more flags true i (subst (λ n. i < n) (sym are.count) lower) ∙ are.left i lower
      | inr here ↦ ap (slice_get (flags ++ true ∷ [])) (here ∙ sym are.count) ∙ get_last flags true ∙ ap Some (sym (ap s.left here ∙ fresh))
    ];
    later = λ i past. are.later i (above i (length s.items) (length (s.items ++ item ∷ [])) (length_more s.items item) past);
    threads = threads;
  }
    where
      above : (i n m : ℕ) → m ≡ suc n → m ≤ i → n ≤ i
      above i n m is past = omega (arith, is, past)

pub own_is : (t : ℕ) → nat_eq t t ≡ true
own_is t = grind (arith, common_steps, nat_tests)

pub other_is : (t u : ℕ) → u ≢ t → nat_eq t u ≡ false
other_is t u other = grind (arith, common_steps, nat_tests)
