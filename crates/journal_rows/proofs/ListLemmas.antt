-- Lists that are gone through one after another.
use Rattle.std.proofs.Common.{◌≡◌, ℕ, zero, suc, ◌+◌, ◌<◌, ◌≤◌, Bool, true, false, None, Some, List, [], ◌∷◌, ◌++◌, length, drop, take, slice_get, slice_set, slice_index_or, get_or, arith, refl, sym, ◌∙◌, ap, subst, append-nil}
use Rattle.std.specs.Prelude.{Result, Ok, Err, OnOk, OnErr, nat_le, if◌then◌else◌}
use Rattle.std.proofs.lemmas.List.{take_all}
use Rattle.std.proofs.lemmas.Option.{same_Some, slice_get-get_or}
use Rattle.op_core.specs.declared.NoMemory.{NoMemory}
use Rattle.op_core.specs.declared.Event.{Event}
use Rattle.op_core.specs.declared.Undo.{Undo}
use Rattle.trace_journal.specs.declared.item.JournalItem.{JournalItem}
use Rattle.trace_journal.specs.declared.item.JournalItem.TheVariants.{Event as event_item, Undone}
use Rattle.trace_journal.specs.Text.{events_in, undos_in}
use Rattle.journal_rows.specs.declared.thread_rows.ThreadRows.{ThreadRows}
use Rattle.journal_rows.specs.Leaving.{from_below, marked_from}
use Rattle.journal_rows.specs.Rows.{AreFresh, AreItemsTold, flag_at}
use Rattle.journal_rows.specs.Told.{RowsTold, kept_items, items_left}
use Rattle.journal_rows.proofs.NumberLemmas.{at_least_is, below_is, set_hit}

-- ---- numbers, the newest first

newest_is : (numbers : List ℕ) (i : ℕ) → slice_get numbers 0 ≡ Some i → (rest : List ℕ) × (numbers ≡ i ∷ rest)
newest_is [] i at = absurd (cc)
newest_is (j ∷ numbers) i at = (numbers, ap (λ k. k ∷ numbers) (same_Some j i at))

pub stops_at : (first i : ℕ) (numbers : List ℕ) → slice_get numbers 0 ≡ Some i → i < first → from_below first numbers ≡ numbers
stops_at first i [] at low = refl
stops_at first i (j ∷ numbers) at low = ap (λ z. if z then from_below first numbers else j ∷ numbers) (ap (nat_le first) (same_Some j i at) ∙ below_is first i low)

pub stops_marking : (first i : ℕ) (numbers : List ℕ) (left : List Bool) → slice_get numbers 0 ≡ Some i → i < first → marked_from first numbers left ≡ left
stops_marking first i [] left at low = refl
stops_marking first i (j ∷ numbers) left at low = ap (λ z. if z then marked_from first numbers (slice_set left j false) else left) (ap (nat_le first) (same_Some j i at) ∙ below_is first i low)

-- a number that is no less is taken off
pub one_taken : (first i : ℕ) (numbers rest : List ℕ) → slice_get numbers 0 ≡ Some i → first ≤ i → rest ≡ drop 1 numbers → from_below first rest ≡ from_below first numbers
one_taken first i [] rest at low is = absurd (cc)
one_taken first i (j ∷ numbers) rest at low is =
    ap (from_below first) is ∙ sym (ap (λ z. if z then from_below first numbers else j ∷ numbers) (ap (nat_le first) (same_Some j i at) ∙ at_least_is first i low))

pub one_marked : (first i : ℕ) (numbers rest : List ℕ) (left marked : List Bool) → slice_get numbers 0 ≡ Some i → first ≤ i → rest ≡ drop 1 numbers → marked ≡ slice_set left i false
    → marked_from first rest marked ≡ marked_from first numbers left
one_marked first i [] rest left marked at low is set = absurd (cc)
one_marked first i (j ∷ numbers) rest left marked at low is set =
    ap (λ xs. marked_from first xs marked) is ∙ ap (marked_from first numbers) (set ∙ ap (λ k. slice_set left k false) (sym (same_Some j i at)))
    ∙ sym (ap (λ z. if z then marked_from first numbers (slice_set left j false) else left) (ap (nat_le first) (same_Some j i at) ∙ at_least_is first i low))

pub one_fewer : (i : ℕ) (numbers rest : List ℕ) (k n : ℕ) → slice_get numbers 0 ≡ Some i → rest ≡ drop 1 numbers → length numbers + k ≡ n → length rest + (k + 1) ≡ n
one_fewer i [] rest k n at is count = absurd (cc)
one_fewer i (j ∷ numbers) rest k n at is count = ap (λ xs. length xs + (k + 1)) is ∙ moved (length numbers) count
  where
    moved : (m : ℕ) → suc m + k ≡ n → m + (k + 1) ≡ n
    moved m count = omega (arith, count)

pub empty_is : (numbers : List ℕ) (k n : ℕ) → n ≤ k → length numbers + k ≡ n → numbers ≡ []
empty_is [] k n low count = refl
empty_is (i ∷ numbers) k n low count = absurd (too_many (length numbers) low count)
  where
    too_many : (m : ℕ) → n ≤ k → suc m + k ≡ n → ⊥
    too_many m low count = omega (arith, low, count)

pub empty_has_none : (numbers : List ℕ) → slice_get numbers 0 ≡ None → numbers ≡ []
empty_has_none [] none_there = refl
empty_has_none (i ∷ numbers) none_there = absurd (cc)

pub none_taken : (first : ℕ) (numbers : List ℕ) → numbers ≡ [] → numbers ≡ from_below first numbers
none_taken first [] is = refl
none_taken first (i ∷ numbers) is = absurd (cc)

pub none_marked : (first : ℕ) (numbers : List ℕ) (left : List Bool) → numbers ≡ [] → left ≡ marked_from first numbers left
none_marked first [] left is = refl
none_marked first (i ∷ numbers) left is = absurd (cc)

-- ---- answers

pub ok_gives : {A : Type 0} (result : Result A NoMemory) (P Q : Type 0) → (P → Q) → OnOk result P → OnOk result Q
ok_gives (Ok x) P Q gives has = gives has
ok_gives (Err e) P Q gives has = has

pub err_gives : {A : Type 0} (result : Result A NoMemory) (P Q : Type 0) → (P → Q) → OnErr result P → OnErr result Q
err_gives (Ok x) P Q gives has = has
err_gives (Err e) P Q gives has = gives has

pub err_has : {A : Type 0} (result : Result A NoMemory) (P : Type 0) → P → OnErr result P
err_has (Ok x) P has = tt
err_has (Err e) P has = has

-- ---- threads

-- the item at an index
pub there : {A : Type 0} (xs : List A) (n i : ℕ) (x : A) → length xs ≡ n → i < n → x ≡ slice_index_or xs i x → slice_get xs i ≡ Some x
there xs n i x count low is = slice_get-get_or xs i x (subst (λ m. i < m) (sym count) low) ∙ ap Some (sym is)

pub new_more : (xs : List ThreadRows) (x : ThreadRows) → AreFresh xs → (x.opened.items ≡ []) × (x.back ≡ 0) × (x.events ≡ []) → AreFresh (xs ++ x ∷ [])
new_more [] x are new zero y at = subst (λ (z : ThreadRows). (z.opened.items ≡ []) × (z.back ≡ 0) × (z.events ≡ [])) (same_Some x y at) new
new_more [] x are new (suc t) y at = absurd (cc)
new_more (z ∷ xs) x are new zero y at = are 0 y at
new_more (z ∷ xs) x are new (suc t) y at = new_more xs x (λ u w there. are (suc u) w there) new t y at

-- the same parts
pub parts_are : (all others : List JournalItem) (flags marks : List Bool) (rows threads : List ThreadRows) (s : RowsTold) → others ≡ all → marks ≡ flags → threads ≡ rows
    → AreItemsTold all flags rows s → AreItemsTold others marks threads s
parts_are all others flags marks rows threads s same_items same_flags same_rows are =
    subst (λ xs. AreItemsTold xs marks threads s) (sym same_items) (subst (λ zs. AreItemsTold all zs threads s) (sym same_flags) (subst (λ ys. AreItemsTold all flags ys s) (sym same_rows) are))

-- ---- what is left

kept_more : (k : ℕ) (left : ℕ → Bool) (items : List JournalItem) (item : JournalItem) → kept_items k left (items ++ item ∷ []) ≡ kept_items k left items ++ (if left (k + length items) then item ∷ [] else [])
kept_more k left [] item = ap (λ n. if left n then item ∷ [] else []) (omega arith)
kept_more k left (x ∷ items) item = by_flag (left k) (kept_more (suc k) left items item ∙ ap (λ n. kept_items (suc k) left items ++ (if left n then item ∷ [] else [])) (omega arith))
  where
    by_flag : (z : Bool) → kept_items (suc k) left (items ++ item ∷ []) ≡ kept_items (suc k) left items ++ (if left (k + suc (length items)) then item ∷ [] else [])
        → (if z then x ∷ kept_items (suc k) left (items ++ item ∷ []) else kept_items (suc k) left (items ++ item ∷ []))
        ≡ (if z then x ∷ kept_items (suc k) left items else kept_items (suc k) left items) ++ (if left (k + suc (length items)) then item ∷ [] else [])
    by_flag true rest = ap (λ xs. x ∷ xs) rest
    by_flag false rest = rest

pub kept_same : (k : ℕ) (left other : ℕ → Bool) (items : List JournalItem) → ((i : ℕ) → i < length items → left (k + i) ≡ other (k + i)) → kept_items k left items ≡ kept_items k other items
kept_same k left other [] same = refl
kept_same k left other (x ∷ items) same =
    ap (λ z. if z then x ∷ kept_items (suc k) left items else kept_items (suc k) left items) (ap left (omega arith) ∙ same 0 (omega arith) ∙ ap other (omega arith))
    ∙ ap (λ xs. if other k then x ∷ xs else xs) (kept_same (suc k) left other items (λ i low. ap left (omega arith) ∙ same (suc i) (omega (arith, low)) ∙ ap other (omega arith)))

pub events_more : (items others : List JournalItem) → events_in (items ++ others) ≡ events_in items ++ events_in others
events_more [] others = refl
events_more (event_item e ∷ items) others = ap (λ xs. e ∷ xs) (events_more items others)
events_more (Undone t l w ∷ items) others = events_more items others

pub undos_more : (n : ℕ) (items others : List JournalItem) → undos_in n (items ++ others) ≡ undos_in n items ++ undos_in (n + length (events_in items)) others
undos_more n [] others = ap (λ k. undos_in k others) (omega arith)
undos_more n (event_item e ∷ items) others = undos_more (n + 1) items others ∙ ap (λ k. undos_in (n + 1) items ++ undos_in k others) (omega arith)
undos_more n (Undone t l w ∷ items) others = ap (λ xs. record { after = n; thread = t; level = l; words = w } ∷ xs) (undos_more n items others)

take_more : (xs : List JournalItem) (k : ℕ) (x : JournalItem) → slice_get xs k ≡ Some x → take (k + 1) xs ≡ take k xs ++ x ∷ []
take_more [] k x at = absurd (cc)
take_more (y ∷ xs) zero x at = ap (λ z. z ∷ []) (same_Some y x at)
take_more (y ∷ xs) (suc k) x at = ap (λ n. take n (y ∷ xs)) (next k) ∙ ap (λ zs. y ∷ zs) (take_more xs k x at)
  where
    next : (k : ℕ) → suc k + 1 ≡ suc (k + 1)
    next k = omega arith

take_count : (xs : List JournalItem) (k : ℕ) (x : JournalItem) → slice_get xs k ≡ Some x → length (take k xs) ≡ k
take_count [] k x at = absurd (cc)
take_count (y ∷ xs) zero x at = refl
take_count (y ∷ xs) (suc k) x at = ap suc (take_count xs k x at)

-- of the first k + 1 items
pub first_kept : (flags : List Bool) (items : List JournalItem) (k : ℕ) (x : JournalItem) → slice_get items k ≡ Some x
    → kept_items 0 (flag_at flags) (take (k + 1) items) ≡ kept_items 0 (flag_at flags) (take k items) ++ (if flag_at flags k then x ∷ [] else [])
first_kept flags items k x at = ap (kept_items 0 (flag_at flags)) (take_more items k x at) ∙ kept_more 0 (flag_at flags) (take k items) x
    ∙ ap (λ n. kept_items 0 (flag_at flags) (take k items) ++ (if flag_at flags n then x ∷ [] else [])) (ap (λ n. 0 + n) (take_count items k x at) ∙ omega arith)

pub set_again : {A : Type 0} (xs : List A) (i : ℕ) (x y : A) → slice_set (slice_set xs i x) i y ≡ slice_set xs i y
set_again [] i x y = refl
set_again (z ∷ xs) zero x y = refl
set_again (z ∷ xs) (suc i) x y = ap (λ zs. z ∷ zs) (set_again xs i x y)

pub hit : {A : Type 0} (xs : List A) (n i : ℕ) (x : A) → length xs ≡ n → i < n → slice_get (slice_set xs i x) i ≡ Some x
hit xs n i x count low = set_hit xs i x (subst (λ m. i < m) (sym count) low)

-- where the item after the first k isn't left
pub first_unkept : (flags : List Bool) (items : List JournalItem) (k : ℕ) → k < length items → flag_at flags k ≡ false
    → kept_items 0 (flag_at flags) (take (k + 1) items) ≡ kept_items 0 (flag_at flags) (take k items)
first_unkept flags items k low unkept = first_kept flags items k (get_or items k no_item) (slice_get-get_or items k no_item low)
    ∙ ap (λ z. kept_items 0 (flag_at flags) (take k items) ++ (if z then get_or items k no_item ∷ [] else [])) unkept ∙ append-nil (kept_items 0 (flag_at flags) (take k items))
  where
    no_item : JournalItem
    no_item = Undone 0 0 0

pub first_kept_is : (flags : List Bool) (items : List JournalItem) (k : ℕ) (x : JournalItem) → slice_get items k ≡ Some x → flag_at flags k ≡ true
    → kept_items 0 (flag_at flags) (take (k + 1) items) ≡ kept_items 0 (flag_at flags) (take k items) ++ x ∷ []
first_kept_is flags items k x at kept = first_kept flags items k x at ∙ ap (λ z. kept_items 0 (flag_at flags) (take k items) ++ (if z then x ∷ [] else [])) kept

-- all of them
pub all_kept : (all : List JournalItem) (flags : List Bool) (rows : List ThreadRows) (s : RowsTold) (k : ℕ) → length all ≤ k → AreItemsTold all flags rows s
    → kept_items 0 (flag_at flags) (take k all) ≡ items_left s
all_kept all flags rows s k long are =
    ap (kept_items 0 (flag_at flags)) (take_all k all long ∙ are.items) ∙ kept_same 0 (flag_at flags) s.left s.items (λ i low. at i low (are.left i low))
  where
    at : (i : ℕ) → i < length s.items → slice_get flags i ≡ Some (s.left i) → flag_at flags (0 + i) ≡ s.left (0 + i)
    at i low is = ap (flag_at flags) (omega arith) ∙ same_Some (flag_at flags i) (s.left i) (sym (slice_get-get_or flags i false (subst (λ n. i < n) (sym are.count) low)) ∙ is) ∙ ap s.left (omega arith)

pub undos_after : (events : List Event) (undos : List Undo) (kept : List JournalItem) (x : JournalItem) → events ≡ events_in kept → undos ≡ undos_in 0 kept
    → undos ++ undos_in (length events) (x ∷ []) ≡ undos_in 0 (kept ++ x ∷ [])
undos_after events undos kept x events_are undos_are =
    ap (λ us. us ++ undos_in (length events) (x ∷ [])) undos_are ∙ ap (λ n. undos_in 0 kept ++ undos_in n (x ∷ [])) (ap length events_are ∙ none_before (length (events_in kept)))
    ∙ sym (undos_more 0 kept (x ∷ []))
  where
    none_before : (n : ℕ) → n ≡ 0 + n
    none_before n = omega arith
