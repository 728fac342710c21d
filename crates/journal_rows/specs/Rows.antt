-- Rows of a journal in memory, and what was told of which they are.
use Rattle.std.specs.Prelude.{◌≡◌, ◌<◌, ◌≤◌, ℕ, zero, suc, ◌&&◌, Bool, true, false, Some, List, [], ◌∷◌, length, slice_get, slice_set, get_or, nat_le, if◌then◌else◌}
use Rattle.trace_journal.specs.declared.item.JournalItem.{JournalItem}
use Rattle.journal_rows.specs.declared.thread_rows.ThreadRows.{ThreadRows}
use Rattle.journal_rows.specs.declared.journal_rows.JournalRows.{JournalRows}
use Rattle.journal_rows.specs.Leaving.{none_open}
use Rattle.journal_rows.specs.Told.{RowsTold, is_event_of}

-- the numbers below n that pass a test, the greatest first
abbrev pub numbers_below : (ℕ → Bool) → ℕ → List ℕ
numbers_below test zero = []
numbers_below test (suc n) = if test n then n ∷ numbers_below test n else numbers_below test n

-- item i is an event of thread t that came after this many, and is left
abbrev pub is_listed : RowsTold → ℕ → ℕ → ℕ → Bool
is_listed s t first i = (nat_le first i && is_event_of t (slice_get s.items i)) && s.left i

-- the events of thread t since its outermost level opened that are left; none where no level is open
abbrev pub listed_since : RowsTold → ℕ → List ℕ → List ℕ
listed_since s t [] = []
listed_since s t (first ∷ levels) = numbers_below (is_listed s t first) (length s.items)

-- no level opened before the outermost one, or after there were more than n items
abbrev pub OpenedWithin : ℕ → List ℕ → Type 0
OpenedWithin n [] = Unit {0}
OpenedWithin n (first ∷ levels) = (first ≤ n) × ((k opened : ℕ) → slice_get levels k ≡ Some opened → (first ≤ opened) × (opened ≤ n))

-- what is kept of a thread
pub record IsThreadOf (s : RowsTold) (t : ℕ) (x : ThreadRows) : Type 0 where
  pub opened : x.opened.items ≡ s.levels t
  pub back : x.back ≡ s.back t
  pub events : x.events ≡ listed_since s t (s.levels t)
  pub within : OpenedWithin (length s.items) (s.levels t)

-- These items, the flags beside them, and what is kept of the threads by their numbers, are those of which this was told.
pub record AreItemsTold (all : List JournalItem) (flags : List Bool) (rows : List ThreadRows) (s : RowsTold) : Type 0 where
  pub items : all ≡ s.items
  pub count : length flags ≡ length s.items
  pub left : (i : ℕ) → i < length s.items → slice_get flags i ≡ Some (s.left i)
  pub later : (i : ℕ) → length s.items ≤ i → s.left i ≡ true
  pub threads : (t : ℕ) (x : ThreadRows) → slice_get rows t ≡ Some x → IsThreadOf s t x

-- The rows are those of which this was told.
abbrev pub AreRowsTold : JournalRows → RowsTold → Type 0
AreRowsTold rows s = AreItemsTold rows.items.items rows.left.items rows.threads.items s

-- no thread has a level open, or has put words back
abbrev pub AreFresh : List ThreadRows → Type 0
AreFresh threads = (t : ℕ) (x : ThreadRows) → slice_get threads t ≡ Some x → (x.opened.items ≡ []) × (x.back ≡ 0) × (x.events ≡ [])

-- the flag beside the item of a number
abbrev pub flag_at : List Bool → ℕ → Bool
flag_at flags i = get_or flags i false

-- the thread of a number is now another one, of which this is so
pub record ThreadChanges (P : ThreadRows → ThreadRows → Type 0) (t : ℕ) (old new : List ThreadRows) : Type 0 where
  pub before : ThreadRows
  pub after : ThreadRows
  pub at : slice_get old t ≡ Some before
  pub put : new ≡ slice_set old t after
  pub so : P before after

-- an event of the thread came with this number
pub record Notes (number : ℕ) (x y : ThreadRows) : Type 0 where
  pub opened : y.opened.items ≡ x.opened.items
  pub back : y.back ≡ x.back
  pub events : y.events ≡ (if none_open x.opened.items then x.events else number ∷ x.events)

-- it is as it was
pub record IsAsBefore (x y : ThreadRows) : Type 0 where
  pub opened : y.opened.items ≡ x.opened.items
  pub back : y.back ≡ x.back
  pub events : y.events ≡ x.events
