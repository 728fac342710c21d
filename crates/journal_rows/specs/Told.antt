-- What is told to the rows of a journal while a run goes on, and what it makes of them.
use Rattle.std.specs.Prelude.{ℕ, suc, ◌+◌, ◌&&◌, Bool, true, false, not, Option, None, Some, List, [], ◌∷◌, ◌++◌, length, take, slice_get, nat_eq, nat_le, if◌then◌else◌}
use Rattle.op_core.specs.declared.Event.{Event}
use Rattle.op_core.specs.OrdinaryState.{set_at}
use Rattle.trace_journal.specs.declared.item.JournalItem.{JournalItem}
use Rattle.trace_journal.specs.declared.item.JournalItem.TheVariants.{Event as event_item, Undone}

-- A thread is named by its number.
pub data RowCall : Type 0 where
  -- the event came
  event_came : Event → RowCall
  -- the thread opens a level of its section
  opens_a_level : ℕ → RowCall
  -- the thread closes the levels inside of the outermost n: what it did in them stays, as a part of the innermost of these
  closes_levels : ℕ → ℕ → RowCall
  -- the thread puts a word back
  puts_word_back : ℕ → RowCall
  -- the thread has undone the levels inside of the outermost n
  undoes_levels_to : ℕ → ℕ → RowCall
  -- the run ends while the thread is to undo the levels inside of the outermost n
  leaves_levels_out : ℕ → ℕ → RowCall

pub record RowsTold : Type 0 where
  -- the events and undoings so far, in order
  pub items : List JournalItem
  -- whether the item of this number, from 0, is left
  pub left : ℕ → Bool
  -- by thread: how many items there were as each of its open levels opened, the outermost first
  pub levels : ℕ → List ℕ
  -- by thread: how many words it has put back since it last undid levels
  pub back : ℕ → ℕ

-- nothing was told
abbrev pub nothing_told : RowsTold
nothing_told = record { items = []; left = λ i. true; levels = λ t. []; back = λ t. 0 }

-- the item is an event of thread t
abbrev pub is_event_of : ℕ → Option JournalItem → Bool
is_event_of t (Some (event_item e)) = nat_eq e.thread t
is_event_of t item = false

-- item i came after the level opened that has this number of items before it, if there is such a level
abbrev pub is_since : Option ℕ → ℕ → Bool
is_since None i = false
is_since (Some opened) i = nat_le opened i

-- the thread showed item i in a level inside of its outermost n
abbrev pub is_event_inside : RowsTold → ℕ → ℕ → ℕ → Bool
is_event_inside s t n i = is_event_of t (slice_get s.items i) && is_since (slice_get (s.levels t) n) i

-- its events in these levels aren't left, and the levels are no longer open
abbrev pub with_levels_out : ℕ → ℕ → RowsTold → RowsTold
with_levels_out t n s = record s { left = λ i. s.left i && not (is_event_inside s t n i); levels = set_at s.levels t (take n (s.levels t)) }

-- the undoing is an item too, which is always left
abbrev pub with_undoing : ℕ → ℕ → RowsTold → RowsTold
with_undoing t n s = record s { items = s.items ++ Undone t (n + 1) (s.back t) ∷ []; back = set_at s.back t 0 }

abbrev pub after_row_call : RowCall → RowsTold → RowsTold
after_row_call (event_came e) s = record s { items = s.items ++ event_item e ∷ [] }
after_row_call (opens_a_level t) s = record s { levels = set_at s.levels t (s.levels t ++ length s.items ∷ []) }
after_row_call (closes_levels t n) s = record s { levels = set_at s.levels t (take n (s.levels t)) }
after_row_call (puts_word_back t) s = record s { back = set_at s.back t (suc (s.back t)) }
after_row_call (undoes_levels_to t n) s = with_undoing t n (with_levels_out t n s)
after_row_call (leaves_levels_out t n) s = with_levels_out t n s

-- after these calls, the newest of which comes first
abbrev pub after_row_calls : List RowCall → RowsTold → RowsTold
after_row_calls [] s = s
after_row_calls (call ∷ calls) s = after_row_call call (after_row_calls calls s)

-- the items from number k on that are left
abbrev pub kept_items : ℕ → (ℕ → Bool) → List JournalItem → List JournalItem
kept_items k left [] = []
kept_items k left (item ∷ items) = if left k then item ∷ kept_items (suc k) left items else kept_items (suc k) left items

-- the items that are left
abbrev pub items_left : RowsTold → List JournalItem
items_left s = kept_items 0 s.left s.items
