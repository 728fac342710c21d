-- The lines of a journal, as they are spelled.
use Rattle.std.specs.Prelude.{◌≡◌, ℕ, ◌<◌, ◌≤◌, ◌^◌, List, [], ◌∷◌, ◌++◌, codes, Some, None, true, false}
use Rattle.std.specs.Fmt.{decimal}
use Rattle.op_core.specs.declared.Line.TheVariants.{Empty}
use Rattle.op_core.specs.declared.Op.{Op}
use Rattle.op_core.specs.declared.Op.TheVariants.{ClassOf, Read, Write, New, Enter, Exit, Wait, Rewake, Notify, Print, Start, Join, Init, InitDone, End}
use Rattle.op_core.specs.declared.Reply.{Reply}
use Rattle.op_core.specs.declared.Reply.TheVariants.{Class, Value, Made, Done, NotOwner, Woken, Number, Already, Ready, Bad, Claimed}
use Rattle.op_core.specs.declared.Event.{Event}
use Rattle.op_core.specs.Replies.{Fits}
use Rattle.op_core.specs.InPlaceList.{IsInRange}
use Rattle.trace_journal.specs.declared.item.JournalItem.{JournalItem}
use Rattle.trace_journal.specs.declared.item.JournalItem.TheVariants.{Event as event_item, Undone}

-- words joined by one space
abbrev pub joined : List (List ℕ) → List ℕ
joined [] = []
joined (w ∷ []) = w
joined (w ∷ v ∷ ws) = w ++ 32 ∷ joined (v ∷ ws)

-- the words of an operation and its reply
abbrev pub event_words : Op → Reply → List (List ℕ)
event_words (ClassOf r) (Class c l) = codes "class" ∷ decimal r ∷ decimal c ∷ decimal l ∷ []
event_words (Read r i) (Value v) = codes "read" ∷ decimal r ∷ decimal i ∷ decimal v ∷ []
event_words (Write r i v) Done = codes "write" ∷ decimal r ∷ decimal i ∷ decimal v ∷ []
event_words (New c l) (Made r) = codes "new" ∷ decimal c ∷ decimal l ∷ decimal r ∷ []
event_words (Enter r) Done = codes "enter" ∷ decimal r ∷ []
event_words (Exit r) Done = codes "exit" ∷ decimal r ∷ []
event_words (Exit r) NotOwner = codes "exit" ∷ decimal r ∷ codes "no" ∷ []
event_words (Wait r) Done = codes "wait" ∷ decimal r ∷ []
event_words (Wait r) NotOwner = codes "wait" ∷ decimal r ∷ codes "no" ∷ []
event_words (Rewake r) Done = codes "rewake" ∷ decimal r ∷ []
event_words (Notify r) (Woken n) = codes "notify" ∷ decimal r ∷ decimal n ∷ []
event_words (Notify r) NotOwner = codes "notify" ∷ decimal r ∷ codes "no" ∷ []
event_words (Print x) Done = codes "print" ∷ []
event_words (Start r p) (Number n) = codes "start" ∷ decimal r ∷ decimal p ∷ decimal n ∷ []
event_words (Start r p) Already = codes "start" ∷ decimal r ∷ decimal p ∷ codes "no" ∷ []
event_words (Join r) Done = codes "join" ∷ decimal r ∷ []
event_words (Init c) Ready = codes "init" ∷ decimal c ∷ codes "ready" ∷ []
event_words (Init c) Bad = codes "init" ∷ decimal c ∷ codes "bad" ∷ []
event_words (Init c) Claimed = codes "init" ∷ decimal c ∷ codes "claimed" ∷ []
event_words (InitDone c true) Done = codes "done" ∷ decimal c ∷ codes "ok" ∷ []
event_words (InitDone c false) Done = codes "done" ∷ decimal c ∷ codes "bad" ∷ []
event_words (End None) Done = codes "end" ∷ []
event_words (End (Some c)) Done = codes "died" ∷ decimal c ∷ []
event_words _ _ = []

abbrev pub event_line : Event → List ℕ
event_line e = joined (decimal e.thread ∷ decimal e.silent ∷ joined (event_words e.op e.reply) ∷ [])

abbrev pub undone_line : ℕ → ℕ → ℕ → List ℕ
undone_line t l k = joined (codes "undone" ∷ decimal t ∷ decimal l ∷ decimal k ∷ [])

abbrev pub spelled : JournalItem → List ℕ
spelled (event_item e) = event_line e
spelled (Undone t l k) = undone_line t l k

abbrev pub head_line : ℕ → List ℕ
head_line version = joined (codes "jrev-trace" ∷ decimal version ∷ [])

abbrev pub end_line : ℕ → List ℕ
end_line count = joined (codes "end" ∷ decimal count ∷ [])

-- The numbers of a reply are those of their types: 32 bits, and 8 bits for a thread's.
abbrev pub IsReplyInRange : Reply → Type 0
IsReplyInRange (Class c l) = (c < 2 ^ 32) × (l < 2 ^ 32)
IsReplyInRange (Value v) = v < 2 ^ 32
IsReplyInRange (Made r) = r < 2 ^ 32
IsReplyInRange (Woken n) = n < 2 ^ 8
IsReplyInRange (Number n) = n < 2 ^ 8
IsReplyInRange reply = Unit {0}

-- A line names no text that is printed, and priorities from 1 to 10 alone.
abbrev pub HasLine : Op → Type 0
HasLine (Print x) = x ≡ Empty
HasLine (Start r p) = (1 ≤ p) × (p ≤ 10)
HasLine (End (Some c)) = c < 2 ^ 32
HasLine op = Unit {0}

-- an operation with its reply that a line can say
pub record CanBeSaid (op : Op) (reply : Reply) : Type 0 where
  pub fits : Fits op reply
  pub op_range : IsInRange op
  pub reply_range : IsReplyInRange reply
  pub line : HasLine op

-- a step that a line can say
pub record IsEventItem (e : Event) : Type 0 where
  pub thread : (1 ≤ e.thread) × (e.thread < 2 ^ 8)
  pub silent : e.silent ≤ 1000000000
  pub said : CanBeSaid e.op e.reply

-- what a line of a journal of this version can say
abbrev pub IsItem : ℕ → JournalItem → Type 0
IsItem version (event_item e) = IsEventItem e
IsItem version (Undone t l k) = (version ≡ 2) × ((1 ≤ t) × (t < 2 ^ 8)) × ((1 ≤ l) × (l < 2 ^ 8)) × (k < 2 ^ 32)

-- a line of a journal of this version says this
abbrev pub Says : ℕ → List ℕ → JournalItem → Type 0
Says version line item = IsItem version item × (line ≡ spelled item)
