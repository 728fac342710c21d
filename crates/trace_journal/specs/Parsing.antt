-- What a line of a journal says, read from its front.
use Rattle.std.specs.Prelude.{ℕ, ◌==◌, ◌&&◌, Bool, List, [], ◌∷◌, codes, nat_le, if◌then◌else◌, Option, Some, None, option_map, true, false}
use Rattle.std.specs.Option.{option_and_then}
use Rattle.std.specs.Str.{bytes_eq}
use Rattle.decimal_numbers.specs.Numbers.{are_digits, has_no_leading_zero, number_up_to}
use Rattle.op_core.specs.declared.Line.TheVariants.{Empty}
use Rattle.op_core.specs.declared.Op.{Op}
use Rattle.op_core.specs.declared.Op.TheVariants.{ClassOf, Read, Write, New, Enter, Exit, Wait, Rewake, Notify, Print, Start, Join, Init, InitDone, End}
use Rattle.op_core.specs.declared.Reply.{Reply}
use Rattle.op_core.specs.declared.Reply.TheVariants.{Class, Value, Made, Done, NotOwner, Woken, Number, Already, Ready, Bad, Claimed}
use Rattle.trace_journal.specs.declared.head.Head.{Head}
use Rattle.trace_journal.specs.declared.head.Head.TheVariants.{Known, Other, Wrong}
use Rattle.trace_journal.specs.declared.item.Answered.{Answered}
use Rattle.trace_journal.specs.declared.item.JournalItem.{JournalItem}
use Rattle.trace_journal.specs.declared.item.JournalItem.TheVariants.{Event as event_item, Undone}

-- a line up to its first space, and what comes after that space
pub record Cut : Type 0 where
  pub word : List ℕ
  pub rest : Option (List ℕ)

abbrev pub cut : List ℕ → Cut
cut [] = record { word = []; rest = None }
cut (b ∷ line) = if b == 32 then record { word = []; rest = Some line } else record { word = b ∷ (cut line).word; rest = (cut line).rest }

abbrev pub u32_of : List ℕ → Option ℕ
u32_of word = number_up_to 4294967295 word

-- a number from 1 to 255
abbrev pub small_of : List ℕ → Option ℕ
small_of word = option_and_then (λ n. if n == 0 then None else Some n) (number_up_to 255 word)

abbrev pub answered : Op → Reply → Option Answered
answered op reply = Some (record { op = op; reply = reply })

-- an operation that a line says without a number
abbrev pub of_none : List ℕ → Option Answered
of_none name =
    if bytes_eq name (codes "print") then answered (Print Empty) Done
    else if bytes_eq name (codes "end") then answered (End None) Done
    else None

-- .. one number
abbrev pub of_one : List ℕ → ℕ → Option Answered
of_one name a =
    if bytes_eq name (codes "enter") then answered (Enter a) Done
    else if bytes_eq name (codes "exit") then answered (Exit a) Done
    else if bytes_eq name (codes "wait") then answered (Wait a) Done
    else if bytes_eq name (codes "rewake") then answered (Rewake a) Done
    else if bytes_eq name (codes "join") then answered (Join a) Done
    else if bytes_eq name (codes "died") then answered (End (Some a)) Done
    else None

abbrev pub init_reply : ℕ → List ℕ → Option Answered
init_reply c word =
    if bytes_eq word (codes "ready") then answered (Init c) Ready
    else if bytes_eq word (codes "bad") then answered (Init c) Bad
    else if bytes_eq word (codes "claimed") then answered (Init c) Claimed
    else None

abbrev pub done_reply : ℕ → List ℕ → Option Answered
done_reply c word =
    if bytes_eq word (codes "ok") then answered (InitDone c true) Done
    else if bytes_eq word (codes "bad") then answered (InitDone c false) Done
    else None

-- .. one number and a word
abbrev pub of_word : List ℕ → ℕ → List ℕ → Option Answered
of_word name a word =
    if bytes_eq name (codes "exit") then (if bytes_eq word (codes "no") then answered (Exit a) NotOwner else None)
    else if bytes_eq name (codes "wait") then (if bytes_eq word (codes "no") then answered (Wait a) NotOwner else None)
    else if bytes_eq name (codes "notify") then (if bytes_eq word (codes "no") then answered (Notify a) NotOwner
    else option_map (λ n. record { op = Notify a; reply = Woken n }) (number_up_to 255 word))
    else if bytes_eq name (codes "init") then init_reply a word
    else if bytes_eq name (codes "done") then done_reply a word
    else None

-- .. two numbers and a word
abbrev pub of_three : List ℕ → ℕ → ℕ → List ℕ → Option Answered
of_three name a b word =
    if bytes_eq name (codes "class") then option_map (λ c. record { op = ClassOf a; reply = Class b c }) (u32_of word)
    else if bytes_eq name (codes "read") then option_map (λ c. record { op = Read a b; reply = Value c }) (u32_of word)
    else if bytes_eq name (codes "write") then option_map (λ c. record { op = Write a b c; reply = Done }) (u32_of word)
    else if bytes_eq name (codes "new") then option_map (λ c. record { op = New a b; reply = Made c }) (u32_of word)
    else if bytes_eq name (codes "start") && nat_le 1 b && nat_le b 10 then (if bytes_eq word (codes "no") then answered (Start a b) Already
    else option_map (λ n. record { op = Start a b; reply = Number n }) (number_up_to 255 word))
    else None

abbrev pub with_three : List ℕ → ℕ → ℕ → Cut → Option Answered
with_three name a b c = elim c.rest [
  | None ↦ of_three name a b c.word
  | Some rest ↦ None
]

abbrev pub with_word : List ℕ → ℕ → Cut → Option Answered
with_word name a c = elim c.rest [
  | None ↦ of_word name a c.word
  | Some rest ↦ option_and_then (λ b. with_three name a b (cut rest)) (u32_of c.word)
]

abbrev pub with_one : List ℕ → Cut → Option Answered
with_one name c = elim c.rest [
  | None ↦ option_and_then (λ a. of_one name a) (u32_of c.word)
  | Some rest ↦ option_and_then (λ a. with_word name a (cut rest)) (u32_of c.word)
]

-- the words of an operation and its reply
abbrev pub answered_of : Cut → Option Answered
answered_of c = elim c.rest [
  | None ↦ of_none c.word
  | Some rest ↦ with_one c.word (cut rest)
]

-- the event of a thread
abbrev pub event_with : ℕ → ℕ → Answered → JournalItem
event_with thread silent answered = event_item (record { thread = thread; silent = silent; op = answered.op; reply = answered.reply })

abbrev pub event_of : ℕ → Cut → Option JournalItem
event_of thread c =
    option_and_then (λ silent. option_and_then (λ words. option_map (event_with thread silent) (answered_of (cut words))) c.rest) (number_up_to 1000000000 c.word)

abbrev pub undone_words : ℕ → Cut → Option JournalItem
undone_words thread c = option_and_then (λ level. option_and_then (λ words. option_map (Undone thread level) (u32_of words)) c.rest) (small_of c.word)

abbrev pub undone_of : Cut → Option JournalItem
undone_of c = option_and_then (λ thread. option_and_then (λ words. undone_words thread (cut words)) c.rest) (small_of c.word)

-- what a line says, by its first word and those after it
abbrev pub item_of : ℕ → List ℕ → List ℕ → Option JournalItem
item_of version word words =
    if bytes_eq word (codes "undone") then (if version == 2 then undone_of (cut words) else None)
    else option_and_then (λ thread. event_of thread (cut words)) (small_of word)

abbrev pub item_at : ℕ → Cut → Option JournalItem
item_at version c = option_and_then (λ words. item_of version c.word words) c.rest

-- the version that a first line names
abbrev pub version_at : List ℕ → Head
version_at number =
    if bytes_eq number (codes "1") then Known 1
    else if bytes_eq number (codes "2") then Known 2
    else if has_no_leading_zero number && are_digits number then Other
    else Wrong

-- what the first line of a text is
abbrev pub head_at : Cut → Head
head_at c = elim c.rest [
  | None ↦ Wrong
  | Some number ↦ if bytes_eq c.word (codes "jrev-trace") then version_at number else Wrong
]

abbrev pub is_number : ℕ → Option ℕ → Bool
is_number events (Some n) = n == events
is_number events None = false

-- whether a line is the last one of a journal with this number of events
abbrev pub ends_at : ℕ → Cut → Bool
ends_at events c = elim c.rest [
  | None ↦ false
  | Some number ↦ if bytes_eq c.word (codes "end") then is_number events (u32_of number) else false
]
