-- How long the lines and the text of a journal are.
use Rattle.std.proofs.Common.{◌≡◌, ℕ, ◌+◌, ◌*◌, ◌<◌, ◌≤◌, ◌^◌, true, false, codes, List, [], ◌∷◌, ◌++◌, length, map, Some, None, refl, sym, ap, ◌∙◌, subst, arith, inl, inr, length-append}
use Rattle.std.specs.List.{AllByRecursion, concat}
use Rattle.std.specs.Fmt.{decimal}
use Rattle.std.proofs.lemmas.Fmt.{length-decimal-le}
use Rattle.op_core.specs.declared.Event.{Event}
use Rattle.op_core.specs.declared.Op.{Op}
use Rattle.op_core.specs.declared.Op.TheVariants.{ClassOf, Read, Write, New, Enter, Exit, Wait, Rewake, Notify, Print, Start, Join, Init, InitDone, End}
use Rattle.op_core.specs.declared.Reply.{Reply}
use Rattle.op_core.specs.declared.Reply.TheVariants.{Class, Value, Made, Done, NotOwner, Woken, Number, Already, Ready, Bad, Claimed}
use Rattle.op_core.specs.InPlaceList.{IsInRange}
use Rattle.trace_journal.specs.declared.item.JournalItem.{JournalItem}
use Rattle.trace_journal.specs.declared.item.JournalItem.TheVariants.{Event as event_item, Undone}
use Rattle.trace_journal.specs.Spelling.{joined, event_words, event_line, undone_line, spelled, head_line, end_line, IsReplyInRange, HasLine, IsEventItem, IsItem}
use Rattle.trace_journal.specs.Text.{ended, events_in, text_lines, text_of}
use Rattle.trace_journal.specs.Reading.{IsKnown}
use Rattle.trace_journal.specs.Laws.{JournalsFit}

abbrev AreShort : List (List ℕ) → Type 0
AreShort = AllByRecursion (λ word. length word ≤ 10)

-- numbers of 32 bits have at most ten digits
number_short : (n : ℕ) → n < 2 ^ 32 → length (decimal n) ≤ 10
number_short n below = length-decimal-le 10 n (omega arith) (omega (arith, below)) (omega (arith, below))

small_short : (n : ℕ) → n < 2 ^ 8 → length (decimal n) ≤ 10
small_short n below = number_short n (omega (arith, below))

-- words and the spaces between them
joined_short : (words : List (List ℕ)) → AreShort words → length (joined words) ≤ length words * 11
joined_short [] short = omega arith
joined_short (w ∷ []) short = let first = short.0 in omega (arith, first)
joined_short (w ∷ v ∷ words) short =
    let first = short.0 in
    let later = joined_short (v ∷ words) short.1 in
    let long = length-append w (32 ∷ joined (v ∷ words)) in
    omega (arith, first, later, long)

-- an operation with its reply has at most four words
few_words : (op : Op) (reply : Reply) → length (event_words op reply) ≤ 4
few_words (ClassOf r) (Class c l) = omega arith
few_words (Read r i) (Value v) = omega arith
few_words (Write r i v) Done = omega arith
few_words (New c l) (Made r) = omega arith
few_words (Enter r) Done = omega arith
few_words (Exit r) Done = omega arith
few_words (Exit r) NotOwner = omega arith
few_words (Wait r) Done = omega arith
few_words (Wait r) NotOwner = omega arith
few_words (Rewake r) Done = omega arith
few_words (Notify r) (Woken n) = omega arith
few_words (Notify r) NotOwner = omega arith
few_words (Print x) Done = omega arith
few_words (Start r p) (Number n) = omega arith
few_words (Start r p) Already = omega arith
few_words (Join r) Done = omega arith
few_words (Init c) Ready = omega arith
few_words (Init c) Bad = omega arith
few_words (Init c) Claimed = omega arith
few_words (InitDone c true) Done = omega arith
few_words (InitDone c false) Done = omega arith
few_words (End None) Done = omega arith
few_words (End (Some c)) Done = omega arith
few_words _ _ = omega arith

short_words : (op : Op) (reply : Reply) → IsInRange op → IsReplyInRange reply → HasLine op → AreShort (event_words op reply)
short_words (ClassOf r) (Class c l) op reply line = (omega arith, (number_short r op, (number_short c reply.0, (number_short l reply.1, tt))))
short_words (Read r i) (Value v) op reply line = (omega arith, (number_short r op.0, (number_short i op.1, (number_short v reply, tt))))
short_words (Write r i v) Done op reply line = (omega arith, (number_short r op.0, (number_short i op.1, (number_short v op.2, tt))))
short_words (New c l) (Made r) op reply line = (omega arith, (number_short c op.0, (number_short l op.1, (number_short r reply, tt))))
short_words (Enter r) Done op reply line = (omega arith, (number_short r op, tt))
short_words (Exit r) Done op reply line = (omega arith, (number_short r op, tt))
short_words (Exit r) NotOwner op reply line = (omega arith, (number_short r op, (omega arith, tt)))
short_words (Wait r) Done op reply line = (omega arith, (number_short r op, tt))
short_words (Wait r) NotOwner op reply line = (omega arith, (number_short r op, (omega arith, tt)))
short_words (Rewake r) Done op reply line = (omega arith, (number_short r op, tt))
short_words (Notify r) (Woken n) op reply line = (omega arith, (number_short r op, (small_short n reply, tt)))
short_words (Notify r) NotOwner op reply line = (omega arith, (number_short r op, (omega arith, tt)))
short_words (Print x) Done op reply line = (omega arith, tt)
short_words (Start r p) (Number n) op reply line = (omega arith, (number_short r op.0, (small_short p op.1, (small_short n reply, tt))))
short_words (Start r p) Already op reply line = (omega arith, (number_short r op.0, (small_short p op.1, (omega arith, tt))))
short_words (Join r) Done op reply line = (omega arith, (number_short r op, tt))
short_words (Init c) Ready op reply line = (omega arith, (number_short c op, (omega arith, tt)))
short_words (Init c) Bad op reply line = (omega arith, (number_short c op, (omega arith, tt)))
short_words (Init c) Claimed op reply line = (omega arith, (number_short c op, (omega arith, tt)))
short_words (InitDone c true) Done op reply line = (omega arith, (number_short c op, (omega arith, tt)))
short_words (InitDone c false) Done op reply line = (omega arith, (number_short c op, (omega arith, tt)))
short_words (End None) Done op reply line = (omega arith, tt)
short_words (End (Some c)) Done op reply line = (omega arith, (number_short c line, tt))
short_words _ _ op reply line = tt

thread_short : (n : ℕ) → n < 2 ^ 8 → length (decimal n) ≤ 3
thread_short n below = length-decimal-le 3 n (omega arith) (omega (arith, below)) (omega (arith, below))

event_short : (e : Event) → IsEventItem e → length (event_line e) ≤ 62
event_short e is =
    let said = is.said in
    let few = few_words e.op e.reply in
    let last = joined_short (event_words e.op e.reply) (short_words e.op e.reply said.op_range said.reply_range said.line) in
    let thread = thread_short e.thread is.thread.1 in
    let silent = let s = is.silent in number_short e.silent (omega (arith, s)) in
    let inner = length-append (decimal e.silent) (32 ∷ joined (event_words e.op e.reply)) in
    let outer = length-append (decimal e.thread) (32 ∷ (decimal e.silent ++ 32 ∷ joined (event_words e.op e.reply))) in
    omega (arith, few, last, thread, silent, inner, outer)

undone_short : (t l k : ℕ) → t < 2 ^ 8 → l < 2 ^ 8 → k < 2 ^ 32 → length (undone_line t l k) ≤ 62
undone_short t l k thread level words =
    let long = joined_short (codes "undone" ∷ decimal t ∷ decimal l ∷ decimal k ∷ []) (omega arith, (small_short t thread, (small_short l level, (number_short k words, tt)))) in
    omega (arith, long)

item_short : (version : ℕ) (item : JournalItem) → IsItem version item → length (spelled item) ≤ 62
item_short version (event_item e) is = event_short e is
item_short version (Undone t l k) is = undone_short t l k is.1.1 is.2.1 is.3

end_short : (count : ℕ) → count < 2 ^ 32 → length (end_line count) ≤ 62
end_short count below = let long = joined_short (codes "end" ∷ decimal count ∷ []) (omega arith, (number_short count below, tt)) in omega (arith, long)

head_short : (version : ℕ) → IsKnown version → length (head_line version) ≤ 62
head_short version known =
    let below : version < 2 ^ 32 = elim known [
      | inl one ↦ omega (arith, one)
      | inr two ↦ omega (arith, two)
    ] in
    let long = joined_short (codes "jrev-trace" ∷ decimal version ∷ []) (omega arith, (number_short version below, tt)) in
    omega (arith, long)

-- a line with its end, and the lines after it
one_line : (line rest : List ℕ) (n : ℕ) → length line ≤ 62 → length rest ≤ n → length (ended line ++ rest) ≤ 63 + n
one_line line rest n short within =
    let inner = length-append line (10 ∷ []) in
    let outer = length-append (ended line) rest in
    omega (arith, short, within, inner, outer)

rest_fits : (version count : ℕ) (items : List JournalItem) → count < 2 ^ 32 → AllByRecursion (IsItem version) items → length (concat (map ended (map spelled items ++ end_line count ∷ []))) ≤ 63 * length items + 63
rest_fits version count [] below all = let long = one_line (end_line count) [] 0 (end_short count below) (omega arith) in omega (arith, long)
rest_fits version count (item ∷ items) below all =
    let later = rest_fits version count items below all.1 in
    let long = one_line (spelled item) (concat (map ended (map spelled items ++ end_line count ∷ []))) (63 * length items + 63) (item_short version item all.0) later in
    omega (arith, long)

few_events : (items : List JournalItem) → length (events_in items) ≤ length items
few_events [] = omega arith
few_events (event_item e ∷ items) = let later = few_events items in omega (arith, later)
few_events (Undone t l k ∷ items) = let later = few_events items in omega (arith, later)

pub journals_fit : JournalsFit
journals_fit version items known all few =
    let events = few_events items in
    let count = length (events_in items) in
    let rest = rest_fits version count items (omega (arith, events, few)) all in
    let long = one_line (head_line version) (concat (map ended (map spelled items ++ end_line count ∷ []))) (63 * length items + 63) (head_short version known) rest in
    omega (arith, long, few)
