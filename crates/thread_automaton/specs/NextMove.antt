-- What a thread does next.
use Rattle.std.specs.Prelude.{ℕ, ◌+◌, ◌&&◌, not, List, [], ◌∷◌, filter, reverse, nat_eq, nat_le, if◌then◌else◌}
use Rattle.op_core.specs.declared.Limit.TheVariants.{Turns}
use Rattle.op_core.specs.declared.Op.{Op}
use Rattle.op_core.specs.declared.Op.TheVariants.{ClassOf, Read, Write, New, Enter, Exit, Wait, Rewake, Print, Start, Join, Init, InitDone, End}
use Rattle.op_core.specs.declared.Next.{Next}
use Rattle.op_core.specs.declared.Next.TheVariants.{Silent, Want, Ended}
use Rattle.op_core.specs.ThreadCode.{Code, leaves_any}
use Rattle.heap_words.specs.declared.words.ClassWord.TheVariants.{Ready, Bad}
use Rattle.heap_words.specs.Words.{class_word_of}
use Rattle.section_state.specs.SectionWord.{revoke_of, undone_of}
use Rattle.write_log.specs.declared.Noted.{Noted}
use Rattle.monitor_core.specs.Monitors.{monitor_word}
use Rattle.step_port.specs.declared.step.ThreadWord.{ThreadWord}
use Rattle.step_port.specs.declared.step.Step.{Step}
use Rattle.step_port.specs.declared.step.Step.TheVariants.{LoadWord, RestoreWord, LoadSection, Pin, MarkUndone, LoadMonitor, SetDepth, Release, TakeWords, Ticket, EndThread, LoadThread, LoadWait, LoadClass, SettleClass}
use Rattle.thread_automaton.specs.declared.Bounds.{Bounds}
use Rattle.thread_automaton.specs.declared.Move.{Move}
use Rattle.thread_automaton.specs.declared.Move.TheVariants.{Over, Quiet, Stop, Make}
use Rattle.thread_automaton.specs.declared.Attempt.{Attempt}
use Rattle.thread_automaton.specs.declared.Attempt.TheVariants.{Begin, Look, Checked, Fixed, Meets, Undoing, Full}
use Rattle.thread_automaton.specs.declared.Held.{Held}
use Rattle.thread_automaton.specs.ThreadState.{ThreadState, Mark, is_open, own_word, mark_of, noted_since, held_as, from_level}

-- it pins its section, with all levels that are open
abbrev pub own_pin : {S : Type 0} → ThreadState S → Step
own_pin th = Pin th.section (own_word th) th.levels

-- a step that can't be taken back: first comes the pin of the own section, where a level is open that wasn't seen pinned
abbrev pub pinned_then : {S : Type 0} → ThreadState S → Step → Step
pinned_then th step = if is_open th then own_pin th else step

-- where an object has its word number i: after its header and its monitor
abbrev pub word_place : ℕ → ℕ → ℕ
word_place r i = r + 2 + i

-- how many words a new object takes, its header and its monitor among them
abbrev pub words_asked : {S : Type 0} → Code S → S → ℕ → ℕ → ℕ
words_asked code l c n = 2 + code.words l c n

-- the step with which an attempt at an operation begins, once the own section was looked at
abbrev pub first_step : {S : Type 0} → Code S → ThreadState S → Op → Step
first_step code th (ClassOf r) = LoadWord r
first_step code th (Read r i) = LoadWord (word_place r i)
first_step code th (Write r i v) = LoadWord (word_place r i)
first_step code th (New c n) = TakeWords (words_asked code th.local c n)
first_step code th (Enter r) = LoadMonitor r
first_step code th (Exit r) = LoadMonitor r
first_step code th (Wait r) = LoadMonitor r
first_step code th (Rewake r) = LoadWait th.number
first_step code th (Op.Notify r) = LoadMonitor r
first_step code th (Print x) = pinned_then th Ticket
first_step code th (Start r p) = LoadThread (ThreadWord.Start r)
first_step code th (Join r) = LoadThread (ThreadWord.Start r)
first_step code th (Init c) = LoadClass c
first_step code th (InitDone c ok) = pinned_then th (SettleClass c (class_word_of (if ok then Ready else Bad)))
first_step code th (End x) = pinned_then th (EndThread th.number)

-- the word of a monitor that the own section holds so
abbrev pub held_word : ℕ → Held → ℕ
held_word s h = monitor_word s h.depth h.level

-- of the monitors that were held as a level opened, those that now have another depth, as they were then; the one that was
-- taken first comes first
abbrev pub deepened_since : Mark → List Held → List Held
deepened_since mark held = filter (λ h. not (nat_eq (held_as h.object held).depth h.depth)) (reverse mark.held)

-- Undoing to level n, once each word that was logged since is put back and each monitor has its depth of then: each
-- monitor that was taken since is released, the last one first, and then the section, whose word was w, is marked as
-- undone so far.
abbrev pub release_step : ℕ → ℕ → List Held → Step
release_step s w (h ∷ held) = Release h.object
release_step s w [] = MarkUndone s (undone_of w)

-- before that each monitor that was held already gets its depth of then, the one that was taken first first
abbrev pub depth_step : ℕ → ℕ → List Held → List Held → Step
depth_step s w (h ∷ rest) taken = SetDepth h.object (held_word s h)
depth_step s w [] taken = release_step s w taken

-- and before that each word that was logged since is put back, the last one first
abbrev pub undo_step : ℕ → ℕ → List Noted → List Held → List Held → Step
undo_step s w (x ∷ log) deepened taken = RestoreWord x.at x.old
undo_step s w [] deepened taken = depth_step s w deepened taken

-- the step with which the thread goes on undoing its section, whose word was w, to level n
abbrev pub undo_next : {S : Type 0} → ThreadState S → ℕ → ℕ → Step
undo_next th w n =
    let mark = mark_of th n in
    undo_step th.section w (noted_since mark.noted th.log) (deepened_since mark th.held) (from_level n th.held)

-- A silent step of the code. Where it would end a frame that was on top as a level opened, and that level wasn't seen
-- pinned, it isn't made yet, and this step towards the pin is made in its place.
abbrev pub silent_move : {S : Type 0} → Code S → ThreadState S → Step → Move
silent_move code th towards = if is_open th && leaves_any code th.saved th.local then Make towards else Quiet

-- An attempt inside a level that wasn't seen pinned begins with a look at the section's word, and so does one after a
-- lost exchange of that word.
abbrev pub move_of : {S : Type 0} → Code S → ThreadState S → Next → Attempt → Move
move_of code th next (Fixed step) = Make step
move_of code th next (Meets s level) = Make (LoadSection s)
move_of code th next (Undoing w) = Make (undo_next th w (revoke_of w))
move_of code th next (Full limit) = Stop limit
move_of code th Silent Look = Make (LoadSection th.section)
move_of code th (Want op) Look = Make (LoadSection th.section)
move_of code th Silent Begin = silent_move code th (LoadSection th.section)
move_of code th Silent Checked = silent_move code th (own_pin th)
move_of code th (Want op) Begin = if is_open th then Make (LoadSection th.section) else Make (first_step code th op)
move_of code th (Want op) Checked = Make (first_step code th op)
move_of code th Ended attempt = Over

-- What a thread does next. The limit of its counted turns comes before all else but its end.
abbrev pub next_move : {S : Type 0} → Code S → Bounds → ThreadState S → Move
next_move code b th =
    if th.over then Over
    else if nat_le b.limits.turns th.counted then Stop Turns
    else move_of code th (code.next th.local) th.attempt
