-- The parts of an ordinary state that shared words stand for.
use Rattle.std.specs.Prelude.{ℕ, ◌+◌, Bool, ◌&&◌, Option, None, Some, nat_eq, nat_lt, if◌then◌else◌}
use Rattle.op_core.specs.OrdinaryState.{Object, Monitor, free, held, ClassState, unready, claimed, ready, bad}
use Rattle.heap_words.specs.declared.areas.Area.{Area}
use Rattle.heap_words.specs.Words.{value_of, class_state, class_thread}
use Rattle.section_state.specs.SectionWord.{owner_of}
use Rattle.monitor_core.specs.Monitors.{monitor_section, monitor_depth}
use Rattle.step_port.specs.Words.{Words}

-- In what follows w are the shared words, r is a reference and the last argument is the object that it names, if any.
-- `is_thread` says which class numbers are those of thread classes: word 1 of their objects is the start word, which
-- isn't a word of the state.

abbrev pub word_in : (ℕ → Bool) → Words → ℕ → ℕ → Option Object → ℕ
word_in is_thread w r i None = 0
word_in is_thread w r i (Some o) =
    if nat_lt i o.words then (if is_thread o.class && nat_eq i 1 then 0 else value_of (w (Area.Object (r + 2 + i)))) else 0

-- the number of the thread that it has started, or 0
abbrev pub start_in : (ℕ → Bool) → Words → ℕ → Option Object → ℕ
start_in is_thread w r None = 0
start_in is_thread w r (Some o) = if is_thread o.class then value_of (w (Area.Object (r + 3))) else 0

-- the monitor of this word: its owner is the thread whose section holds it
abbrev pub monitor_of : Words → ℕ → Monitor
monitor_of w m = if nat_eq m 0 then free else held (owner_of (w (Area.Section (monitor_section m)))) (monitor_depth m)

abbrev pub monitor_in : Words → ℕ → Option Object → Monitor
monitor_in w r None = free
monitor_in w r (Some o) = monitor_of w (w (Area.Object (r + 1)))

-- how far the class of this word is
abbrev pub class_of : ℕ → ClassState
class_of word =
    if nat_eq (class_state word) 1 then claimed (class_thread word)
    else if nat_eq (class_state word) 2 then ready
    else if nat_eq (class_state word) 3 then bad
    else unready
