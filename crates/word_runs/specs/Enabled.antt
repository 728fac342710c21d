-- Which threads can go on (JLS 12.4.2, 17.1, 17.2).
use Rattle.std.specs.Prelude.{ℕ, ◌+◌, ◌&&◌, ◌||◌, Bool, false, true, not, nat_eq}
use Rattle.op_core.specs.declared.Next.{Next}
use Rattle.op_core.specs.declared.Next.TheVariants.{Silent, Want, Ended}
use Rattle.op_core.specs.declared.Op.TheVariants.{Read, Write, Enter, Rewake, Join, Init}
use Rattle.op_core.specs.ThreadCode.{Code}
use Rattle.section_state.specs.declared.State.TheVariants.{Revoking}
use Rattle.heap_words.specs.declared.areas.Area.TheVariants.{Section, Thread, Wait, Class, Object}
use Rattle.heap_words.specs.Words.{tag_section, tag_of, value_of, wait_state, class_state, class_thread}
use Rattle.monitor_core.specs.declared.Contend.{Contend}
use Rattle.monitor_core.specs.declared.Contend.TheVariants.{Busy}
use Rattle.monitor_core.specs.Contention.{is_in, contend_for}
use Rattle.monitor_core.specs.Monitors.{monitor_section}
use Rattle.step_port.specs.Words.{Words}
use Rattle.thread_automaton.specs.ThreadState.{ThreadState}
use Rattle.thread_automaton.specs.Checks.{is_safe}
use Rattle.thread_automaton.specs.NextMove.{word_place}

abbrev pub is_busy : Contend → Bool
is_busy (Busy why) = true
is_busy other = false

-- the monitor of an object is another thread's, whose level can't be revoked now
abbrev pub is_monitor_busy : {S : Type 0} → Words → ThreadState S → ℕ → Bool
is_monitor_busy w th r = is_busy (contend_for (w (Object (r + 1))) (w (Section (monitor_section (w (Object (r + 1)))))) th.section th.priority)

-- the word at a place isn't safe for the thread, and the section that wrote it is being undone
abbrev pub is_being_undone : {S : Type 0} → Words → ThreadState S → ℕ → Bool
is_being_undone w th at = not (is_safe th (w (Object at))) && is_in Revoking (w (Section (tag_section (tag_of (w (Object at))))))

-- the thread of this number is in the wait set of an object, and isn't notified
abbrev pub is_waiting : Words → ℕ → Bool
is_waiting w t = nat_eq (wait_state (w (Wait t))) 1

-- the thread that the object at r has started is there, and hasn't ended
abbrev pub is_alive : Words → ℕ → Bool
is_alive w r = not (nat_eq (w (Object (r + 3))) 0) && nat_eq (w (Thread (value_of (w (Object (r + 3)))))) 0

-- another thread than t initializes the class of this word
abbrev pub is_of_another : ℕ → ℕ → Bool
is_of_another t word = nat_eq (class_state word) 1 && not (nat_eq (class_thread word) t)

-- Another thread has to go on before what the thread wants can be done. No code that goes in order is at its end while its thread
-- isn't over.
abbrev pub has_to_wait_for : {S : Type 0} → Words → ThreadState S → Next → Bool
has_to_wait_for w th (Want (Enter r)) = is_monitor_busy w th r
has_to_wait_for w th (Want (Rewake r)) = is_waiting w th.number || is_monitor_busy w th r
has_to_wait_for w th (Want (Read r i)) = is_being_undone w th (word_place r i)
has_to_wait_for w th (Want (Write r i v)) = is_being_undone w th (word_place r i)
has_to_wait_for w th (Want (Join r)) = is_alive w r
has_to_wait_for w th (Want (Init c)) = is_of_another th.number (w (Class c))
has_to_wait_for w th (Want op) = false
has_to_wait_for w th Silent = false
has_to_wait_for w th Ended = true

-- the section that the thread has open is to be undone
abbrev pub has_to_undo : {S : Type 0} → Words → ThreadState S → Bool
has_to_undo w th = not (nat_eq th.section 0) && is_in Revoking (w (Section th.section))

-- A thread that hasn't ended can go on if its own section is to be undone, or if it has to wait for no other one.
abbrev pub is_enabled : {S : Type 0} → Code S → Words → ThreadState S → Bool
is_enabled code w th = not th.over && (has_to_undo w th || not (has_to_wait_for w th (code.next th.local)))
