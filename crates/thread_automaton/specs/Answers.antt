-- What the answer of a step makes of the thread that has made it.
use Rattle.std.specs.Prelude.{ℕ, suc, ◌+◌, Bool, ◌&&◌, nat_eq, nat_lt, nat_le, if◌then◌else◌}
use Rattle.op_core.specs.declared.Limit.TheVariants.{Heap, Sections, Threads}
use Rattle.op_core.specs.declared.Op.{Op}
use Rattle.op_core.specs.declared.Op.TheVariants.{New, Rewake, Print, Start}
use Rattle.op_core.specs.declared.Reply.{Reply}
use Rattle.op_core.specs.declared.Reply.TheVariants.{Made, Woken, Number, Already, Ready, Bad, Claimed}
use Rattle.op_core.specs.declared.Next.{Next}
use Rattle.op_core.specs.declared.Next.TheVariants.{Want}
use Rattle.op_core.specs.ThreadCode.{Code}
use Rattle.heap_words.specs.Words.{value_of, pack_header, wait_object, wait_state, class_state, class_thread}
use Rattle.heap_words.specs.declared.areas.Area.{Area}
use Rattle.heap_words.specs.declared.areas.Area.TheVariants.{Section}
use Rattle.section_state.specs.SectionWord.{revoke_of}
use Rattle.monitor_core.specs.Monitors.{monitor_depth}
use Rattle.monitor_core.specs.declared.Why.TheVariants.{Alive, NotNotified, ClassBusy}
use Rattle.step_port.specs.declared.answer.StepAnswer.{StepAnswer}
use Rattle.step_port.specs.declared.answer.StepAnswer.TheVariants.{Found, Lost}
use Rattle.step_port.specs.declared.step.ThreadWord.{ThreadWord}
use Rattle.step_port.specs.declared.step.Step.{Step}
use Rattle.step_port.specs.declared.step.Step.TheVariants.{LoadWord, SwapWord, RestoreWord, DrawSection, OpenSection, LoadSection, Pin, Revoke, Commit, MarkUndone, LoadMonitor, TakeMonitor, SetDepth, Release, TakeWords, SetHeader, Ticket, DrawThread, StartThread, EndThread, LoadThread, SetWait, LoadWait, LoadClass, ClaimClass, SettleClass, Split, OpenLevel, CloseLevel}
use Rattle.step_port.specs.Steps.{place_of}
use Rattle.thread_automaton.specs.declared.Bounds.{Bounds}
use Rattle.thread_automaton.specs.declared.Attempt.{Attempt}
use Rattle.thread_automaton.specs.declared.Attempt.TheVariants.{Begin, Look, Fixed, Undoing, Full}
use Rattle.thread_automaton.specs.ThreadState.{ThreadState, opening_word, is_own_section}
use Rattle.thread_automaton.specs.NextMove.{words_asked}
use Rattle.thread_automaton.specs.Changes.{Change, goes, never_comes, has_to_wait, replies, sees_pinned, knows, writes, opens, opens_level, closes_to, takes, prints, puts_back, goes_back, ends}
use Rattle.thread_automaton.specs.Checks.{behind_pin, to_pin, word_loaded, noted, section_loaded}
use Rattle.thread_automaton.specs.Monitors.{monitor_wanted, entry, take_for, monitor_loaded, let_go, depth_set}

-- n sections were drawn before: the number of this one is one more
abbrev pub section_drawn : {S : Type 0} → Bounds → ThreadState S → ℕ → Change
section_drawn b th n = if nat_lt n b.limits.sections then goes (Fixed (OpenSection (n + 1) (opening_word th))) else goes (Full Sections)

-- the own section is pinned to this level, or that of a word, which is then safe
abbrev pub pin_made : {S : Type 0} → ThreadState S → Next → ℕ → ℕ → Change
pin_made th next s level = if nat_eq s th.section then sees_pinned level (behind_pin th next) else knows s level

-- the section is undone to the level to which it was revoked
abbrev pub undone_at : Attempt → Change
undone_at (Undoing w) = goes_back (revoke_of w)
undone_at attempt = never_comes

-- A compare-exchange was lost on this word, which ends the attempt. Where it is that of the own section, the next attempt
-- begins with a look at it in any case.
abbrev pub lost_on : {S : Type 0} → ThreadState S → Area → Change
lost_on th (Section s) = if is_own_section th s then goes Look else goes Begin
lost_on th area = goes Begin

-- these words were taken before: a new object begins after them, counted from the first place
abbrev pub words_taken : {S : Type 0} → Code S → Bounds → ThreadState S → Next → ℕ → Change
words_taken code b th (Want (New c n)) taken =
    if nat_le (taken + words_asked code th.local c n) b.limits.heap then goes (Fixed (SetHeader (taken + b.first) (pack_header c n)))
    else goes (Full Heap)
words_taken code b th next taken = never_comes

abbrev pub ticket_drawn : Next → ℕ → Change
ticket_drawn (Want (Print x)) n = prints n x
ticket_drawn next n = never_comes

-- the start word of a thread object: that of one that is to start, or is waited for
abbrev pub start_loaded : {S : Type 0} → ThreadState S → Next → ℕ → Change
start_loaded th (Want (Start r p)) w = if nat_eq w 0 then goes (to_pin th (Want (Start r p))) else replies Already
start_loaded th next w = if nat_eq w 0 then replies Reply.Done else goes (Fixed (LoadThread (ThreadWord.Ended (value_of w))))

-- the word of thread n, for whose end is waited
abbrev pub end_loaded : ℕ → ℕ → Change
end_loaded n w = if nat_eq w 0 then has_to_wait (Alive n) else replies Reply.Done

-- n threads were drawn before: the number of this one is one more
abbrev pub thread_drawn : Next → ℕ → Change
thread_drawn (Want (Start r p)) n = if nat_lt n 255 then goes (Fixed (StartThread r (n + 1))) else goes (Full Threads)
thread_drawn next n = never_comes

-- thread n is started, and is handed out before anything else
abbrev pub thread_started : Next → ℕ → Change
thread_started (Want (Start r p)) n = goes (Fixed (Split n r p))
thread_started next n = never_comes

-- the wait word says that its thread waits for the object, or was notified
abbrev pub is_waiting_for : ℕ → ℕ → Bool
is_waiting_for r w = nat_eq (wait_object w) r && nat_eq (wait_state w) 1

abbrev pub is_notified_for : ℕ → ℕ → Bool
is_notified_for r w = nat_eq (wait_object w) r && nat_eq (wait_state w) 2

-- The wait word of thread n: the own one, after a wait; or one of those among which a notify looks for the first
-- that waits.
abbrev pub wait_loaded : Next → ℕ → ℕ → Change
wait_loaded (Want (Rewake r)) n w = if is_notified_for r w then goes (Fixed (LoadMonitor r)) else has_to_wait NotNotified
wait_loaded (Want (Op.Notify r)) n w =
    if is_waiting_for r w then goes (Fixed (Step.Notify n w))
    else if nat_lt n 255 then goes (Fixed (LoadWait (n + 1)))
    else replies (Woken 0)
wait_loaded next n w = never_comes

-- the word of a class that is to be initialized
abbrev pub class_loaded : {S : Type 0} → ThreadState S → Next → ℕ → Change
class_loaded th next w =
    if nat_eq (class_state w) 2 then replies Ready
    else if nat_eq (class_state w) 3 then replies Bad
    else if nat_eq (class_state w) 0 then goes (to_pin th next)
    else if nat_eq (class_thread w) th.number then replies Ready
    else has_to_wait (ClassBusy (class_thread w))

-- The thread th, which does `next`, made the step, and this was answered.
abbrev pub change_of : {S : Type 0} → Code S → Bounds → ThreadState S → Next → Step → StepAnswer → Change
change_of code b th next (LoadWord at) (Found w) = word_loaded th next at w
change_of code b th next (SwapWord at old new) StepAnswer.Done = writes (noted th at old)
change_of code b th next (RestoreWord at old) StepAnswer.Done = puts_back
change_of code b th next DrawSection (Found n) = section_drawn b th n
change_of code b th next (OpenSection s word) StepAnswer.Done = opens s (Fixed (take_for th next s 1))
change_of code b th next (LoadSection s) (Found w) = section_loaded th next th.attempt s w
change_of code b th next (Pin s old level) StepAnswer.Done = pin_made th next s level
change_of code b th next (Revoke s old level) StepAnswer.Done = goes Begin
change_of code b th next (Commit s old) StepAnswer.Done = goes (Fixed (Release (monitor_wanted next)))
change_of code b th next (MarkUndone s word) StepAnswer.Done = undone_at th.attempt
change_of code b th next (LoadMonitor r) (Found m) = monitor_loaded th next r m
change_of code b th next (TakeMonitor r new) StepAnswer.Done = takes (entry th next th.levels)
change_of code b th next (SetDepth r new) StepAnswer.Done = depth_set th.attempt r (monitor_depth new)
change_of code b th next (Release r) StepAnswer.Done = let_go th next th.attempt r
change_of code b th next (TakeWords n) (Found taken) = words_taken code b th next taken
change_of code b th next (SetHeader r word) StepAnswer.Done = replies (Made r)
change_of code b th next Ticket (Found n) = ticket_drawn next n
change_of code b th next DrawThread (Found n) = thread_drawn next n
change_of code b th next (StartThread r n) StepAnswer.Done = thread_started next n
change_of code b th next (EndThread n) StepAnswer.Done = ends
change_of code b th next (LoadThread (ThreadWord.Start r)) (Found w) = start_loaded th next w
change_of code b th next (LoadThread (ThreadWord.Ended n)) (Found w) = end_loaded n w
change_of code b th next (SetWait n word) StepAnswer.Done = goes (Fixed (Release (monitor_wanted next)))
change_of code b th next (Step.Notify n old) StepAnswer.Done = replies (Woken n)
change_of code b th next (LoadWait n) (Found w) = wait_loaded next n w
change_of code b th next (LoadClass c) (Found w) = class_loaded th next w
change_of code b th next (ClaimClass c n) StepAnswer.Done = replies Claimed
change_of code b th next (SettleClass c word) StepAnswer.Done = replies Reply.Done
change_of code b th next (Split n r p) (Found w) = replies (Number n)
change_of code b th next (OpenLevel s old) StepAnswer.Done = opens_level (Fixed (take_for th next s (suc th.levels)))
change_of code b th next (CloseLevel s old depth) StepAnswer.Done = closes_to depth (Fixed (Release (monitor_wanted next)))
change_of code b th next step (Lost v) = lost_on th (place_of step)
change_of code b th next _ _ = never_comes
