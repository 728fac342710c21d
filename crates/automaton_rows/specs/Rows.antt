-- The automaton by rows: what a thread does, makes a step for and is answered, what that makes of it, and what is
-- so then.
use Rattle.std.specs.Prelude.{◌≡◌, ℕ, suc, ◌+◌, ◌-◌, ◌<◌, Bool, true, false, List, [], ◌∷◌, length, nat_eq, nat_lt, nat_le, if◌then◌else◌}
use Rattle.op_core.specs.Replies.{IsEntry}
use Rattle.op_core.specs.declared.Limit.TheVariants.{Depth, Heap, Sections, Threads}
use Rattle.op_core.specs.declared.Op.{Op}
use Rattle.op_core.specs.declared.Op.TheVariants.{ClassOf, Read, Write, New, Enter, Exit, Wait, Rewake, Print, Start, Join, Init, InitDone, End}
use Rattle.op_core.specs.declared.Reply.{Reply}
use Rattle.op_core.specs.declared.Reply.TheVariants.{Class, Value, Made, NotOwner, Woken, Number, Already, Ready, Bad, Claimed}
use Rattle.op_core.specs.declared.Next.{Next}
use Rattle.op_core.specs.declared.Next.TheVariants.{Silent, Want}
use Rattle.op_core.specs.ThreadCode.{Code, leaves_any}
use Rattle.heap_words.specs.declared.words.ClassWord.{ClassWord}
use Rattle.heap_words.specs.declared.words.WaitWord.TheVariants.{Waiting}
use Rattle.heap_words.specs.Words.{value_of, tag_of, pack_header, header_class, header_length, wait_word_of, class_state, class_thread, class_word_of}
use Rattle.section_state.specs.declared.State.TheVariants.{Live, Revoking, Undone, Committed}
use Rattle.section_state.specs.SectionWord.{pinned_of, revoke_of, undone_of}
use Rattle.monitor_core.specs.declared.Why.TheVariants.{WordRevoking, Alive, NotNotified, ClassBusy}
use Rattle.monitor_core.specs.declared.Why.{Why}
use Rattle.monitor_core.specs.declared.Contend.{Contend}
use Rattle.monitor_core.specs.declared.Contend.TheVariants.{Busy}
use Rattle.monitor_core.specs.Monitors.{monitor_section, monitor_depth, monitor_level, is_own}
use Rattle.monitor_core.specs.Contention.{is_in, contend_with}
use Rattle.step_port.specs.declared.answer.StepAnswer.{StepAnswer}
use Rattle.step_port.specs.declared.answer.StepAnswer.TheVariants.{Found, Lost}
use Rattle.step_port.specs.declared.step.ThreadWord.{ThreadWord}
use Rattle.step_port.specs.declared.step.Step.{Step}
use Rattle.step_port.specs.declared.step.Step.TheVariants.{LoadWord, SwapWord, RestoreWord, DrawSection, OpenSection, OpenLevel, CloseLevel, LoadSection, Pin, Revoke, Commit, MarkUndone, LoadMonitor, SetDepth, Release, TakeWords, SetHeader, Ticket, DrawThread, StartThread, EndThread, LoadThread, SetWait, LoadWait, LoadClass, ClaimClass, SettleClass, Split}
use Rattle.thread_automaton.specs.declared.Bounds.{Bounds}
use Rattle.thread_automaton.specs.declared.Attempt.{Attempt}
use Rattle.thread_automaton.specs.declared.Attempt.TheVariants.{Begin, Look, Checked, Fixed, Meets, Undoing, Full}
use Rattle.thread_automaton.specs.declared.Held.{Held}
use Rattle.thread_automaton.specs.ThreadState.{ThreadState, is_own_section, is_open, own_word, opening_word, highest}
use Rattle.thread_automaton.specs.NextMove.{own_pin, word_place, words_asked, held_word, undo_next}
use Rattle.thread_automaton.specs.Changes.{Change, goes, has_to_wait, replies, sees_pinned, knows, writes, opens, opens_level, closes_to, takes, deepens, drops, closes, waits, prints, puts_back, sets_back, gives_back, goes_back, ends, without}
use Rattle.thread_automaton.specs.Checks.{behind_pin, to_pin, is_safe, meets_writer, written_word, noted}
use Rattle.thread_automaton.specs.Monitors.{monitor_wanted, entry, take_for, deepened, needs_level}
use Rattle.thread_automaton.specs.Answers.{is_waiting_for, is_notified_for, lost_on}
use Rattle.step_port.specs.Steps.{place_of}
use Rattle.automaton_rows.specs.Fits.{is_unsafe_at, IsOwnClose, IsUndoing}

-- a word is to be read or written
abbrev pub IsAccess : Next → Type 0
IsAccess (Want (Read r i)) = Unit {0}
IsAccess (Want (Write r i v)) = Unit {0}
IsAccess next = ⊥

-- its place
abbrev pub word_wanted : Next → ℕ
word_wanted (Want (Read r i)) = word_place r i
word_wanted (Want (Write r i v)) = word_place r i
word_wanted next = 0

-- What pins the own section: an exit out of order, a wait, a notify, a printed line, a start, the claim of a class and its settling, the end
-- of the thread, and the end of a frame that was on top as a level opened.
abbrev pub Lasts : {S : Type 0} → Code S → ThreadState S → Next → Type 0
Lasts code th Silent = leaves_any code th.saved th.local ≡ true
Lasts code th (Want (Exit r)) = Unit {0}
Lasts code th (Want (Wait r)) = Unit {0}
Lasts code th (Want (Op.Notify r)) = Unit {0}
Lasts code th (Want (Print x)) = Unit {0}
Lasts code th (Want (Start r p)) = Unit {0}
Lasts code th (Want (Init c)) = Unit {0}
Lasts code th (Want (InitDone c ok)) = Unit {0}
Lasts code th (Want (End x)) = Unit {0}
Lasts code th next = ⊥

-- an operation that only the owner of the monitor of r may make
abbrev pub NeedsOwner : Next → ℕ → Type 0
NeedsOwner (Want (Exit r)) q = q ≡ r
NeedsOwner (Want (Wait r)) q = q ≡ r
NeedsOwner (Want (Op.Notify r)) q = q ≡ r
NeedsOwner next q = ⊥

-- between two attempts, the next of which begins with a look at the own section
abbrev pub LooksAtOwn : {S : Type 0} → ThreadState S → Attempt → Type 0
LooksAtOwn th Begin = is_open th ≡ true
LooksAtOwn th Look = nat_lt 0 th.section ≡ true
LooksAtOwn th attempt = ⊥

abbrev pub IsNoUndoing : Attempt → Type 0
IsNoUndoing (Undoing w) = ⊥
IsNoUndoing attempt = Unit {0}

-- The thread th, of this code and with these bounds, does the first, makes the second, is answered the third, and
-- the fourth is what becomes of it.
pub data Row {S : Type 0} (code : Code S) (b : Bounds) (th : ThreadState S) : Next → Step → StepAnswer → Change → Type 0 where
  -- a compare-exchange that is lost ends the attempt
  is_lost : {next : Next} {step : Step} {v : ℕ} → Row code b th next step (Lost v) (lost_on th (place_of step))
  -- an attempt begins with a look at the own section
  own_revoked : {next : Next} {attempt : Attempt} {w : ℕ} → th.attempt ≡ attempt → LooksAtOwn th attempt → is_in Revoking w ≡ true
      → Row code b th next (LoadSection th.section) (Found w) (goes (Undoing w))
  own_stands : {next : Next} {attempt : Attempt} {w : ℕ} → th.attempt ≡ attempt → LooksAtOwn th attempt → is_in Revoking w ≡ false
      → Row code b th next (LoadSection th.section) (Found w) (sees_pinned (pinned_of w) Checked)
  -- the own section is pinned
  pins : {next : Next} → is_open th ≡ true → Lasts code th next
      → Row code b th next (own_pin th) StepAnswer.Done (sees_pinned th.levels (behind_pin th next))
  -- undoing
  restores : {next : Next} {w at old : ℕ} → th.attempt ≡ Undoing w → IsUndoing th w → undo_next th w (revoke_of w) ≡ RestoreWord at old
      → Row code b th next (RestoreWord at old) StepAnswer.Done puts_back
  sets_monitor_back : {next : Next} {w r new : ℕ} → th.attempt ≡ Undoing w → IsUndoing th w → undo_next th w (revoke_of w) ≡ SetDepth r new
      → Row code b th next (SetDepth r new) StepAnswer.Done (sets_back r (monitor_depth new))
  gives_monitor_back : {next : Next} {w r : ℕ} → th.attempt ≡ Undoing w → IsUndoing th w → undo_next th w (revoke_of w) ≡ Release r
      → Row code b th next (Release r) StepAnswer.Done (gives_back r)
  is_undone : {next : Next} {w : ℕ} → th.attempt ≡ Undoing w → IsUndoing th w → undo_next th w (revoke_of w) ≡ MarkUndone th.section (undone_of w)
      → Row code b th next (MarkUndone th.section (undone_of w)) StepAnswer.Done (goes_back (revoke_of w))
  -- words of objects
  class_found : {r w : ℕ}
      → Row code b th (Want (ClassOf r)) (LoadWord r) (Found w) (replies (Class (header_class w) (header_length w)))
  word_read : {r i w : ℕ} → is_safe th w ≡ true
      → Row code b th (Want (Read r i)) (LoadWord (word_place r i)) (Found w) (replies (Value (value_of w)))
  word_seen : {r i v w : ℕ} → is_safe th w ≡ true
      → Row code b th (Want (Write r i v)) (LoadWord (word_place r i)) (Found w) (goes (Fixed (SwapWord (word_place r i) w (written_word th v))))
  word_written : {r i v old : ℕ} → is_safe th old ≡ true
      → Row code b th (Want (Write r i v)) (SwapWord (word_place r i) old (written_word th v)) StepAnswer.Done (writes (noted th (word_place r i) old))
  is_unsafe : {next : Next} {w : ℕ} → IsAccess next → is_safe th w ≡ false
      → Row code b th next (LoadWord (word_wanted next)) (Found w) (meets_writer (tag_of w))
  tag_committed : {next : Next} {s level w : ℕ} → th.attempt ≡ Meets s level → IsAccess next → is_unsafe_at th s level ≡ true
      → is_in Committed w ≡ true → Row code b th next (LoadSection s) (Found w) (knows s 255)
  tag_undone : {next : Next} {s level w : ℕ} → th.attempt ≡ Meets s level → IsAccess next → is_unsafe_at th s level ≡ true
      → is_in Undone w ≡ true → Row code b th next (LoadSection s) (Found w) (goes Checked)
  tag_pinned : {next : Next} {s level w : ℕ} → th.attempt ≡ Meets s level → IsAccess next → is_unsafe_at th s level ≡ true
      → is_in Live w ≡ true → nat_le level (pinned_of w) ≡ true
      → Row code b th next (LoadSection s) (Found w) (knows s (pinned_of w))
  tag_live : {next : Next} {s level w : ℕ} → th.attempt ≡ Meets s level → IsAccess next → is_unsafe_at th s level ≡ true
      → is_in Live w ≡ true → nat_le level (pinned_of w) ≡ false
      → Row code b th next (LoadSection s) (Found w) (goes (Fixed (Pin s w level)))
  tag_waits : {next : Next} {s level w : ℕ} → th.attempt ≡ Meets s level → IsAccess next → is_unsafe_at th s level ≡ true
      → is_in Committed w ≡ false → is_in Undone w ≡ false → is_in Live w ≡ false
      → Row code b th next (LoadSection s) (Found w) (has_to_wait (WordRevoking s))
  pins_writer : {next : Next} {s level w : ℕ} → IsAccess next → is_unsafe_at th s level ≡ true → is_in Live w ≡ true → pinned_of w < level
      → Row code b th next (Pin s w level) StepAnswer.Done (knows s level)
  -- new objects
  has_room : {c n taken : ℕ} → nat_le (taken + words_asked code th.local c n) b.limits.heap ≡ true
      → Row code b th (Want (New c n)) (TakeWords (words_asked code th.local c n)) (Found taken) (goes (Fixed (SetHeader (taken + b.first) (pack_header c n))))
  heap_full : {c n taken : ℕ} → nat_le (taken + words_asked code th.local c n) b.limits.heap ≡ false
      → Row code b th (Want (New c n)) (TakeWords (words_asked code th.local c n)) (Found taken) (goes (Full Heap))
  object_made : {c n r : ℕ}
      → Row code b th (Want (New c n)) (SetHeader r (pack_header c n)) StepAnswer.Done (replies (Made r))
  -- monitors that are entered
  free_first : {next : Next} {m : ℕ} → IsEntry next → nat_eq m 0 ≡ true → nat_eq th.section 0 ≡ true
      → Row code b th next (LoadMonitor (monitor_wanted next)) (Found m) (goes (Fixed DrawSection))
  section_numbered : {next : Next} {n : ℕ} → IsEntry next → nat_eq th.section 0 ≡ true → nat_lt n b.limits.sections ≡ true
      → Row code b th next DrawSection (Found n) (goes (Fixed (OpenSection (n + 1) (opening_word th))))
  sections_full : {next : Next} {n : ℕ} → IsEntry next → nat_eq th.section 0 ≡ true → nat_lt n b.limits.sections ≡ false
      → Row code b th next DrawSection (Found n) (goes (Full Sections))
  section_opened : {next : Next} {s : ℕ} → IsEntry next → nat_eq th.section 0 ≡ true → nat_lt 0 s ≡ true
      → Row code b th next (OpenSection s (opening_word th)) StepAnswer.Done (opens s (Fixed (take_for th next s 1)))
  free_inside : {next : Next} {m : ℕ} → IsEntry next → nat_eq m 0 ≡ true → nat_eq th.section 0 ≡ false → needs_level th next ≡ true
      → nat_eq th.levels 255 ≡ false
      → Row code b th next (LoadMonitor (monitor_wanted next)) (Found m) (goes (Fixed (OpenLevel th.section (own_word th))))
  levels_full : {next : Next} {m : ℕ} → IsEntry next → nat_eq m 0 ≡ true → nat_eq th.section 0 ≡ false → needs_level th next ≡ true
      → nat_eq th.levels 255 ≡ true
      → Row code b th next (LoadMonitor (monitor_wanted next)) (Found m) (goes (Full Depth))
  level_opened : {next : Next} → IsEntry next → nat_lt 0 th.section ≡ true → needs_level th next ≡ true → nat_eq th.levels 255 ≡ false
      → Row code b th next (OpenLevel th.section (own_word th)) StepAnswer.Done (opens_level (Fixed (take_for th next th.section (suc th.levels))))
  free_more : {next : Next} {m : ℕ} → IsEntry next → nat_eq m 0 ≡ true → nat_eq th.section 0 ≡ false → needs_level th next ≡ false
      → Row code b th next (LoadMonitor (monitor_wanted next)) (Found m) (goes (Fixed (take_for th next th.section th.levels)))
  monitor_taken : {next : Next} → IsEntry next → nat_lt 0 th.section ≡ true
      → Row code b th next (take_for th next th.section th.levels) StepAnswer.Done (takes (entry th next th.levels))
  own_again : {next : Next} {m : ℕ} → IsEntry next → nat_eq m 0 ≡ false → is_own m th.section ≡ true → nat_eq (monitor_depth m) 65535 ≡ false
      → Row code b th next (LoadMonitor (monitor_wanted next)) (Found m) (goes (Fixed (deepened th (monitor_wanted next) m (monitor_depth m + 1))))
  own_full : {next : Next} {m : ℕ} → IsEntry next → nat_eq m 0 ≡ false → is_own m th.section ≡ true → nat_eq (monitor_depth m) 65535 ≡ true
      → Row code b th next (LoadMonitor (monitor_wanted next)) (Found m) (goes (Full Depth))
  entered_again : {next : Next} {new : ℕ} → IsEntry next → IsNoUndoing th.attempt
      → Row code b th next (SetDepth (monitor_wanted next) new) StepAnswer.Done (deepens (monitor_wanted next) (monitor_depth new))
  held_by_other : {next : Next} {m : ℕ} → IsEntry next → nat_eq m 0 ≡ false → is_own m th.section ≡ false
      → Row code b th next (LoadMonitor (monitor_wanted next)) (Found m) (goes (Meets (monitor_section m) (monitor_level m)))
  holder_lower : {next : Next} {s level w : ℕ} → th.attempt ≡ Meets s level → IsEntry next → is_own_section th s ≡ false
      → contend_with w level th.priority ≡ Contend.Revoke level
      → Row code b th next (LoadSection s) (Found w) (goes (Fixed (Revoke s w level)))
  holder_busy : {next : Next} {s level w : ℕ} {why : Why} → th.attempt ≡ Meets s level → IsEntry next → is_own_section th s ≡ false
      → contend_with w level th.priority ≡ Busy why
      → Row code b th next (LoadSection s) (Found w) (has_to_wait why)
  holder_revoked : {next : Next} {s level w : ℕ} → IsEntry next → is_own_section th s ≡ false
      → contend_with w level th.priority ≡ Contend.Revoke level
      → Row code b th next (Revoke s w level) StepAnswer.Done (goes Begin)
  is_notified : {r w : ℕ} → is_notified_for r w ≡ true
      → Row code b th (Want (Rewake r)) (LoadWait th.number) (Found w) (goes (Fixed (LoadMonitor r)))
  not_notified : {r w : ℕ} → is_notified_for r w ≡ false
      → Row code b th (Want (Rewake r)) (LoadWait th.number) (Found w) (has_to_wait NotNotified)
  -- monitors that are left, and those of a wait and a notify
  not_owner : {next : Next} {r m : ℕ} → NeedsOwner next r → is_own m th.section ≡ false
      → Row code b th next (LoadMonitor r) (Found m) (replies NotOwner)
  exits_inner : {r m : ℕ} → is_own m th.section ≡ true → nat_lt 1 (monitor_depth m) ≡ true
      → Row code b th (Want (Exit r)) (LoadMonitor r) (Found m) (goes (Fixed (deepened th r m (monitor_depth m - 1))))
  exits_last : {r m : ℕ} → is_own m th.section ≡ true → nat_lt 1 (monitor_depth m) ≡ false → without r th.held ≡ []
      → Row code b th (Want (Exit r)) (LoadMonitor r) (Found m) (goes (Fixed (Commit th.section (own_word th))))
  exits_level : {r m : ℕ} → is_own m th.section ≡ true → nat_lt 1 (monitor_depth m) ≡ false → 0 < length (without r th.held)
      → nat_lt (highest (without r th.held)) (monitor_level m) ≡ true
      → Row code b th (Want (Exit r)) (LoadMonitor r) (Found m) (goes (Fixed (CloseLevel th.section (own_word th) (highest (without r th.held)))))
  exits_one : {r m : ℕ} → is_own m th.section ≡ true → nat_lt 1 (monitor_depth m) ≡ false → 0 < length (without r th.held)
      → nat_lt (highest (without r th.held)) (monitor_level m) ≡ false
      → Row code b th (Want (Exit r)) (LoadMonitor r) (Found m) (goes (to_pin th (Want (Exit r))))
  left_once : {r new : ℕ} → IsNoUndoing th.attempt
      → Row code b th (Want (Exit r)) (SetDepth r new) StepAnswer.Done (deepens r (monitor_depth new))
  section_committed : {r : ℕ} → nat_lt 0 th.section ≡ true → without r th.held ≡ []
      → Row code b th (Want (Exit r)) (Commit th.section (own_word th)) StepAnswer.Done (goes (Fixed (Release r)))
  levels_closed : {r depth : ℕ} → IsOwnClose th r th.section (own_word th) depth
      → Row code b th (Want (Exit r)) (CloseLevel th.section (own_word th) depth) StepAnswer.Done (closes_to depth (Fixed (Release r)))
  monitor_left : {r : ℕ} {h : Held} {held : List Held} → th.attempt ≡ Fixed (Release r) → without r th.held ≡ h ∷ held
      → Row code b th (Want (Exit r)) (Release r) StepAnswer.Done (drops (h ∷ held))
  section_left : {r : ℕ} → th.attempt ≡ Fixed (Release r) → without r th.held ≡ []
      → Row code b th (Want (Exit r)) (Release r) StepAnswer.Done closes
  wait_begins : {r m : ℕ} → is_own m th.section ≡ true
      → Row code b th (Want (Wait r)) (LoadMonitor r) (Found m) (goes (to_pin th (Want (Wait r))))
  wait_noted : {r : ℕ} → is_open th ≡ false
      → Row code b th (Want (Wait r)) (SetWait th.number (wait_word_of (Waiting r))) StepAnswer.Done (goes (Fixed (Release r)))
  wait_made : {r : ℕ} → is_open th ≡ false → th.attempt ≡ Fixed (Release r)
      → Row code b th (Want (Wait r)) (Release r) StepAnswer.Done (waits r)
  notify_begins : {r m : ℕ} → is_own m th.section ≡ true
      → Row code b th (Want (Op.Notify r)) (LoadMonitor r) (Found m) (goes (to_pin th (Want (Op.Notify r))))
  waiter_found : {r n w : ℕ} → is_open th ≡ false → 0 < n → n < 256 → is_waiting_for r w ≡ true
      → Row code b th (Want (Op.Notify r)) (LoadWait n) (Found w) (goes (Fixed (Step.Notify n w)))
  waiter_passed : {r n w : ℕ} → is_open th ≡ false → 0 < n → is_waiting_for r w ≡ false → nat_lt n 255 ≡ true
      → Row code b th (Want (Op.Notify r)) (LoadWait n) (Found w) (goes (Fixed (LoadWait (n + 1))))
  none_waits : {r n w : ℕ} → is_open th ≡ false → 0 < n → n < 256 → is_waiting_for r w ≡ false → nat_lt n 255 ≡ false
      → Row code b th (Want (Op.Notify r)) (LoadWait n) (Found w) (replies (Woken 0))
  waiter_woken : {r n w : ℕ} → is_open th ≡ false → 0 < n → n < 256 → is_waiting_for r w ≡ true
      → Row code b th (Want (Op.Notify r)) (Step.Notify n w) StepAnswer.Done (replies (Woken n))
  -- lines and threads
  line_printed : {x : _} {n : ℕ} → is_open th ≡ false
      → Row code b th (Want (Print x)) Ticket (Found n) (prints n x)
  start_begins : {r p w : ℕ} → nat_eq w 0 ≡ true
      → Row code b th (Want (Start r p)) (LoadThread (ThreadWord.Start r)) (Found w) (goes (to_pin th (Want (Start r p))))
  was_started : {r p w : ℕ} → nat_eq w 0 ≡ false
      → Row code b th (Want (Start r p)) (LoadThread (ThreadWord.Start r)) (Found w) (replies Already)
  thread_numbered : {r p n : ℕ} → is_open th ≡ false → nat_lt n 255 ≡ true
      → Row code b th (Want (Start r p)) DrawThread (Found n) (goes (Fixed (StartThread r (n + 1))))
  threads_full : {r p n : ℕ} → is_open th ≡ false → nat_lt n 255 ≡ false
      → Row code b th (Want (Start r p)) DrawThread (Found n) (goes (Full Threads))
  is_started : {r p n : ℕ} → is_open th ≡ false → 0 < n → n < 256
      → Row code b th (Want (Start r p)) (StartThread r n) StepAnswer.Done (goes (Fixed (Split n r p)))
  handed_out : {r p n w : ℕ} → is_open th ≡ false → 0 < n → n < 256
      → Row code b th (Want (Start r p)) (Split n r p) (Found w) (replies (Number n))
  never_started : {r w : ℕ} → nat_eq w 0 ≡ true
      → Row code b th (Want (Join r)) (LoadThread (ThreadWord.Start r)) (Found w) (replies Reply.Done)
  join_begins : {r w : ℕ} → nat_eq w 0 ≡ false
      → Row code b th (Want (Join r)) (LoadThread (ThreadWord.Start r)) (Found w) (goes (Fixed (LoadThread (ThreadWord.Ended (value_of w)))))
  is_alive : {r n w : ℕ} → nat_eq w 0 ≡ true
      → Row code b th (Want (Join r)) (LoadThread (ThreadWord.Ended n)) (Found w) (has_to_wait (Alive n))
  has_ended : {r n w : ℕ} → nat_eq w 0 ≡ false
      → Row code b th (Want (Join r)) (LoadThread (ThreadWord.Ended n)) (Found w) (replies Reply.Done)
  thread_ended : {x : _} → is_open th ≡ false
      → Row code b th (Want (End x)) (EndThread th.number) StepAnswer.Done ends
  -- classes
  is_ready : {c w : ℕ} → nat_eq (class_state w) 2 ≡ true
      → Row code b th (Want (Init c)) (LoadClass c) (Found w) (replies Ready)
  is_bad : {c w : ℕ} → nat_eq (class_state w) 3 ≡ true
      → Row code b th (Want (Init c)) (LoadClass c) (Found w) (replies Bad)
  is_unready : {c w : ℕ} → nat_eq (class_state w) 0 ≡ true
      → Row code b th (Want (Init c)) (LoadClass c) (Found w) (goes (to_pin th (Want (Init c))))
  is_claimed : {c w : ℕ} → nat_eq (class_state w) 2 ≡ false → nat_eq (class_state w) 3 ≡ false → nat_eq (class_state w) 0 ≡ false
      → nat_eq (class_thread w) th.number ≡ true
      → Row code b th (Want (Init c)) (LoadClass c) (Found w) (replies Ready)
  is_others : {c w : ℕ} → nat_eq (class_state w) 2 ≡ false → nat_eq (class_state w) 3 ≡ false → nat_eq (class_state w) 0 ≡ false
      → nat_eq (class_thread w) th.number ≡ false
      → Row code b th (Want (Init c)) (LoadClass c) (Found w) (has_to_wait (ClassBusy (class_thread w)))
  class_claimed : {c : ℕ} → is_open th ≡ false
      → Row code b th (Want (Init c)) (ClaimClass c th.number) StepAnswer.Done (replies Claimed)
  class_settled : {c : ℕ} {ok : Bool} → is_open th ≡ false
      → Row code b th (Want (InitDone c ok)) (SettleClass c (class_word_of (if ok then ClassWord.Ready else ClassWord.Bad))) StepAnswer.Done (replies Reply.Done)
