-- How thread 1 goes, of priority 5, where no other thread makes a step: the steps of some operations.
use Rattle.std.specs.Prelude.{◌≡◌, ℕ, ◌+◌, List, [], ◌∷◌, map, drop, nat_eq, false, None, if◌then◌else◌}
use Rattle.op_core.specs.declared.Line.TheVariants.{Empty}
use Rattle.op_core.specs.declared.Op.{Op}
use Rattle.op_core.specs.declared.Op.TheVariants.{Read, Write, New, Enter, Exit, Print, Start, Init, Rewake, Join, InitDone, End}
use Rattle.op_core.specs.declared.script.ScriptStep.TheVariants.{Call, Return, Operation}
use Rattle.op_core.specs.Script.{ScriptState, script_code}
use Rattle.heap_words.specs.declared.areas.Area.TheVariants.{Control, Section, Wait, Object}
use Rattle.heap_words.specs.declared.words.WaitWord.TheVariants.{Waiting, Notified}
use Rattle.heap_words.specs.declared.words.WaitWord.{WaitWord}
use Rattle.heap_words.specs.declared.words.ClassWord.TheVariants.{Bad}
use Rattle.heap_words.specs.Words.{pack_tag, pack, pack_header, wait_word_of, class_word_of}
use Rattle.section_state.specs.declared.State.{State}
use Rattle.section_state.specs.declared.State.TheVariants.{Live, Revoking, Undone}
use Rattle.section_state.specs.SectionWord.{number_of, section_word}
use Rattle.monitor_core.specs.Monitors.{monitor_word}
use Rattle.step_port.specs.declared.step.ThreadWord.{ThreadWord}
use Rattle.step_port.specs.declared.step.Step.{Step}
use Rattle.step_port.specs.declared.step.Step.TheVariants.{LoadWord, SwapWord, RestoreWord, DrawSection, OpenSection, OpenLevel, CloseLevel, LoadSection, Pin, Revoke, Commit, MarkUndone, LoadMonitor, TakeMonitor, SetDepth, Release, TakeWords, SetHeader, Ticket, DrawThread, StartThread, EndThread, LoadThread, SetWait, LoadWait, LoadClass, ClaimClass, SettleClass, Split}
use Rattle.step_port.specs.Words.{Words, put_at}
use Rattle.thread_automaton.specs.declared.Bounds.{Bounds}
use Rattle.thread_automaton.specs.ThreadState.{ThreadState, first_state}
use Rattle.thread_automaton.specs.Alone.{steps_alone}

abbrev pub small : Bounds
small = record { limits = record { turns = 100; heap = 10; sections = 3 }; first = 20 }

-- its code wants these operations, one after another
abbrev pub script : List Op → ScriptState
script ops = record { steps = map Operation ops; place = 0; frames = 1 }

abbrev pub thread_of : List Op → ThreadState ScriptState
thread_of ops = first_state 1 5 (script ops)

-- one thread is drawn, and all other words are 0
abbrev pub zero_words : Words
zero_words = put_at (λ _. 0) (Control 4) 1

-- the steps of its first n moves
abbrev pub makes : ℕ → List Op → List Step
makes n ops = steps_alone script_code small n (thread_of ops) zero_words

-- those of n moves after the four of its first Enter
abbrev pub makes_inside : ℕ → List Op → List Step
makes_inside n ops = drop 4 (makes (4 + n) (Enter 1 ∷ ops))

-- the word of its section while it is live, with this pinned depth and open depth
abbrev pub own : ℕ → ℕ → ℕ
own pinned levels = section_word (number_of Live) 1 5 pinned levels 0

-- it has entered the monitor of object 1, and has overwritten the word 9 at place 5; it wants to go on, but its section
-- is revoked
abbrev pub revoked_thread : ThreadState ScriptState
revoked_thread = record (thread_of []) {
  local = record (script (Enter 1 ∷ Write 3 0 7 ∷ Exit 1 ∷ [])) { place = 2 };
  saved = script (Enter 1 ∷ Write 3 0 7 ∷ Exit 1 ∷ []) ∷ [];
  marks = record { silents = 0; noted = 0; held = [] } ∷ [];
  section = 1;
  levels = 1;
  log = record { at = 5; old = 9 } ∷ [];
  held = record { object = 1; level = 1; depth = 1 } ∷ [];
}

abbrev pub revoked_words : Words
revoked_words = put_at zero_words (Section 1) (section_word (number_of Revoking) 1 5 0 1 1)

-- It has entered the monitor of object 1 and overwritten the word 9 at place 7, then entered that of object 3, the first
-- one again, and overwritten a word at place 8. It wants to go on, but its section is revoked to the second level.
abbrev pub nested_script : List Op
nested_script = Enter 1 ∷ Write 5 0 1 ∷ Enter 3 ∷ Enter 1 ∷ Write 6 0 1 ∷ Exit 1 ∷ []

abbrev pub nested_thread : ThreadState ScriptState
nested_thread = record (thread_of []) {
  local = record (script nested_script) { place = 5 };
  saved = record (script nested_script) { place = 2 } ∷ script nested_script ∷ [];
  marks = record { silents = 0; noted = 1; held = record { object = 1; level = 1; depth = 1 } ∷ [] }
      ∷ record { silents = 0; noted = 0; held = [] } ∷ [];
  section = 1;
  levels = 2;
  log = record { at = 8; old = 4 } ∷ record { at = 7; old = 9 } ∷ [];
  held = record { object = 3; level = 2; depth = 1 } ∷ record { object = 1; level = 1; depth = 2 } ∷ [];
}

abbrev pub nested_words : Words
nested_words = put_at zero_words (Section 1) (section_word (number_of Revoking) 1 5 0 2 2)

-- the word of section 2, that of thread 2: of this state, priority, pinned depth, and with two levels open
abbrev pub others : State → ℕ → ℕ → ℕ
others state priority pinned = section_word (number_of state) 2 priority pinned 2 (if nat_eq (number_of state) 3 then 2 else 0)

-- it holds the monitor of object 1 since its second level opened, and has written the word 9 at place 5 there; and thread
-- 2 waits in the wait set of object 3
abbrev pub others_words : State → ℕ → ℕ → Words
others_words state priority pinned =
    put_at (put_at (put_at (put_at zero_words (Section 2) (others state priority pinned)) (Object 2) (monitor_word 2 1 2)) (Object 5) (pack 9 (pack_tag 2 2)))
    (Wait 2) (wait_word_of (Waiting 3))

-- the steps of its first n moves beside that section
abbrev pub makes_beside : State → ℕ → ℕ → ℕ → List Op → List Step
makes_beside state priority pinned n ops = steps_alone script_code small n (thread_of ops) (others_words state priority pinned)

-- it calls, enters, returns from the call, and exits
abbrev pub calling_thread : ThreadState ScriptState
calling_thread = first_state 1 5 (record { steps = Call ∷ Operation (Enter 1) ∷ Return ∷ Operation (Exit 1) ∷ []; place = 0; frames = 1 })

-- it has entered the monitor of object 1 twice and given it up in a wait
abbrev pub waiting_thread : ThreadState ScriptState
waiting_thread = record (thread_of (Rewake 1 ∷ [])) { section = 1; levels = 1; pinned = 1; depth = 2; level = 1 }

abbrev pub waiting_words : WaitWord → Words
waiting_words says = put_at zero_words (Wait 1) (wait_word_of says)

pub record Walks : Type 0 where
  -- a free monitor is entered by a section that is drawn and opened first, with its first level
  pub enters : makes 4 (Enter 1 ∷ []) ≡ LoadMonitor 1 ∷ DrawSection ∷ OpenSection 1 (own 0 1) ∷ TakeMonitor 1 (monitor_word 1 1 1) ∷ []
  -- inside of it each operation begins with a look at the own section
  pub enters_again : makes_inside 3 (Enter 1 ∷ []) ≡ LoadSection 1 ∷ LoadMonitor 1 ∷ SetDepth 1 (monitor_word 1 2 1) ∷ []
  -- another monitor is entered with the next level, and that level is closed as it is left
  pub enters_another : makes_inside 4 (Enter 3 ∷ []) ≡ LoadSection 1 ∷ LoadMonitor 3 ∷ OpenLevel 1 (own 0 1) ∷ TakeMonitor 3 (monitor_word 1 1 2) ∷ []
  pub exits_another : drop 4 (makes_inside 8 (Enter 3 ∷ Exit 3 ∷ []))
      ≡ LoadSection 1 ∷ LoadMonitor 3 ∷ CloseLevel 1 (own 0 2) 1 ∷ Release 3 ∷ []
  -- a monitor that is left out of order pins all levels; the section is then looked at no more, and ends with the last one
  pub exits_out_of_order : drop 4 (makes_inside 11 (Enter 3 ∷ Exit 1 ∷ Exit 3 ∷ []))
      ≡ LoadSection 1 ∷ LoadMonitor 1 ∷ Pin 1 (own 0 2) 2 ∷ Release 1 ∷ LoadMonitor 3 ∷ Commit 1 (own 2 2) ∷ Release 3 ∷ []
  pub exits : makes_inside 4 (Exit 1 ∷ []) ≡ LoadSection 1 ∷ LoadMonitor 1 ∷ Commit 1 (own 0 1) ∷ Release 1 ∷ []
  -- a word that is written inside of it carries its number and the level, and one that is written outside of sections none
  pub reads : makes_inside 2 (Read 3 0 ∷ []) ≡ LoadSection 1 ∷ LoadWord 5 ∷ []
  pub writes : makes_inside 3 (Write 3 0 7 ∷ []) ≡ LoadSection 1 ∷ LoadWord 5 ∷ SwapWord 5 0 (pack 7 (pack_tag 1 1)) ∷ []
  pub writes_deeper : drop 4 (makes_inside 7 (Enter 5 ∷ Write 3 0 7 ∷ [])) ≡ LoadSection 1 ∷ LoadWord 5 ∷ SwapWord 5 0 (pack 7 (pack_tag 1 2)) ∷ []
  pub writes_outside : makes 2 (Write 3 0 7 ∷ []) ≡ LoadWord 5 ∷ SwapWord 5 0 (pack 7 0) ∷ []
  pub writes_behind : drop 4 (makes_inside 6 (Exit 1 ∷ Write 3 0 7 ∷ [])) ≡ LoadWord 5 ∷ SwapWord 5 0 (pack 7 0) ∷ []
  -- what can't be taken back comes after the pin
  pub prints : makes_inside 3 (Print Empty ∷ []) ≡ LoadSection 1 ∷ Pin 1 (own 0 1) 1 ∷ Ticket ∷ []
  pub waits : makes_inside 5 (Op.Wait 1 ∷ []) ≡ LoadSection 1 ∷ LoadMonitor 1 ∷ Pin 1 (own 0 1) 1 ∷ SetWait 1 (wait_word_of (Waiting 1)) ∷ Release 1 ∷ []
  -- so does the return from the call in which a level opened
  pub returns : drop 4 (steps_alone script_code small 11 calling_thread zero_words)
      ≡ LoadSection 1 ∷ Pin 1 (own 0 1) 1 ∷ LoadMonitor 1 ∷ Commit 1 (own 1 1) ∷ Release 1 ∷ []
  -- a level that opens in a section which is pinned already isn't: so it is looked at again, and pinned again
  pub opens_behind_pin : drop 3 (makes_inside 9 (Print Empty ∷ Enter 3 ∷ Print Empty ∷ []))
      ≡ LoadMonitor 3 ∷ OpenLevel 1 (own 1 1) ∷ TakeMonitor 3 (monitor_word 1 1 2) ∷ LoadSection 1 ∷ Pin 1 (own 1 2) 2 ∷ Ticket ∷ []
  -- after a wait the monitor is entered as often as before, once the thread is notified
  pub rewakes : steps_alone script_code small 3 waiting_thread (waiting_words (Notified 1)) ≡ LoadWait 1 ∷ LoadMonitor 1 ∷ TakeMonitor 1 (monitor_word 1 2 1) ∷ []
  pub waits_on : steps_alone script_code small 3 waiting_thread (waiting_words (Waiting 1)) ≡ LoadWait 1 ∷ LoadWait 1 ∷ LoadWait 1 ∷ []
  -- once all levels are pinned the own section is looked at no more
  pub exits_pinned : makes_inside 6 (Print Empty ∷ Exit 1 ∷ []) ≡ LoadSection 1 ∷ Pin 1 (own 0 1) 1 ∷ Ticket ∷ LoadMonitor 1 ∷ Commit 1 (own 1 1) ∷ Release 1 ∷ []
  -- outside of sections nothing is pinned
  pub starts : makes 4 (Start 11 5 ∷ []) ≡ LoadThread (ThreadWord.Start 11) ∷ DrawThread ∷ StartThread 11 2 ∷ Split 2 11 5 ∷ []
  pub news : makes 2 (New 2 3 ∷ []) ≡ TakeWords 5 ∷ SetHeader 20 (pack_header 2 3) ∷ []
  pub ends : makes 2 (End None ∷ []) ≡ EndThread 1 ∷ []
  pub settles : makes_inside 3 (InitDone 3 false ∷ []) ≡ LoadSection 1 ∷ Pin 1 (own 0 1) 1 ∷ SettleClass 3 (class_word_of Bad) ∷ []
  pub joins : steps_alone script_code small 4 (thread_of (Join 11 ∷ [])) (put_at zero_words (Object 14) (pack 2 0))
      ≡ LoadThread (ThreadWord.Start 11) ∷ LoadThread (ThreadWord.Ended 2) ∷ LoadThread (ThreadWord.Start 11) ∷ LoadThread (ThreadWord.Ended 2) ∷ []
  pub inits : makes 2 (Init 3 ∷ []) ≡ LoadClass 3 ∷ ClaimClass 3 1 ∷ []
  -- a live section of lower priority is revoked to the level of the monitor by one who wants it; another is waited for
  pub revokes : makes_beside Live 1 1 4 (Enter 1 ∷ []) ≡ LoadMonitor 1 ∷ LoadSection 2 ∷ Revoke 2 (others Live 1 1) 2 ∷ LoadMonitor 1 ∷ []
  pub waits_for_equal : makes_beside Live 5 0 4 (Enter 1 ∷ []) ≡ LoadMonitor 1 ∷ LoadSection 2 ∷ LoadMonitor 1 ∷ LoadSection 2 ∷ []
  pub waits_for_pinned : makes_beside Live 1 2 4 (Enter 1 ∷ []) ≡ LoadMonitor 1 ∷ LoadSection 2 ∷ LoadMonitor 1 ∷ LoadSection 2 ∷ []
  -- a live section is pinned by one who wants to read what was written in it, as deep as it was written, and is then known,
  -- so that the next such word is read at once; while it is revoked it is waited for
  pub pins_writer : makes_beside Live 1 1 5 (Read 3 0 ∷ Read 3 0 ∷ [])
      ≡ LoadWord 5 ∷ LoadSection 2 ∷ Pin 2 (others Live 1 1) 2 ∷ LoadWord 5 ∷ LoadWord 5 ∷ []
  pub knows_writer : makes_beside Live 1 2 4 (Read 3 0 ∷ Read 3 0 ∷ []) ≡ LoadWord 5 ∷ LoadSection 2 ∷ LoadWord 5 ∷ LoadWord 5 ∷ []
  pub waits_for_writer : makes_beside Revoking 1 0 4 (Read 3 0 ∷ []) ≡ LoadWord 5 ∷ LoadSection 2 ∷ LoadWord 5 ∷ LoadSection 2 ∷ []
  -- the first thread that waits is notified
  pub notifies : drop 4 (makes_beside Live 1 0 10 (Enter 3 ∷ Op.Notify 3 ∷ []))
      ≡ LoadSection 1 ∷ LoadMonitor 3 ∷ Pin 1 (own 0 1) 1 ∷ LoadWait 1 ∷ LoadWait 2 ∷ Step.Notify 2 (wait_word_of (Waiting 3)) ∷ []
  -- words are put back before monitors are released, and then the thread wants its Enter again
  pub undoes : steps_alone script_code small 5 revoked_thread revoked_words
      ≡ LoadSection 1 ∷ RestoreWord 5 9 ∷ Release 1 ∷ MarkUndone 1 (section_word (number_of Undone) 1 5 0 1 0) ∷ LoadMonitor 1 ∷ []
  -- When undone to an inner level, the words logged since are put back, then the monitor that was held already gets
  -- its depth of then, and the one taken since is released. The thread wants that level's Enter again, and its section
  -- goes on.
  pub undoes_level : steps_alone script_code small 7 nested_thread nested_words
      ≡ LoadSection 1 ∷ RestoreWord 8 4 ∷ SetDepth 1 (monitor_word 1 1 1) ∷ Release 3 ∷ MarkUndone 1 (own 0 1) ∷ LoadSection 1 ∷ LoadMonitor 3 ∷ []
