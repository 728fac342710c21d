-- The laws of monitors along a run.
use Rattle.std.specs.Prelude.{◌≡◌, ◌≢◌, ◌<◌, ◌≤◌, ◌+◌, ◌^◌, ℕ, true, Some, List, length, slice_get}
use Rattle.op_core.specs.ThreadCode.{Code}
use Rattle.heap_words.specs.declared.areas.Area.TheVariants as area
use Rattle.section_state.specs.SectionWord.{revoke_of}
use Rattle.step_port.specs.declared.answer.StepAnswer.TheVariants.{Done}
use Rattle.step_port.specs.declared.step.Step.TheVariants.{MarkUndone}
use Rattle.thread_automaton.specs.declared.Bounds.{Bounds}
use Rattle.thread_automaton.specs.declared.Attempt.TheVariants.{Undoing}
use Rattle.thread_automaton.specs.ThreadState.{ThreadState, held_as, mark_of}
use Rattle.thread_automaton.specs.NextMove.{held_word}
use Rattle.core_runs.specs.Cores.{Core}
use Rattle.core_runs.specs.Acts.{Act, did}
use Rattle.automaton_rows.specs.Undoing.{is_held, HeldFits}
use Rattle.first_law.specs.Held.{Holds}
use Rattle.first_law.specs.RunMonitors.{IsObject, IsMonitorRun}

-- so it is of each thread at each place
abbrev pub ThreadsHold : {S : Type 0} → Code S → Type 0
ThreadsHold {S} code = (b : Bounds) (first : S) (classes : ℕ) (c : ℕ → Core S) (acts : List Act) → IsMonitorRun code b first classes c acts
    → (k t : ℕ) (th : ThreadState S) → k ≤ length acts → (c k).threads t ≡ Some th → Holds b (code.next th.local) th

-- The words of monitors say which thread holds which monitor.
pub record MonitorsAreHeld {S : Type 0} (c : Core S) : Type 0 where
  -- the word of a monitor that a thread holds names the thread's section, how often the monitor was entered, and its level
  pub says : (t r : ℕ) (th : ThreadState S) → c.threads t ≡ Some th → is_held r th.held ≡ true → c.words (area.Object (r + 1)) ≡ held_word th.section (held_as r th.held)
  -- it is that of an object, and no other thread holds it
  pub objects : (t r : ℕ) (th : ThreadState S) → c.threads t ≡ Some th → is_held r th.held ≡ true → IsObject c r
  pub one : (t u r : ℕ) (th uh : ThreadState S) → c.threads t ≡ Some th → c.threads u ≡ Some uh → is_held r th.held ≡ true → is_held r uh.held ≡ true → t ≡ u
  -- the monitor of an object is free, or held by a thread
  pub taken : (r : ℕ) → IsObject c r → c.words (area.Object (r + 1)) ≢ 0 → (t : ℕ) × (th : ThreadState S) × (c.threads t ≡ Some th) × (is_held r th.held ≡ true)

abbrev pub MonitorsOfThreadsAreHeld : {S : Type 0} → Code S → Type 0
MonitorsOfThreadsAreHeld {S} code = (b : Bounds) (first : S) (classes : ℕ) (c : ℕ → Core S) (acts : List Act) → IsMonitorRun code b first classes c acts
    → (k : ℕ) → k ≤ length acts → MonitorsAreHeld (c k)

-- A thread that undoes its section to a level holds what the level's mark names, as undoing asks for it: so undoing goes
-- through, as it says there.
abbrev pub UndoingsFit : {S : Type 0} → Code S → Type 0
UndoingsFit {S} code = (b : Bounds) (first : S) (classes : ℕ) (c : ℕ → Core S) (acts : List Act) → IsMonitorRun code b first classes c acts
    → (k t w : ℕ) (th : ThreadState S) → k ≤ length acts → (c k).threads t ≡ Some th → th.attempt ≡ Undoing w
    → HeldFits (mark_of th (revoke_of w)) (revoke_of w) th.held × (th.section < 2 ^ 32)

-- As it marks the level as undone it holds exactly the monitors that the mark names, in their order, each as often as then.
abbrev pub UndoneMonitorsAreAsBefore : {S : Type 0} → Code S → Type 0
UndoneMonitorsAreAsBefore {S} code = (b : Bounds) (first : S) (classes : ℕ) (c : ℕ → Core S) (acts : List Act) → IsMonitorRun code b first classes c acts
    → (k t s w seen : ℕ) (th : ThreadState S) → slice_get acts k ≡ Some (did t (MarkUndone s w) Done) → (c k).threads t ≡ Some th → th.attempt ≡ Undoing seen
    → th.held ≡ (mark_of th (revoke_of seen)).held
