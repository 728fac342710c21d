-- What is so of monitors and of waits at a place of a run, as far as the ordinary state shows it.
use Rattle.std.specs.Prelude.{◌≡◌, ◌≢◌, ◌⊎◌, ◌<◌, ◌+◌, ◌^◌, ℕ, suc, true, Some, Contains}
use Rattle.op_core.specs.declared.Op.{Op}
use Rattle.op_core.specs.declared.Op.TheVariants.{Enter, Exit, Wait, Rewake}
use Rattle.op_core.specs.declared.Next.{Next}
use Rattle.op_core.specs.declared.Next.TheVariants.{Want}
use Rattle.op_core.specs.ThreadCode.{Code}
use Rattle.op_core.specs.OrdinaryState.{Object, IsWaitingFor}
use Rattle.heap_words.specs.declared.areas.Area.{Area}
use Rattle.heap_words.specs.declared.words.WaitWord.TheVariants.{Waiting}
use Rattle.heap_words.specs.Words.{wait_object, wait_state, wait_word_of}
use Rattle.section_state.specs.SectionWord.{revoke_of}
use Rattle.step_port.specs.declared.step.Step.{Step}
use Rattle.step_port.specs.declared.step.Step.TheVariants.{TakeMonitor, SetDepth, Release, LoadWait}
use Rattle.thread_automaton.specs.declared.Attempt.TheVariants.{Fixed, Undoing}
use Rattle.thread_automaton.specs.declared.Held.{Held}
use Rattle.thread_automaton.specs.ThreadState.{ThreadState, mark_of, held_as}
use Rattle.thread_automaton.specs.NextMove.{held_word}
use Rattle.thread_automaton.specs.Answers.{is_notified_for}
use Rattle.automaton_rows.specs.Undoing.{is_held}
use Rattle.core_runs.specs.Cores.{Core}
use Rattle.core_runs.specs.Reading.{waiting_in}

-- the word of a monitor can say this of one that is held
abbrev pub FitsMonitorWord : Held → Type 0
FitsMonitorWord h = (0 < h.depth) × (h.depth < 2 ^ 16) × (h.level < 2 ^ 8)

-- A monitor that isn't free is held by one thread, and its word says what the thread knows of it.
pub record MonitorsAreHeld {S : Type 0} (c : Core S) : Type 0 where
  pub says : (t r : ℕ) (th : ThreadState S) → c.threads t ≡ Some th → is_held r th.held ≡ true
      → (c.words (Area.Object (r + 1)) ≡ held_word th.section (held_as r th.held)) × FitsMonitorWord (held_as r th.held)
  pub sections : (t r : ℕ) (th : ThreadState S) → c.threads t ≡ Some th → is_held r th.held ≡ true → 0 < th.section
  pub holders : (r : ℕ) (o : Object) → c.objects r ≡ Some o → c.words (Area.Object (r + 1)) ≢ 0
      → (t : ℕ) × (th : ThreadState S) × (c.threads t ≡ Some th) × (is_held r th.held ≡ true)

-- what is so of a step on a monitor that a thread has fixed: how the word changes, and how often the monitor was entered
abbrev pub FixedHolds : {S : Type 0} → ThreadState S → Next → Step → Type 0
FixedHolds th (Want (Enter r)) (SetDepth q new) = (is_held r th.held ≡ true) × ((held_as r th.held).depth < 65535)
    × (new ≡ held_word th.section (record (held_as r th.held) { depth = suc (held_as r th.held).depth }))
FixedHolds th (Want (Rewake r)) (SetDepth q new) = ⊥
FixedHolds th (Want (Exit r)) (SetDepth q new) = (is_held r th.held ≡ true)
    × ((d : ℕ) × (suc (suc d) ≡ (held_as r th.held).depth) × (new ≡ held_word th.section (record (held_as r th.held) { depth = suc d })))
FixedHolds th (Want (Exit r)) (Release q) = (is_held r th.held ≡ true) × ((held_as r th.held).depth ≡ 1)
FixedHolds th (Want (Wait r)) (Release q) = is_held r th.held ≡ true
FixedHolds th (Want (Op.Notify r)) step = is_held r th.held ≡ true
FixedHolds th next step = Unit {0}

-- A thread has given up a monitor exactly where it is to take it again.
abbrev pub WaitsHold : {S : Type 0} → ThreadState S → Next → Type 0
WaitsHold th (Want (Rewake r)) = (0 < th.depth) × (th.depth < 2 ^ 16)
WaitsHold th next = th.depth ≡ 0

-- the wait word w of a thread that does this says for which object it waits
abbrev pub WaitWordSays : Next → ℕ → Type 0
WaitWordSays (Want (Rewake r)) w = (wait_object w ≡ r) × ((wait_state w ≡ 1) ⊎ (wait_state w ≡ 2))
WaitWordSays next w = Unit {0}

-- What a fixed step has seen of wait words: that the own thread was notified, that it is recorded as waiting, or that a notify
-- has passed no thread that waits, and found one that does.
abbrev pub FixedWaits : {S : Type 0} → Core S → ℕ → Next → Step → Type 0
FixedWaits c t (Want (Rewake r)) (TakeMonitor q new) = is_notified_for r (c.words (Area.Wait t)) ≡ true
FixedWaits c t (Want (Wait r)) (Release q) = c.words (Area.Wait t) ≡ wait_word_of (Waiting r)
FixedWaits c t (Want (Op.Notify r)) (LoadWait n) = (u : ℕ) → u < n → IsWaitingFor r (waiting_in (c.threads u) (c.words (Area.Wait u))) → ⊥
FixedWaits {S} c t (Want (Op.Notify r)) (Step.Notify n w) = ((u : ℕ) → u < n → IsWaitingFor r (waiting_in (c.threads u) (c.words (Area.Wait u))) → ⊥)
    × (c.words (Area.Wait n) ≡ w → (th : ThreadState S) × (c.threads n ≡ Some th) × (0 < th.depth))
FixedWaits c t next step = Unit {0}

pub record MonitorsFit {S : Type 0} (code : Code S) (c : Core S) : Type 0 where
  pub held : MonitorsAreHeld c
  -- the numbers of sections have 32 bits
  pub numbers : (t : ℕ) (th : ThreadState S) → c.threads t ≡ Some th → th.section < 2 ^ 32
  pub fixed : (t : ℕ) (th : ThreadState S) (step : Step) → c.threads t ≡ Some th → th.attempt ≡ Fixed step
      → FixedHolds th (code.next th.local) step × FixedWaits c t (code.next th.local) step
  pub waits : (t : ℕ) (th : ThreadState S) → c.threads t ≡ Some th
      → WaitsHold th (code.next th.local) × WaitWordSays (code.next th.local) (c.words (Area.Wait t))
  -- what a level found held that is being undone
  pub marked : (t w : ℕ) (th : ThreadState S) (h : Held) → c.threads t ≡ Some th → th.attempt ≡ Undoing w → Contains (mark_of th (revoke_of w)).held h → FitsMonitorWord h
