-- What the words of waits say along a run: who waits for which object, and how far a notify has looked for a thread that does.
use Rattle.std.specs.Prelude.{◌≡◌, ◌≢◌, ◌⊎◌, ◌<◌, ◌^◌, ℕ, true, None, Some}
use Rattle.op_core.specs.declared.Op.{Op}
use Rattle.op_core.specs.declared.Op.TheVariants.{Wait, Rewake}
use Rattle.op_core.specs.declared.Next.{Next}
use Rattle.op_core.specs.declared.Next.TheVariants.{Want}
use Rattle.op_core.specs.ThreadCode.{Code}
use Rattle.op_core.specs.OrdinaryState.{IsWaitingFor}
use Rattle.heap_words.specs.declared.areas.Area.{Area}
use Rattle.heap_words.specs.declared.words.WaitWord.TheVariants.{Waiting}
use Rattle.heap_words.specs.Words.{wait_object, wait_state, wait_word_of}
use Rattle.step_port.specs.declared.step.Step.{Step}
use Rattle.step_port.specs.declared.step.Step.TheVariants.{Release, LoadWait}
use Rattle.thread_automaton.specs.declared.Attempt.{Attempt}
use Rattle.thread_automaton.specs.declared.Attempt.TheVariants.{Fixed, Meets}
use Rattle.thread_automaton.specs.ThreadState.{ThreadState}
use Rattle.thread_automaton.specs.Answers.{is_notified_for}
use Rattle.core_runs.specs.Cores.{Core}
use Rattle.core_runs.specs.Reading.{waiting_in}

-- of a thread that is to take a monitor again after a wait: its attempt is past the load of its wait word
abbrev pub HasLooked : Attempt → Type 0
HasLooked (Fixed step) = Unit {0}
HasLooked (Meets s level) = Unit {0}
HasLooked attempt = ⊥

-- a thread that waits is about to release the monitor
abbrev pub IsGivingUp : Attempt → Type 0
IsGivingUp (Fixed (Release q)) = Unit {0}
IsGivingUp attempt = ⊥

-- The wait word w of a thread that does this. One that has given up a monitor waits for its object, or was notified; it goes
-- on past its wait word where it was notified. One that is about to give it up waits for it already. No other thread waits.
abbrev pub WaitWordSays : Next → Attempt → ℕ → Type 0
WaitWordSays (Want (Rewake r)) attempt w = (wait_object w ≡ r) × ((wait_state w ≡ 1) ⊎ (wait_state w ≡ 2)) × (HasLooked attempt → is_notified_for r w ≡ true)
WaitWordSays (Want (Wait r)) attempt w = (IsGivingUp attempt → (w ≡ wait_word_of (Waiting r)) × (r < 2 ^ 32)) × ((IsGivingUp attempt → ⊥) → wait_state w ≢ 1)
WaitWordSays next attempt w = wait_state w ≢ 1

-- a notify has looked at the threads with lower numbers than this
abbrev pub looked_below : Attempt → ℕ
looked_below (Fixed (LoadWait n)) = n
looked_below (Fixed (Step.Notify n w)) = n
looked_below attempt = 0

pub record WaitsAreKnown {S : Type 0} (code : Code S) (c : Core S) : Type 0 where
  -- a thread that isn't there doesn't wait, and none has the number 0
  pub unused : (t : ℕ) → c.threads t ≡ None → c.words (Area.Wait t) ≡ 0
  pub from_one : c.threads 0 ≡ None
  pub says : (t : ℕ) (th : ThreadState S) → c.threads t ≡ Some th → WaitWordSays (code.next th.local) th.attempt (c.words (Area.Wait t))
  -- a notify has passed no thread that waits
  pub passed : (t u r : ℕ) (th : ThreadState S) → c.threads t ≡ Some th → code.next th.local ≡ Want (Op.Notify r) → u < looked_below th.attempt
      → IsWaitingFor r (waiting_in (c.threads u) (c.words (Area.Wait u))) → ⊥
