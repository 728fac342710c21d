-- What is so of all threads.
use Rattle.std.specs.Prelude.{◌≡◌, ℕ}
use Rattle.op_core.specs.declared.Next.{Next}
use Rattle.monitor_core.specs.declared.Contend.{Contend}
use Rattle.monitor_core.specs.declared.Contend.TheVariants.{Free, Own, Busy}
use Rattle.monitor_core.specs.Monitors.{monitor_section, monitor_level}
use Rattle.monitor_core.specs.Contention.{contend_for}
use Rattle.step_port.specs.declared.step.Step.TheVariants.{Revoke}
use Rattle.thread_automaton.specs.declared.Attempt.TheVariants.{Fixed, Meets}
use Rattle.thread_automaton.specs.ThreadState.{ThreadState}
use Rattle.thread_automaton.specs.Changes.{goes, has_to_wait}
use Rattle.thread_automaton.specs.Checks.{holder_seen}
use Rattle.thread_automaton.specs.Monitors.{entering, entering_free, entering_own}

-- What becomes of a thread that has loaded the monitor of r that it wants, and the word of the section that holds it,
-- by the table of contention.
abbrev pub IsByContention : {S : Type 0} → ThreadState S → Next → ℕ → ℕ → ℕ → Contend → Type 0
IsByContention th next r m section Free = entering th next r m ≡ entering_free th next
IsByContention th next r m section Own = entering th next r m ≡ entering_own th r m
IsByContention th next r m section (Contend.Revoke level) =
    (entering th next r m ≡ goes (Meets (monitor_section m) (monitor_level m)))
    × (holder_seen th (monitor_section m) (monitor_level m) section ≡ goes (Fixed (Revoke (monitor_section m) section level)))
IsByContention th next r m section (Busy why) =
    (entering th next r m ≡ goes (Meets (monitor_section m) (monitor_level m)))
    × (holder_seen th (monitor_section m) (monitor_level m) section ≡ has_to_wait why)

abbrev pub MonitorsGoByContention : Type 0 → Type 0
MonitorsGoByContention S = (th : ThreadState S) (next : Next) (r m section : ℕ)
    → IsByContention th next r m section (contend_for m section th.section th.priority)
