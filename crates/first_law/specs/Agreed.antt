-- Where the events that are left find the monitors as the events left before them have made them.
use Rattle.std.specs.Prelude.{◌≡◌, ℕ, Bool, Some, List, slice_get}
use Rattle.op_core.specs.declared.Op.{Op}
use Rattle.op_core.specs.declared.Op.TheVariants.{Enter, Exit, Wait, Rewake}
use Rattle.op_core.specs.declared.Reply.{Reply}
use Rattle.op_core.specs.declared.Reply.TheVariants.{Done, NotOwner, Woken}
use Rattle.op_core.specs.declared.Next.TheVariants.{Want}
use Rattle.op_core.specs.ThreadCode.{Code}
use Rattle.op_core.specs.OrdinaryState.{Monitor, IsOwner}
use Rattle.step_port.specs.declared.answer.StepAnswer.{StepAnswer}
use Rattle.step_port.specs.declared.step.Step.{Step}
use Rattle.thread_automaton.specs.declared.Bounds.{Bounds}
use Rattle.thread_automaton.specs.ThreadState.{ThreadState}
use Rattle.thread_automaton.specs.Told.{advanced, told}
use Rattle.core_runs.specs.Cores.{Core}
use Rattle.core_runs.specs.Acts.{Act, did}
use Rattle.core_runs.specs.Reading.{ordinary}
use Rattle.section_laws.specs.Settled.{to_undo}
use Rattle.first_law.specs.RunMonitors.{IsMonitorRun}
use Rattle.first_law.specs.SettledRuns.{IsDoomedTest, AreSettled}

-- What thread t's operation on the monitor of r, with this reply, asks of it: it is the same in the ordinary state and as
-- the events that are left have made it, or isn't the thread's there. This is `Agrees` of `op_core`, of monitors alone.
abbrev pub AgreesOnMonitors : (ℕ → Monitor) → (ℕ → Monitor) → ℕ → Op → Reply → Type 0
AgreesOnMonitors monitors settled t (Enter r) Done = monitors r ≡ settled r
AgreesOnMonitors monitors settled t (Rewake r) Done = monitors r ≡ settled r
AgreesOnMonitors monitors settled t (Exit r) Done = monitors r ≡ settled r
AgreesOnMonitors monitors settled t (Wait r) Done = monitors r ≡ settled r
AgreesOnMonitors monitors settled t (Op.Notify r) (Woken n) = monitors r ≡ settled r
AgreesOnMonitors monitors settled t (Exit r) NotOwner = IsOwner t (settled r) → ⊥
AgreesOnMonitors monitors settled t (Wait r) NotOwner = IsOwner t (settled r) → ⊥
AgreesOnMonitors monitors settled t (Op.Notify r) NotOwner = IsOwner t (settled r) → ⊥
AgreesOnMonitors monitors settled t op reply = Unit {0}

-- so it is of each operation that is answered while its thread has no level open that is to be undone
abbrev pub MonitorsAgree : {S : Type 0} → Code S → Type 0
MonitorsAgree {S} code = (b : Bounds) (first : S) (classes : ℕ) (c : ℕ → Core S) (acts : List Act) → IsMonitorRun code b first classes c acts
    → (doomed : ℕ → Bool) → IsDoomedTest c acts doomed → (settled : ℕ → ℕ → Monitor) → AreSettled code b doomed c acts settled → (is_thread : ℕ → Bool)
    → (k t : ℕ) (step : Step) (answer : StepAnswer) (th : ThreadState S) (op : Op) (reply : Reply) → slice_get acts k ≡ Some (did t step answer) → (c k).threads t ≡ Some th
    → code.next th.local ≡ Want op → told code b th step answer ≡ advanced (Some reply) → to_undo doomed ((c k).levels t) ≡ 0
    → AgreesOnMonitors (ordinary code is_thread (c k)).monitors (settled k) t op reply
