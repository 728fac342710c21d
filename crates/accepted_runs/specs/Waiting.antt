-- What a stuck run of a program is.
use Rattle.std.specs.Prelude.{◌≡◌, ℕ, Some, None, List, if◌then◌else◌}
use Rattle.code_decode.specs.declared.code.ClassUnit.{ClassUnit}
use Rattle.link_types.specs.declared.operands.MethodId.{MethodId}
use Rattle.op_core.specs.declared.Event.{Event}
use Rattle.op_core.specs.declared.How.TheVariants.{Stuck}
use Rattle.op_core.specs.declared.Limits.{Limits}
use Rattle.op_core.specs.declared.Outcome.{Outcome}
use Rattle.op_core.specs.Execution.{Leads, IsStuck, printed}
use Rattle.op_core.specs.OrdinaryState.{OrdinaryState, live}
use Rattle.schedules.specs.declared.order.Schedule.{Schedule}
use Rattle.ordinary_machine.specs.Start.{start_of}
use Rattle.ordinary_runs.specs.ScheduledRun.{Keeping, keeps_steps, IsOutcome}
use Rattle.java_rows.specs.Start.{opening_of, start_of_program}
use Rattle.java_rows.specs.Thread.{Local, first_state, java_code}
use Rattle.program_soundness.specs.Soundness.{WaitsAt}

-- the events lead from the start of the program to a state that is stuck: some thread hasn't ended, none of these has a step,
-- and each of them waits
pub record EndsWaiting (us : List ClassUnit) (main : MethodId) (events : List Event) : Type 0 where
  pub last : OrdinaryState Local
  pub leads : Leads java_code (start_of_program us main) events last
  pub stuck : IsStuck java_code last
  pub all_wait : (t : ℕ) (l : Local) → last.threads t ≡ live l → WaitsAt last t l

-- a run of the program that is stuck ends so, and prints the lines of these events: those of the outcome, where they were kept
abbrev pub StuckRunsWait : List ClassUnit → MethodId → Type 0
StuckRunsWait us main = (schedule : Schedule) (limits : Limits) (keeping : Keeping) (outcome : Outcome)
    → IsOutcome java_code (start_of (opening_of us) (first_state us main)) schedule limits keeping outcome → outcome.how ≡ Stuck
    → (events : List Event) × (outcome.events ≡ (if keeps_steps keeping then Some events else None))
    × EndsWaiting us main events × (outcome.lines ≡ printed events)
