-- Where the threads of a scheduled run are, and when it is stuck.
use Rattle.std.specs.Prelude.{◌≡◌, ℕ, Some, None, List, ◌++◌, if◌then◌else◌}
use Rattle.op_core.specs.declared.Event.{Event}
use Rattle.op_core.specs.declared.How.TheVariants.{Stuck}
use Rattle.op_core.specs.declared.Limits.{Limits}
use Rattle.op_core.specs.declared.Outcome.{Outcome}
use Rattle.op_core.specs.ThreadCode.{Code}
use Rattle.op_core.specs.Execution.{EndsStuck, printed}
use Rattle.op_core.specs.Orderly.{IsOrderly}
use Rattle.op_core.specs.OrderlyLaws.{AllCanStand}
use Rattle.schedules.specs.declared.order.Schedule.{Schedule}
use Rattle.ordinary_machine.specs.Machine.{Machine}
use Rattle.ordinary_runs.specs.ScheduledRun.{Keeping, keeps_steps, IsOutcome}

-- each thread of the last machine of a run is at a local state that one can come to from the first local state, if that is
-- so of the first machine
abbrev pub RunsStandWhereTheyCan : {S : Type 0} → Code S → Type 0
RunsStandWhereTheyCan {S} code = (first : S) (m : Machine S) (schedule : Schedule) (limits : Limits) (keeping : Keeping) (outcome : Outcome) (ran : IsOutcome code m schedule limits keeping outcome)
    → AllCanStand code first m.now → AllCanStand code first ran.last.state.machine.now

-- Where a run of threads that go in order is stuck, some events are an execution that ends stuck, and print the outcome's
-- lines: those of the outcome, where they were kept.
abbrev pub OrderlyRunsEndStuck : {S : Type 0} → Code S → Type 0
OrderlyRunsEndStuck {S} code = (first : S) (classes : ℕ) (m : Machine S) (schedule : Schedule) (limits : Limits) (keeping : Keeping) (outcome : Outcome)
    → IsOrderly code first classes → AllCanStand code first m.now → m.silents ≡ (λ _. 0) → IsOutcome code m schedule limits keeping outcome → outcome.how ≡ Stuck
    → (events : List Event) × (outcome.events ≡ (if keeps_steps keeping then Some events else None))
    × EndsStuck code m.now events × (outcome.lines ≡ m.now.lines ++ printed events)
