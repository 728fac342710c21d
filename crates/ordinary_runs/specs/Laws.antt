-- What is proved of all scheduled runs, for all thread codes.
use Rattle.std.specs.Prelude.{◌≡◌, ℕ, ◌≤◌, Some, None, IfSome, List, [], ◌++◌, length, if◌then◌else◌}
use Rattle.op_core.specs.declared.Event.{Event}
use Rattle.op_core.specs.declared.Limits.{Limits}
use Rattle.op_core.specs.declared.How.TheVariants.{Stuck}
use Rattle.op_core.specs.declared.Outcome.{Outcome}
use Rattle.op_core.specs.ThreadCode.{Code}
use Rattle.op_core.specs.OrdinaryState.{OrdinaryState}
use Rattle.op_core.specs.Execution.{Leads, printed, EndsStuck}
use Rattle.op_core.specs.MadeTexts.{AreMadeTexts}
use Rattle.schedules.specs.declared.order.Schedule.{Schedule}
use Rattle.ordinary_machine.specs.Machine.{Machine}
use Rattle.ordinary_machine.specs.Advance.{HasHalted}
use Rattle.ordinary_runs.specs.ScheduledRun.{Keeping, no_steps, all_steps, a_journal, keeps_steps, AreEnds, IsOutcome}
use Rattle.ordinary_runs.specs.declared.turns.TheConstants.{MOST_EVENTS}

-- a machine that follows a schedule under limits has one outcome
abbrev pub RunsHaveOneOutcome : {S : Type 0} → Code S → Type 0
RunsHaveOneOutcome {S} code = (m : Machine S) (schedule : Schedule) (limits : Limits) (keeping : Keeping) (outcome other : Outcome)
    → IsOutcome code m schedule limits keeping outcome → IsOutcome code m schedule limits keeping other → other ≡ outcome

-- the outcome of a run, with the events that its turns made
abbrev pub with_events : Outcome → List Event → Outcome
with_events outcome events = record outcome { events = Some events; undos = Some [] }

-- A run of which no events were kept is one of which they were: the same comes of it, and the events that its turns made.
abbrev pub RunsHaveEvents : {S : Type 0} → Code S → Type 0
RunsHaveEvents {S} code = (m : Machine S) (schedule : Schedule) (limits : Limits) (outcome : Outcome) → IsOutcome code m schedule limits no_steps outcome
    → (events : List Event) × IsOutcome code m schedule limits all_steps (with_events outcome events)

-- A run that keeps the steps of a journal keeps at most as many as a journal has room for.
abbrev pub RunsFitJournals : {S : Type 0} → Code S → Type 0
RunsFitJournals {S} code = (m : Machine S) (schedule : Schedule) (limits : Limits) (outcome : Outcome) → IsOutcome code m schedule limits a_journal outcome
    → IfSome outcome.events (λ events. length events ≤ MOST_EVENTS)

-- Some events are an execution from the machine's state: those of the outcome, where they were kept. The machine's lines
-- and those that they print are the outcome's, and in their last state the threads have ended, and the texts that the program
-- made are, as the outcome says.
pub record IsExecuted {S : Type 0} (code : Code S) (m : Machine S) (keeping : Keeping) (outcome : Outcome) : Type 0 where
  pub events : List Event
  pub last : OrdinaryState S
  pub kept : outcome.events ≡ (if keeps_steps keeping then Some events else None)
  pub leads : Leads code m.now events last
  pub lines : outcome.lines ≡ m.now.lines ++ printed events
  pub ends : AreEnds last outcome.ends
  pub made : AreMadeTexts last outcome.lines outcome.made

abbrev pub RunsAreExecutions : {S : Type 0} → Code S → Type 0
RunsAreExecutions {S} code = (m : Machine S) (schedule : Schedule) (limits : Limits) (keeping : Keeping) (outcome : Outcome)
    → m.silents ≡ (λ _. 0) → IsOutcome code m schedule limits keeping outcome → IsExecuted code m keeping outcome

-- Where a run is stuck and no thread is at its code's end without having ended, some events are an execution that ends
-- stuck, and print the outcome's lines: those of the outcome, where they were kept.
abbrev pub StuckRunsAreStuck : {S : Type 0} → Code S → Type 0
StuckRunsAreStuck {S} code = (m : Machine S) (schedule : Schedule) (limits : Limits) (keeping : Keeping) (outcome : Outcome) (ran : IsOutcome code m schedule limits keeping outcome)
    → m.silents ≡ (λ _. 0) → outcome.how ≡ Stuck → ((t : ℕ) → HasHalted code ran.last.state.machine t → ⊥)
    → (events : List Event) × (outcome.events ≡ (if keeps_steps keeping then Some events else None))
    × EndsStuck code m.now events × (outcome.lines ≡ m.now.lines ++ printed events)
