-- A run of the ordinary machine that follows a schedule, and its outcome.
use Rattle.std.specs.Prelude.{◌≡◌, ℕ, zero, suc, ◌<◌, ◌≤◌, Bool, true, false, None, Some, Option, List, [], map, length, All, if◌then◌else◌}
use Rattle.std.specs.Option.{option_map}
use Rattle.op_core.specs.declared.Limits.{Limits}
use Rattle.op_core.specs.declared.How.{How}
use Rattle.op_core.specs.declared.How.TheVariants as how
use Rattle.op_core.specs.declared.ThreadEnd.{ThreadEnd}
use Rattle.op_core.specs.declared.Outcome.{Outcome}
use Rattle.op_core.specs.ThreadCode.{Code}
use Rattle.op_core.specs.OrdinaryState.{OrdinaryState, ended, HasEnded}
use Rattle.op_core.specs.MadeTexts.{AreMadeTexts}
use Rattle.schedules.specs.declared.order.OrderItem.{OrderItem}
use Rattle.schedules.specs.declared.order.OrderItem.TheVariants.{Turns, Until}
use Rattle.schedules.specs.declared.order.TurnEnd.{TurnEnd}
use Rattle.schedules.specs.declared.order.TurnEnd.TheVariants.{Other, Spent}
use Rattle.schedules.specs.declared.order.Schedule.{Schedule}
use Rattle.schedules.specs.Schedule.{order_after}
use Rattle.schedules.specs.Run.{AreThose, TurnSystem, Run, Follows, EndsBy, Goes}
use Rattle.ordinary_machine.specs.Machine.{Machine}
use Rattle.ordinary_runs.specs.declared.run.ScheduledRun.{ScheduledRun}
use Rattle.ordinary_runs.specs.Turns.{Progress, machine_turns, untraced_turns, progress_of}

-- what a run keeps of its steps: none of them; each, however many; or as many as a journal has room for, and then it ends
pub data Keeping : Type 0 where
  no_steps : Keeping
  all_steps : Keeping
  a_journal : Keeping

abbrev pub keeps_steps : Keeping → Bool
keeps_steps no_steps = false
keeps_steps all_steps = true
keeps_steps a_journal = true

-- what is kept where a journal is asked for, or isn't
abbrev pub keeping_for : Bool → Keeping
keeping_for true = a_journal
keeping_for false = no_steps

abbrev pub turns_keeping : {S : Type 0} → Code S → Limits → Keeping → TurnSystem (Progress S)
turns_keeping code limits all_steps = untraced_turns code limits
turns_keeping code limits no_steps = machine_turns code limits
turns_keeping code limits a_journal = machine_turns code limits

-- at the beginning of a schedule no turn has counted, and no step was made
abbrev pub begun_with : {S : Type 0} → Machine S → Schedule → Keeping → Run (Progress S)
begun_with m schedule keeping = record {
  state = record { machine = m; counted = λ _. 0; events = if keeps_steps keeping then Some [] else None };
  rest = record { order = schedule.order; number = schedule.seed };
}

-- how the threads ended that have ended, by rising number
pub record AreEnds {S : Type 0} (s : OrdinaryState S) (ends : List ThreadEnd) : Type 0 where
  pub threads : AreThose (λ t. HasEnded (s.threads t)) (map (λ end. end.thread) ends)
  pub classes : All (λ end. s.threads end.thread ≡ ended end.class) ends

-- What comes of a machine that follows a schedule under limits: the turns of some threads lead to the run's last state,
-- where it ends as the outcome says. No section is opened on this machine.
pub record IsOutcome {S : Type 0} (code : Code S) (m : Machine S) (schedule : Schedule) (limits : Limits) (keeping : Keeping) (outcome : Outcome) : Type 0 where
  pub threads : List ℕ
  pub last : Run (Progress S)
  pub goes : Goes (turns_keeping code limits keeping) (begun_with m schedule keeping) threads outcome.how last
  pub lines : outcome.lines ≡ last.state.machine.now.lines
  pub ends : AreEnds last.state.machine.now outcome.ends
  pub opened : outcome.opened ≡ 0
  pub undone : outcome.undone ≡ 0
  pub events : outcome.events ≡ last.state.events
  pub undos : outcome.undos ≡ option_map (λ _. []) last.state.events
  pub made : AreMadeTexts last.state.machine.now outcome.lines outcome.made

-- where a run is
abbrev pub run_of : {C S : Type 0} → (C → S) → ScheduledRun C → Run (Progress S)
run_of state run = record { state = progress_of state run.turns; rest = run.rest }

-- the item has at least k turns to give
abbrev pub CanGive : ℕ → OrderItem → Type 0
CanGive k (Turns t n) = k ≤ n
CanGive k (Until t kind) = Unit {0}

-- what is left of an order after n turns of its first item, none of which came to what the item asks for
abbrev pub order_behind : ℕ → List OrderItem → List OrderItem
order_behind zero order = order
order_behind (suc n) order = order_after (order_behind n order) Other

-- how a run ends at a turn of thread t that came to this, where it does
abbrev pub how_at : ℕ → TurnEnd → Option How
how_at t (Spent limit) = Some (how.Limit t limit)
how_at t _ = None

-- one or more turns of threads whose numbers are below 256 lead from one run to the other
pub record GoesOn {S : Type 0} (code : Code S) (limits : Limits) (run next : Run (Progress S)) : Type 0 where
  pub threads : List ℕ
  pub some : 0 < length threads
  pub numbers : All (λ t. t < 256) threads
  pub follows : Follows (machine_turns code limits) run threads next

-- a run goes on; or it ends in this way, and its state stays
abbrev pub GoesOnOrEnds : {S : Type 0} → Code S → Limits → Run (Progress S) → Option How → Run (Progress S) → Type 0
GoesOnOrEnds code limits run None next = GoesOn code limits run next
GoesOnOrEnds code limits run (Some how) next = EndsBy (machine_turns code limits) run how × (next.state ≡ run.state)
