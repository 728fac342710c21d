-- A journal that trace wrote is accepted by check.
use Rattle.std.specs.Prelude.{ℕ, [], map, Some}
use Rattle.std.specs.List.{AllByRecursion, concat}
use Rattle.op_core.specs.declared.Limits.{Limits}
use Rattle.schedules.specs.declared.order.Schedule.{Schedule}
use Rattle.ordinary_machine.specs.Step.{event_without_line}
use Rattle.trace_journal.specs.Spelling.{IsItem}
use Rattle.trace_journal.specs.Text.{merged}
use Rattle.java_machine.specs.Lines.{line_bytes}
use Rattle.program_accept.specs.Accepted.{Accepted}
use Rattle.program_answers.specs.declared.status.Status.TheVariants.{Done}
use Rattle.program_answers.specs.declared.answer.Answer.{Answer}
use Rattle.command_answers.specs.Answers.{Traces, Checks}

-- What trace wrote of a run is a text that check accepts, and check prints the lines of that run, if lines of a journal can say
-- the run's events and undoings.
abbrev pub TracesAreAccepted : Type 0
TracesAreAccepted = (schedule : Schedule) (limits : Limits) (count : ℕ) (program : Accepted) (answer : Answer) (traced : Traces schedule limits count program answer)
    → AllByRecursion (IsItem 2) (merged 0 (map event_without_line traced.run.executed.events) traced.run.undos)
    → Checks (Some (concat answer.out)) count program (record { status = Done; out = map (line_bytes program.units traced.outcome.made) traced.outcome.lines; err = [] })
