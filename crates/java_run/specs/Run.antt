-- What a program's execution answers.
use Rattle.std.specs.Prelude.{◌≡◌, ℕ, Bool, true, false, List, [], ◌∷◌, ◌++◌, map, filter_map, codes}
use Rattle.std.specs.Fmt.{decimal}
use Rattle.code_decode.specs.declared.code.ClassUnit.{ClassUnit}
use Rattle.op_core.specs.declared.Event.{Event}
use Rattle.op_core.specs.declared.Undo.{Undo}
use Rattle.op_core.specs.declared.How.{How}
use Rattle.op_core.specs.declared.How.TheVariants as how
use Rattle.op_core.specs.declared.Limits.{Limits}
use Rattle.op_core.specs.declared.Outcome.{Outcome}
use Rattle.schedules.specs.declared.order.Schedule.{Schedule}
use Rattle.program_answers.specs.declared.status.Status.{Status}
use Rattle.program_answers.specs.declared.status.Status.TheVariants as statuses
use Rattle.program_answers.specs.declared.answer.Answer.{Answer}
use Rattle.program_answers.specs.Output.{journal_pieces}
use Rattle.program_answers.specs.Written.{line}
use Rattle.link_types.specs.declared.operands.MethodId.{MethodId}
use Rattle.java_machine.specs.Ends.{died_line, limit_line}
use Rattle.java_machine.specs.Lines.{line_bytes}
use Rattle.java_words.specs.WordRun.{IsWordRun}
use Rattle.java_words.specs.HostedRun.{IsHostedRun}
use Rattle.java_words.specs.TracedRun.{IsTracedRun}
use Rattle.java_run.specs.declared.answering.PrintedRun.{PrintedRun}

abbrev pub status_of : How → Status
status_of how.Done = statuses.Done
status_of how.Died = statuses.Died
status_of how.Stuck = statuses.Stuck
status_of (how.Limit t limit) = statuses.Limit

-- why it didn't end of itself
abbrev pub how_lines : How → List (List ℕ)
how_lines how.Stuck = line (codes "stuck") ∷ []
how_lines (how.Limit t limit) = limit_line limit t ∷ []
how_lines _ = []

-- how many sections were opened, and how often a thread undid levels
abbrev pub count_line : Outcome → List ℕ
count_line outcome = line (((codes "counts: opened " ++ decimal outcome.opened) ++ codes " undone ") ++ decimal outcome.undone)

-- on the standard error the threads that died, by number, and then why the run didn't end of itself
abbrev pub err_lines : List ClassUnit → Outcome → List (List ℕ)
err_lines us outcome = filter_map (died_line us) outcome.ends ++ how_lines outcome.how

-- after these the counts, where they are asked for
abbrev pub counted_err_lines : List ClassUnit → Bool → Outcome → List (List ℕ)
counted_err_lines us false outcome = err_lines us outcome
counted_err_lines us true outcome = err_lines us outcome ++ count_line outcome ∷ []

-- the answer that prints the lines
abbrev pub answer_of : List ClassUnit → Bool → Outcome → Answer
answer_of us counts outcome = record {
  status = status_of outcome.how;
  out = map (line_bytes us outcome.made) outcome.lines;
  err = counted_err_lines us counts outcome;
}

-- the answer that prints the journal of these events and undoings in their place
abbrev pub journal_answer : List ClassUnit → List Event → List Undo → Outcome → Answer
journal_answer us events undos outcome = record {
  status = status_of outcome.how;
  out = journal_pieces events undos;
  err = err_lines us outcome;
}

-- the answer prints the lines of the run on shared words, with its counts where they are asked for
pub record IsRunOf (us : List ClassUnit) (main : MethodId) (schedule : Schedule) (limits : Limits) (counts : Bool) (answer : Answer) : Type 0 where
  pub outcome : Outcome
  pub run : IsWordRun us main schedule limits outcome
  pub answered : answer ≡ answer_of us counts outcome

-- the answer prints the lines of a run on host threads, with its counts where they are asked for
pub record IsHostedRunOf (us : List ClassUnit) (main : MethodId) (limits : Limits) (counts : Bool) (answer : Answer) : Type 0 where
  pub outcome : Outcome
  pub run : IsHostedRun us main limits outcome
  pub answered : answer ≡ answer_of us counts outcome

-- the answer prints the journal of the run on shared words, which ends at the latest where a journal is full
pub record IsTraceOf (us : List ClassUnit) (main : MethodId) (schedule : Schedule) (limits : Limits) (answer : Answer) : Type 0 where
  pub outcome : Outcome
  pub run : IsTracedRun us main schedule limits outcome
  pub answered : answer ≡ journal_answer us run.executed.events run.undos outcome

-- a run's status and lines as an answer
abbrev pub shown : PrintedRun → Answer
shown run = record { status = run.status; out = run.lines; err = run.err }
