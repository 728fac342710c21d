-- What comes of a program whose threads run on several host threads at once.
use Rattle.std.specs.Prelude.{◌≡◌, List, None}
use Rattle.code_decode.specs.declared.code.ClassUnit.{ClassUnit}
use Rattle.link_types.specs.declared.operands.MethodId.{MethodId}
use Rattle.op_core.specs.declared.Limits.{Limits}
use Rattle.op_core.specs.declared.Outcome.{Outcome}
use Rattle.ordinary_runs.specs.ScheduledRun.{no_steps}
use Rattle.java_rows.specs.Start.{opening_of}
use Rattle.java_rows.specs.Thread.{java_code, first_state}
use Rattle.opening_cores.specs.Openings.{opening_core}
use Rattle.hosted_runs.specs.Hosted.{IsHostedOutcome}
use Rattle.java_words.specs.WordRun.{program_bounds, of_words, TellsExecution}

-- Acts of the program's threads, in some order, lead from the words with which it begins to a place where the run ends as the outcome says
-- (`IsHostedOutcome`). The outcome has the counts of these acts, and tells an execution of the program that is left of them.
pub record IsHostedRun (us : List ClassUnit) (main : MethodId) (limits : Limits) (outcome : Outcome) : Type 0 where
  pub run : IsHostedOutcome java_code (program_bounds us limits) (opening_core (opening_of us) (first_state us main)) (of_words outcome)
  pub told : TellsExecution us main (program_bounds us limits) no_steps run.last outcome
  pub undos : outcome.undos ≡ None
