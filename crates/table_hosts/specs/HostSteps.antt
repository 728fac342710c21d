-- The host's steps on the stop word.
use Rattle.std.specs.Prelude.{◌≡◌, List}
use Rattle.op_core.specs.ThreadCode.{Code}
use Rattle.step_port.specs.declared.answer.StepAnswer.{StepAnswer}
use Rattle.step_port.specs.declared.step.Step.{Step}
use Rattle.section_laws.specs.NextSteps.{step_made}
use Rattle.table_words.specs.declared.table.TableWords.{TableWords}
use Rattle.table_words.specs.Tables.{parts_of_seat}
use Rattle.table_words.specs.Views.{first_after}
use Rattle.table_hosts.specs.declared.seated.SeatedThread.{SeatedThread}
use Rattle.table_hosts.specs.Seated.{StandsOn}

-- By the thread's seat the host made the step, which had this answer. The thread is as before, and where its seat's part says.
pub record HostStepped {C S : Type 0} (state : C → S) (saved : C → List S) (code : Code S) (table : TableWords C) (step : Step) (answer : StepAnswer) (before after : SeatedThread C) : Type 0 where
  pub thread : after.thread ≡ before.thread
  pub grown : parts_of_seat after.seat ≡ first_after (parts_of_seat before.seat) (step_made step answer)
  pub stands : StandsOn state saved code table after
