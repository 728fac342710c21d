-- What the calls of a port make: each grows the first part of its seat by its step, and leaves the table the same.
use Rattle.std.specs.Prelude.{◌≡◌, List, [], ◌∷◌}
use Rattle.op_core.specs.ThreadCode.{Code}
use Rattle.step_port.specs.declared.answer.StepAnswer.{StepAnswer}
use Rattle.step_port.specs.declared.answer.StepAnswer.TheVariants.{Found}
use Rattle.step_port.specs.declared.step.Step.{Step}
use Rattle.section_laws.specs.NextSteps.{step_made}
use Rattle.table_words.specs.declared.setup.Setup.{Setup}
use Rattle.table_words.specs.declared.setup.ThreadPart.{ThreadPart}
use Rattle.table_words.specs.declared.seat.TableSeat.{TableSeat}
use Rattle.table_words.specs.declared.port.TablePort.{TablePort}
use Rattle.table_words.specs.Parts.{fresh_part}
use Rattle.table_words.specs.Views.{first_after, born_by, FirstIsInRun}
use Rattle.table_words.specs.Plays.{SeatMayMake}
use Rattle.table_words.specs.Tables.{setup_in, parts_of_seat, IsSeatOf}

module _ {C : Type 0} where
  -- the program of the port's table
  abbrev pub port_setup : TablePort C → Setup C
  port_setup p = setup_in p.table.now

  -- the parts of the port's seat
  abbrev pub port_view : TablePort C → List (ThreadPart C)
  port_view p = parts_of_seat p.seat

module _ {C S : Type 0} (state : C → S) (code : Code S) where
  -- the step is allowed for the seat of the port
  abbrev pub MayStepAt : TablePort C → Step → Type 0
  MayStepAt p step = SeatMayMake state code (port_setup p) (port_view p) step

  -- The step was made on p with this answer, and left q. The part that grew is its thread's part of a run, whose words gave the
  -- answer; the rule makes that the table's run.
  pub record SteppedAt (p : TablePort C) (step : Step) (a : StepAnswer) (q : TablePort C) : Type 0 where
    pub table : q.table.now ≡ p.table.now
    pub grown : port_view q ≡ first_after (port_view p) (step_made step a)
    pub in_run : FirstIsInRun state code (port_setup p) (port_view q)

  -- a started thread was handed out, and with it a seat of the same table, which has the thread's part: no step yet
  pub record HandedAt (p : TablePort C) (step : Step) (q : TablePort C) (pass : TableSeat C) : Type 0 where
    pub stepped : SteppedAt p step (Found 0) q
    pub seat : IsSeatOf p.table.now pass
    pub child : parts_of_seat pass ≡ fresh_part (port_setup p) (born_by step) ∷ []
    pub in_run : FirstIsInRun state code (port_setup p) (parts_of_seat pass)
