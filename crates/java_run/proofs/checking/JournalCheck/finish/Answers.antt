use Rattle.std.proofs.Common.{Ok, Err, refl}
use Rattle.ordinary_machine.specs.Machine.{machine_of}
use Rattle.java_run.specs.Check.{state_in}
use Rattle.java_run.proofs.checking.JournalCheck.finish.Goals as goal

pub returns-in_ok-lines_of-in-Ok : goal.returns-in_ok-lines_of-in-Ok
returns-in_ok-lines_of-in-Ok g c = (Ok (machine_of (state_in g.P.Constants.units) c.in-Ok.machine), c.in-Ok.ensures, c.in_ok-lines_of-in-Ok.ensures)

pub returns-in-Err : goal.returns-in-Err
returns-in-Err g c = (Err c.in-Err.line, c.in-Err.ensures, refl)
