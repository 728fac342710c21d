use Rattle.op_core.specs.Script.{script_code}
use Rattle.table_cases.specs.Program.{script_state, script_saved}
use Rattle.epoch_host.proofs.Handing.{seats_of_run}
use Rattle.epoch_tests.proofs.running.words_of.Goals as goal

pub finish-requires-clause-first : goal.finish-requires-clause-first
finish-requires-clause-first c = (seats_of_run script_state script_saved script_code c.requires.0 c.args.run c.requires.1).0

pub finish-requires-clause-rest : goal.finish-requires-clause-rest
finish-requires-clause-rest c = (seats_of_run script_state script_saved script_code c.requires.0 c.args.run c.requires.1).1
