use Rattle.op_core.specs.Script.{script_code}
use Rattle.table_cases.specs.Program.{script_state, script_saved}
use Rattle.table_cases.proofs.SliceLemmas.{only_begins}
use Rattle.table_tests.proofs.turns.a_program_runs_to_its_end_by_one_port_after_another.Goals as goal

pub run_slice-requires-2-clause-stands : goal.run_slice-requires-2-clause-stands
run_slice-requires-2-clause-stands g c =
    (only_begins script_state script_saved script_code c.in_ok-table.table c.in-Ok.first.born.items c.in_ok-other.other c.in_ok-other.ensures c.in-Ok.ensures.born).0
