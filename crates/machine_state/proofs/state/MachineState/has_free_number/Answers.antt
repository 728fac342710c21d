use Rattle.machine_tables.proofs.TableLemmas.{free_numbers}
use Rattle.machine_state.proofs.state.MachineState.has_free_number.Goals as goal

pub returns : goal.returns
returns g c = rw c.is_some.ensures (free_numbers g.C.ThreadCode.state c.args.self.now.threads c.free_number.result c.free_number.ensures)
