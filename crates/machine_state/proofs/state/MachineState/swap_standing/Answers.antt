use Rattle.machine_state.proofs.MachineLemmas.{swapped}
use Rattle.machine_state.proofs.state.MachineState.swap_standing.Goals as goal

pub returns-clause-moved : goal.returns-clause-moved
returns-clause-moved g c =
    swapped g.C.ThreadCode.state c.args.self.now c.replace_standing.new.self c.args.thread c.args.standing c.replace_standing.result c.replace_standing.ensures.result c.replace_standing.ensures.there
