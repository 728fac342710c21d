use Rattle.machine_state.proofs.SilentLemmas.{ran}
use Rattle.machine_state.proofs.state.MachineState.run_silent.Goals as goal

pub returns-clause-runs : goal.returns-clause-runs
returns-clause-runs g c =
    ran g.C.ThreadCode.code g.C.ThreadCode.state c.args.self.now c.run_silent.new.self c.args.thread c.run_silent.result c.run_silent.ensures.runs c.run_silent.ensures.others
