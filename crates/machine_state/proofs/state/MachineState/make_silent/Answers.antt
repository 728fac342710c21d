use Rattle.std.proofs.Common.{refl}
use Rattle.machine_state.specs.Machine.{machine_in}
use Rattle.machine_state.proofs.SilentLemmas.{ran, silent_once, overflows, seats_same}
use Rattle.machine_state.proofs.state.MachineState.make_silent.Goals as goal

pub returns-clause-made : goal.returns-clause-made
returns-clause-made g c made =
    let code = g.C.ThreadCode.code in
    let state = g.C.ThreadCode.state in
    let old = c.args.self.now in
    let new = c.silent.new.self in
    silent_once code (machine_in state old) (machine_in state (record old { threads = new })) c.args.thread 1 refl
    (ran code state old new c.args.thread 1 (c.silent.ensures.made made) (c.silent.ensures.others made))

pub returns-clause-frames : goal.returns-clause-frames
returns-clause-frames g c stopped =
    overflows g.C.ThreadCode.code g.C.ThreadCode.state c.args.self.now c.args.thread (c.silent.ensures.frames stopped)

pub returns-clause-kept : goal.returns-clause-kept
returns-clause-kept g c none = seats_same g.C.ThreadCode.state c.args.self.now c.silent.new.self (c.silent.ensures.kept none)
