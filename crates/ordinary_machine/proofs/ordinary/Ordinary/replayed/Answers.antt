use Rattle.op_core.specs.declared.Op.TheVariants.{ClassOf}
use Rattle.op_core.specs.declared.Reply.TheVariants.{Class}
use Rattle.ordinary_machine.specs.Machine.{machine_of}
use Rattle.ordinary_machine.proofs.ReplayLemmas.{replays_next, replayed_whole}
use Rattle.ordinary_machine.proofs.ordinary.Ordinary.replayed.Goals as goal

pub loop-place-preserved : goal.loop-place-preserved
loop-place-preserved g c =
    let machine = machine_of g.C.ThreadCode.state in
    replays_next g.C.ThreadCode.code (machine c.args.self) (machine c.loop-place.machine) (machine c.step_on.new.self) c.args.events.now c.loop-place.place
    (record { thread = 0; silent = 0; op = ClassOf 0; reply = Class 0 0 }) c.loop-place-test.true c.loop-place.invariant c.in-Ok.ensures.ok

pub returns-clause-execution : goal.returns-clause-execution
returns-clause-execution g c =
    let machine = machine_of g.C.ThreadCode.state in
    replayed_whole g.C.ThreadCode.code (machine c.args.self) (machine c.loop-place.machine) c.args.events.now c.loop-place.place
    c.loop-place.auto.place-end c.loop-place-test.false c.loop-place.invariant
