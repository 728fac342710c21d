use Rattle.ordinary_machine.specs.Machine.{machine_of}
use Rattle.ordinary_machine.proofs.ReplayLemmas.{wants_there, stepped_there}
use Rattle.ordinary_machine.proofs.ordinary.Ordinary.step_here.Goals as goal

pub make-requires-clause-wants : goal.make-requires-clause-wants
make-requires-clause-wants g c =
    wants_there g.C.ThreadCode.code (machine_of g.C.ThreadCode.state c.args.self.now) c.args.event.now c.in_ok-op.op c.requires c.in_ok-op.ensures.ok

pub returns-clause-ok : goal.returns-clause-ok
returns-clause-ok g c =
    let machine = machine_of g.C.ThreadCode.state in
    stepped_there g.C.ThreadCode.code (machine c.args.self.now) (machine c.make.new.self) c.args.event.now c.in_ok-op.op c.requires c.in_ok-op.ensures.ok
    c.in_ok-admit.ensures.can c.in_ok-admit.ensures.answered c.in_ok-make.ensures.ok
