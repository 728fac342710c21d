use Rattle.ordinary_machine.specs.Machine.{machine_of}
use Rattle.ordinary_machine.proofs.StepOnLemmas.{stepped_on, refused_on}
use Rattle.ordinary_machine.proofs.ordinary.Ordinary.step_on.Goals as goal

pub returns-in-Ok-clause-ok : goal.returns-in-Ok-clause-ok
returns-in-Ok-clause-ok g c =
    let machine = machine_of g.C.ThreadCode.state in
    stepped_on g.C.ThreadCode.code (machine c.args.self.now) (machine c.run_silent-made.new.self) (machine c.step.new.self) c.args.event.now c.run_silent-made.result
    c.run_silent-made.ensures.runs c.run_silent-made.ensures.most c.in-Ok.ensures.ok

pub returns-in-Err-clause-refused : goal.returns-in-Err-clause-refused
returns-in-Err-clause-refused g c =
    let machine = machine_of g.C.ThreadCode.state in
    refused_on g.C.ThreadCode.code (machine c.args.self.now) (machine c.run_silent-made.new.self) c.args.event.now c.run_silent-made.result c.in-Err.refusal
    c.run_silent-made.ensures.runs c.run_silent-made.ensures.most c.in-Err.ensures.refused
