use Rattle.std.proofs.Common.{refl}
use Rattle.ordinary_machine.specs.Machine.{machine_of}
use Rattle.ordinary_machine.proofs.EnabledLemmas.{limit_met}
use Rattle.ordinary_machine.proofs.ordinary.Ordinary.make_other.Goals as goal

pub returns-in-Some-clause-ok : goal.returns-in-Some-clause-ok
returns-in-Some-clause-ok g c =
    let wants = c.requires in (
      limit_met g.C.ThreadCode.code (machine_of g.C.ThreadCode.state c.args.self.now) c.args.thread wants.place c.args.limits.now c.args.op c.in-Some.limit wants.begun wants.wanted
          (c.in-Some.ensures wants.place wants.begun),
      refl,
    )
