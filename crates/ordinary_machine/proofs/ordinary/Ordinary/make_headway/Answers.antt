use Rattle.op_core.specs.declared.Op.TheVariants.{ClassOf, Read, Write}
use Rattle.ordinary_machine.specs.Machine.{machine_of}
use Rattle.ordinary_machine.specs.Advance.{answer_of}
use Rattle.ordinary_machine.proofs.ordinary.Ordinary.make_headway.Goals as goal

pub returns-in-Want-Read-clause-ok : goal.returns-in-Want-Read-clause-ok
returns-in-Want-Read-clause-ok g c =
    let silent = (machine_of g.C.ThreadCode.state c.args.self.now).silents c.args.thread in
    let op = Read c.in-Want-Read.reference c.in-Want-Read.place in
    record {
      answer = answer_of c.args.thread silent op c.make_read-outcome.result;
      advances = c.make_read-outcome.ensures c.args.limits.now;
      told = c.headway_of_outcome.ensures c.args.thread silent op;
    }

pub returns-in-Want-Write-clause-ok : goal.returns-in-Want-Write-clause-ok
returns-in-Want-Write-clause-ok g c =
    let silent = (machine_of g.C.ThreadCode.state c.args.self.now).silents c.args.thread in
    let op = Write c.in-Want-Write.reference c.in-Want-Write.place c.in-Want-Write.value in
    record {
      answer = answer_of c.args.thread silent op c.make_write-outcome.result;
      advances = c.make_write-outcome.ensures c.args.limits.now;
      told = c.headway_of_outcome-in-Want-Write.ensures c.args.thread silent op;
    }

pub returns-in-Want-ClassOf-clause-ok : goal.returns-in-Want-ClassOf-clause-ok
returns-in-Want-ClassOf-clause-ok g c =
    let silent = (machine_of g.C.ThreadCode.state c.args.self.now).silents c.args.thread in
    let op = ClassOf c.in-Want-ClassOf.reference in
    record {
      answer = answer_of c.args.thread silent op c.make_class-outcome.result;
      advances = c.make_class-outcome.ensures c.args.limits.now;
      told = c.headway_of_outcome-in-Want-ClassOf.ensures c.args.thread silent op;
    }
