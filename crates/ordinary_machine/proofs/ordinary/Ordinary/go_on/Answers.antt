use Rattle.machine_state.specs.Machine.{machine_in}
use Rattle.ordinary_machine.specs.Machine.{machine_of}
use Rattle.ordinary_machine.proofs.MakeLemmas.{shared_awaits, shared_moved}
use Rattle.ordinary_machine.proofs.ordinary.Ordinary.go_on.Goals as goal

pub reply_to-requires : goal.reply_to-requires
reply_to-requires g c =
    let machine = machine_of g.C.ThreadCode.state in
    shared_awaits g.C.ThreadCode.code (machine c.args.self.now) (machine c.share.new.self) c.args.thread c.args.op c.args.reply c.requires.wants c.requires.answered c.in_ok-share.ensures.ok

pub returns-clause-ok : goal.returns-clause-ok
returns-clause-ok g c =
    let machine = machine_of g.C.ThreadCode.state in
    shared_moved g.C.ThreadCode.code (machine c.args.self.now) (machine c.share.new.self) (machine_in g.C.ThreadCode.state c.reply_to.new.self) c.args.thread c.args.op c.args.reply
    c.requires.no_number c.requires.no_end c.in_ok-share.ensures.ok c.reply_to.ensures
