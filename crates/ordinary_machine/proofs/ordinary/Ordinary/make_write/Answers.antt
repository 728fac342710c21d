use Rattle.machine_state.specs.Machine.{machine_in}
use Rattle.ordinary_machine.specs.Machine.{machine_of}
use Rattle.ordinary_machine.proofs.WriteLemmas.{written_awaits, written_answered}
use Rattle.ordinary_machine.proofs.ordinary.Ordinary.make_write.Goals as goal

pub reply_to-requires : goal.reply_to-requires
reply_to-requires g c =
    let machine = machine_of g.C.ThreadCode.state in
    written_awaits g.C.ThreadCode.code (machine c.args.self.now) (machine_in g.C.ThreadCode.state c.write_word.new.self) c.args.thread c.args.reference c.args.place c.args.value c.requires (c.write_word.ensures.written c.if-write_word.true)

pub returns-then-write_word : goal.returns-then-write_word
returns-then-write_word g c = λ limits.
    let machine = machine_of g.C.ThreadCode.state in
    written_answered g.C.ThreadCode.code (machine c.args.self.now) (machine_in g.C.ThreadCode.state c.write_word.new.self) (machine_in g.C.ThreadCode.state c.reply_to.new.self) c.args.thread c.args.reference c.args.place c.args.value limits
    c.requires (c.write_word.ensures.has.0 c.if-write_word.true) (c.write_word.ensures.written c.if-write_word.true) c.reply_to.ensures
