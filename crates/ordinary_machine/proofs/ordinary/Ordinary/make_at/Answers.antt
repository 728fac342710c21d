use Rattle.machine_state.specs.Machine.{machine_in}
use Rattle.ordinary_machine.specs.Machine.{machine_of}
use Rattle.machine_tables.specs.Tables.{standing_of}
use Rattle.ordinary_machine.proofs.MakeLemmas.{there_wants, there_can, there_answers, there_moved, there_begun, there_back}
use Rattle.ordinary_machine.proofs.ordinary.Ordinary.make_at.Goals as goal

pub make-requires-clause-wants : goal.make-requires-clause-wants
make-requires-clause-wants g c =
    let state = g.C.ThreadCode.state in
    let old = machine_of state c.args.self.now in
    let new = machine_in state c.swap_standing.new.self in
    there_wants g.C.ThreadCode.code old new c.args.thread (state c.args.code) c.args.op c.in-Some.ensures.moved c.requires.wanted

pub make-requires-clause-can : goal.make-requires-clause-can
make-requires-clause-can g c =
    let state = g.C.ThreadCode.state in
    let old = machine_of state c.args.self.now in
    let new = machine_in state c.swap_standing.new.self in
    there_can old new c.args.thread (state c.args.code) c.args.op c.in-Some.ensures.moved c.requires.live c.requires.can

pub make-requires-clause-answered : goal.make-requires-clause-answered
make-requires-clause-answered g c =
    let state = g.C.ThreadCode.state in
    let old = machine_of state c.args.self.now in
    let new = machine_in state c.swap_standing.new.self in
    there_answers old new c.args.thread (state c.args.code) c.args.op c.args.reply c.in-Some.ensures.moved c.requires.live c.requires.answered

pub put_thread-requires : goal.put_thread-requires
put_thread-requires g c =
    let state = g.C.ThreadCode.state in
    let old = machine_of state c.args.self.now in
    let new = machine_in state c.swap_standing.new.self in
    there_begun old new (machine_of state c.make.new.self) c.args.thread (state c.args.code) c.in-Some.ensures.moved c.in-Err.ensures.err

pub returns-in-Ok-clause-ok : goal.returns-in-Ok-clause-ok
returns-in-Ok-clause-ok g c =
    let state = g.C.ThreadCode.state in
    let old = machine_of state c.args.self.now in
    let new = machine_in state c.swap_standing.new.self in
    there_moved g.C.ThreadCode.code old new (machine_of state c.make.new.self) c.args.thread (state c.args.code) c.args.op c.args.reply
    c.in-Some.ensures.moved c.requires.live c.requires.answered c.in-Ok.ensures.ok

pub returns-in-Err-clause-err : goal.returns-in-Err-clause-err
returns-in-Err-clause-err g c =
    let state = g.C.ThreadCode.state in
    let old = machine_of state c.args.self.now in
    let new = machine_in state c.swap_standing.new.self in
    there_back old new (machine_of state c.make.new.self) (machine_in state c.put_thread.new.self) c.args.thread (state c.args.code) (standing_of state c.in-Some.before) c.silent_steps-silent.result
    c.in-Some.ensures.moved c.in-Err.ensures.err c.put_thread.ensures c.in-Some.ensures.some c.silent_steps-silent.ensures
