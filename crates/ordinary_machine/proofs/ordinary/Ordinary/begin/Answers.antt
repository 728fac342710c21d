use Rattle.std.proofs.Common.{subst, sym, ap, ◌∙◌}
use Rattle.op_core.specs.OrdinaryState.{IsThere}
use Rattle.machine_state.specs.Machine.{machine_in}
use Rattle.ordinary_machine.specs.Machine.{Machine, machine_of, with_started_at}
use Rattle.ordinary_machine.proofs.MakeLemmas.{begun_awaits, begun_moved}
use Rattle.ordinary_machine.proofs.ordinary.Ordinary.begin.Goals as goal

pub put_started-requires : goal.put_started-requires
put_started-requires g c =
    subst (λ (m : Machine g.C.ThreadCode.State). IsThere m.now.objects c.args.reference) (sym c.in_ok-put_new_thread.ensures.ok) c.requires.can.0

pub reply_to-requires : goal.reply_to-requires
reply_to-requires g c =
    let state = g.C.ThreadCode.state in
    begun_awaits g.C.ThreadCode.code (machine_of state c.args.self.now) (machine_in state c.put_started.new.self) c.args.thread c.args.reference c.args.priority c.args.number (state c.in_ok-child.child)
    c.requires.wants c.requires.answered (c.put_started.ensures ∙ ap (λ m. with_started_at m c.args.reference c.args.number) c.in_ok-put_new_thread.ensures.ok)

pub returns-clause-ok : goal.returns-clause-ok
returns-clause-ok g c =
    let state = g.C.ThreadCode.state in
    begun_moved g.C.ThreadCode.code (machine_of state c.args.self.now) (machine_in state c.put_started.new.self) (machine_in state c.reply_to.new.self)
    c.args.thread c.args.reference c.args.priority c.args.number (state c.in_ok-child.child)
    c.requires.answered c.in_ok-child.ensures (c.put_started.ensures ∙ ap (λ m. with_started_at m c.args.reference c.args.number) c.in_ok-put_new_thread.ensures.ok) c.reply_to.ensures
