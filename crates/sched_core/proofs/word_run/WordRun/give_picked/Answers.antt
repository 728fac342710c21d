use Rattle.std.proofs.Common.{refl}
use Rattle.sched_core.proofs.RunLemmas.{ok_gives, from_picked}
use Rattle.sched_core.proofs.word_run.WordRun.give_picked.Goals as goal

pub returns-in-Some-clause-goes : goal.returns-in-Some-clause-goes
returns-in-Some-clause-goes g c = ok_gives c.give_drawn.result
    (λ how goes. from_picked g.C.ThreadCode.code g.C.ThreadCode.state g.C.ThreadCode.saved c.args.self.now.machine.bounds c.args.self.now _ c.give_drawn.new.self how
    (record { bounds = refl; words = refl; threads = refl; opened = refl; undone = refl }) c.requires.through c.draw.ensures.rest goes)
    c.give_drawn.ensures.goes

pub returns-in-None-clause-goes : goal.returns-in-None-clause-goes
returns-in-None-clause-goes g c = ok_gives c.give_lowest.result
    (λ how goes. from_picked g.C.ThreadCode.code g.C.ThreadCode.state g.C.ThreadCode.saved c.args.self.now.machine.bounds c.args.self.now _ c.give_lowest.new.self how
    (record { bounds = refl; words = refl; threads = refl; opened = refl; undone = refl }) c.requires.through c.draw.ensures.rest goes)
    c.give_lowest.ensures.goes
