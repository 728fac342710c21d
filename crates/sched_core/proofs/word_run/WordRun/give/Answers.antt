use Rattle.std.proofs.Common.{sym, subst}
use Rattle.thread_moves.specs.Thread.{thread_of}
use Rattle.word_machine.specs.Turns.{GivesTurn}
use Rattle.sched_core.proofs.RunLemmas.{gives_place}
use Rattle.sched_core.proofs.word_run.WordRun.give.Goals as goal

pub returns-clause-gives : goal.returns-clause-gives
returns-clause-gives g c =
    gives_place g.C.ThreadCode.code (thread_of g.C.ThreadCode.state g.C.ThreadCode.saved) c.args.self.now.machine.bounds c.args.self.now c.count.new.self c.args.thread c.in_ok-end.end
    (subst (λ m. GivesTurn g.C.ThreadCode.code (thread_of g.C.ThreadCode.state g.C.ThreadCode.saved) c.args.self.now.machine.bounds c.args.self.now.machine.words c.args.self.now.machine.seats.places.items c.args.thread c.in_ok-end.end m.words m.seats.places.items)
    (sym c.count.ensures.machine) c.in_ok-end.ensures.gives)
    c.in_ok-count.ensures.opened c.in_ok-count.ensures.undone

pub returns-clause-turn : goal.returns-clause-turn
returns-clause-turn g c =
    subst (λ m. GivesTurn g.C.ThreadCode.code (thread_of g.C.ThreadCode.state g.C.ThreadCode.saved) c.args.self.now.machine.bounds c.args.self.now.machine.words c.args.self.now.machine.seats.places.items c.args.thread c.in_ok-end.end m.words m.seats.places.items)
    (sym c.count.ensures.machine) c.in_ok-end.ensures.gives
