use Rattle.std.proofs.Common.{refl, sym, ◌∙◌}
use Rattle.sched_core.proofs.RunLemmas.{ok_gives, due_live, from_due, none_first}
use Rattle.sched_core.proofs.word_run.WordRun.go_on.Goals as goal

pub give_ordered-requires-clause-lives : goal.give_ordered-requires-clause-lives
give_ordered-requires-clause-lives g c =
    due_live g.C.ThreadCode.code g.C.ThreadCode.state g.C.ThreadCode.saved c.args.self.now.machine.bounds c.args.self.now c.args.self.now c.args.self.now c.in-Some.thread c.due.new.self c.due.ensures.rest (sym c.due.ensures.thread ∙ c.in-Some.is)

pub give_picked-requires-clause-through : goal.give_picked-requires-clause-through
give_picked-requires-clause-through g c = none_first c.due.new.self.order (sym c.due.ensures.thread ∙ c.in-None.is)

pub returns-in-Some-clause-goes : goal.returns-in-Some-clause-goes
returns-in-Some-clause-goes g c = ok_gives c.give_ordered.result
    (λ how goes. from_due g.C.ThreadCode.code g.C.ThreadCode.state g.C.ThreadCode.saved c.args.self.now.machine.bounds c.args.self.now _ c.give_ordered.new.self how
    (record { bounds = refl; words = refl; threads = refl; opened = refl; undone = refl }) c.due.ensures.rest goes)
    c.give_ordered.ensures.goes

pub returns-in-None-clause-goes : goal.returns-in-None-clause-goes
returns-in-None-clause-goes g c = ok_gives c.give_picked.result
    (λ how goes. from_due g.C.ThreadCode.code g.C.ThreadCode.state g.C.ThreadCode.saved c.args.self.now.machine.bounds c.args.self.now _ c.give_picked.new.self how
    (record { bounds = refl; words = refl; threads = refl; opened = refl; undone = refl }) c.due.ensures.rest goes)
    c.give_picked.ensures.goes
