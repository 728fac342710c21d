use Rattle.std.proofs.Common.{sym, ◌∙◌, ap}
use Rattle.schedules.proofs.OrderLemmas.{rest_due_first, rest_due_none}
use Rattle.schedules.proofs.remaining.Remaining.due.Goals as goal

pub returns-then-is_live-clause-rest : goal.returns-then-is_live-clause-rest
returns-then-is_live-clause-rest g c =
    rest_due_first (g.T.LiveThreads.live c.args.threads.now) c.loop-item.self c.in-Some.item c.in-Some.ensures
    (sym c.has_turns.ensures ∙ c.if-has_turns.true) (ap (g.T.LiveThreads.live c.args.threads.now) (sym c.thread.ensures) ∙ sym c.is_live.ensures ∙ c.if-is_live.true) ∙ c.loop-item.invariant

pub returns-clause-rest : goal.returns-clause-rest
returns-clause-rest g c =
    rest_due_none (g.T.LiveThreads.live c.args.threads.now) c.loop-item.self c.in_default.ensures ∙ c.loop-item.invariant
