use Rattle.std.proofs.Common.{◌∙◌, ap}
use Rattle.thread_moves.specs.Thread.{thread_of}
use Rattle.schedules.specs.Schedule.{Rest, order_after}
use Rattle.traced_runs.proofs.PlaceLemmas.{gives_left}
use Rattle.traced_runs.proofs.traced_run.TracedRun.give_next.Goals as goal

pub returns-clause-gives : goal.returns-clause-gives
returns-clause-gives g c = (
  c.in_ok-end.end,
  c.how_at.ensures,
  c.end_turn.ensures ∙ ap (λ (rest : Rest). record rest { order = order_after rest.order c.in_ok-end.end }) c.give.ensures.rest,
  gives_left g.C.ThreadCode.code (thread_of g.C.ThreadCode.state g.C.ThreadCode.saved) c.args.self.now.machine.bounds c.args.self.now c.give.new.self c.args.thread c.in_ok-end.end c.end_turn.new.self c.in_ok-end.ensures.gives,
)
