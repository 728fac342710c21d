use Rattle.std.proofs.Common.{◌≡◌}
use Rattle.thread_moves.specs.Thread.{thread_of}
use Rattle.rollback_core.proofs.TurnLemmas.{turned_as}
use Rattle.rollback_core.proofs.ready.turn_for.Goals as goal

pub returns-clause-turned : goal.returns-clause-turned
returns-clause-turned g c =
    turned_as (thread_of g.C.ThreadCode.state g.C.ThreadCode.saved) g.C.ThreadCode.code
    (λ step a. g.P.StepPort.stepped c.args.port.now step a c.turn_of.new.port) (λ step pass. g.P.StepPort.handed c.args.port.now step c.turn_of.new.port pass)
    (c.turn_of.new.port ≡ c.args.port.now) (thread_of g.C.ThreadCode.state g.C.ThreadCode.saved c.turn_of.new.thread) c.turn_of.result
    c.ready.inside.thread c.args.ready.now c.ready.view_is c.turn_of.ensures.turned
