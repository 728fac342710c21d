use Rattle.std.proofs.Common.{arith, ◌≤◌}
use Rattle.std.proofs.lemmas.Grind.{common_steps}
use Rattle.transitive_closure.proofs.Orders.{ranked_more}
use Rattle.transitive_closure.proofs.ordering.ranks.Goals as goal

pub loop-number-preserved : goal.loop-number-preserved
loop-number-preserved c =
    let low : c.args.first ≤ c.loop-number.number = c.loop-number.auto.number in
    let more = ranked_more c.args.rows.now c.args.first c.loop-number.number low in
    record { some = omega arith; ranked = grind (arith, common_steps, more) }
