use Rattle.std.proofs.Common.{◌≢◌, sym, ◌∙◌}
use Rattle.search_orders.specs.Orders.{rank}
use Rattle.search_orders.proofs.OrderLaws.{put_old}
use Rattle.search_orders.proofs.Order.put.Goals as goal

pub returns-then-rank-ne0 : goal.returns-then-rank-ne0
returns-then-rank-ne0 c =
    let ranked : rank c.args.self.now c.args.number ≢ 0 = λ z. c.if-rank-ne0.true (c.rank.ensures ∙ z) in
    sym (put_old c.args.self.now c.args.number ranked)
