use Rattle.std.proofs.Common.{◌≡◌, take}
use Rattle.search_orders.specs.Orders.{put_all}
use Rattle.search_orders.proofs.Order.put_all.Given as goal

abbrev pub invariant-loop-number : goal.invariant-loop-number
invariant-loop-number l = l.self ≡ put_all l.initial.self (take l.number-index l.numbers)
