use Rattle.std.proofs.Common.{◌≡◌, replicate}
use Rattle.class_orders.specs.Orders.{no_orders}
use Rattle.class_orders.proofs.orders.empties.Given as goal

abbrev pub invariant-loop : goal.invariant-loop
invariant-loop l = l.orders.items ≡ replicate l.counter no_orders
