use Rattle.std.proofs.Common.{◌≡◌, ◌∷◌, take, flat_map}
use Rattle.search_orders.specs.Orders.{without_repeats}
use Rattle.class_orders.specs.Orders.{interfaces_in}
use Rattle.class_orders.proofs.class_order.with_interfaces.Given as goal

abbrev pub invariant-loop-interface : goal.invariant-loop-interface
invariant-loop-interface l = l.order ≡ without_repeats (flat_map (λ i. i ∷ interfaces_in l.done i) (take l.interface-index l.named))
