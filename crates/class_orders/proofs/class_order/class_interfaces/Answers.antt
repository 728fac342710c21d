use Rattle.std.proofs.Common.{◌∷◌, ℕ, List, flat_map, ◌∙◌, ap}
use Rattle.search_orders.specs.Orders.{without_repeats}
use Rattle.search_orders.proofs.OrderLaws.{bring_once}
use Rattle.class_orders.specs.Orders.{interfaces_in}
use Rattle.class_orders.proofs.class_order.class_interfaces.Goals as goal

pub returns : goal.returns
returns c =
    let g : ℕ → List ℕ = λ i. i ∷ interfaces_in c.args.done.now i in
    c.in_ok-order.ensures ∙ ap (λ xs. without_repeats (flat_map g xs)) (c.numbers.ensures ∙ c.in_ok-once.ensures) ∙ bring_once g c.args.named.now
