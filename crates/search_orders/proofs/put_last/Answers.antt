use Rattle.std.proofs.Common.{◌≡◌, ◌+◌, arith, ◌∙◌, sym, ap, length}
use Rattle.search_orders.specs.Orders.{rank}
use Rattle.search_orders.proofs.OrderLaws.{ranks_put, put_new}
use Rattle.search_orders.proofs.put_last.Goals as goal

pub returns-clause-ranks : goal.returns-clause-ranks
returns-clause-ranks c = λ n.
    let xs = c.args.numbers.now.items in
    let r : c.len-count.result + 1 ≡ length xs + 1 = omega arith in
    ranks_put xs c.args.ranks.now.items c.reach.new.ranks.items c.args.number (c.len-count.result + 1) c.requires.ranks c.requires.new c.reach.ensures.ranks c.in_ok-reach.ensures.number r n
    ∙ ap (λ ys. rank ys n) (sym c.in_ok-push.ensures.items)

pub returns-clause-put : goal.returns-clause-put
returns-clause-put c = c.in_ok-push.ensures.items ∙ sym (put_new c.args.numbers.now.items c.args.number c.requires.new)
