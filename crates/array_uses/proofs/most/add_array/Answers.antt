use Rattle.std.proofs.Common.{IsSome, sym, subst, true≢false}
use Rattle.array_uses.proofs.Growing.{array_added}
use Rattle.array_uses.proofs.Places.{base_is_there}
use Rattle.array_uses.proofs.most.add_array.Goals as goal

pub returns-in-Some : goal.returns-in-Some
returns-in-Some c = λ us text order names is.
    array_added us c.args.order.now c.args.most.now.items c.raise.new.most.items c.in-Some.place c.args.array text (c.place.ensures.found us order c.in-Some.place c.in-Some.is) is
    (record { count = c.raise.ensures.count; here = c.raise.ensures.here; elsewhere = c.raise.ensures.elsewhere })

pub returns-in_default : goal.returns-in_default
returns-in_default c = λ us text order names is.
    absurd (true≢false (sym (subst IsSome c.in_default.is (c.place.ensures.there us order (base_is_there us c.args.order.now c.args.array.base order names is.base)))))
