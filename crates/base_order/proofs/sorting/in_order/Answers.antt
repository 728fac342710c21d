use Rattle.std.proofs.Common.{◌≡◌, ◌∙◌, rules, List, map, sym, subst}
use Rattle.std.specs.Borrow.{Bor}
use Rattle.std.specs.Map.Iter.{deref}
use Rattle.std.proofs.lemmas.Map.Iter.{iter_end}
use Rattle.link_types.specs.declared.types.ElementType.{ElementType}
use Rattle.base_order.proofs.SortedLaws.{in_order_right}
use Rattle.base_order.proofs.sorting.in_order.Goals as goal

pub returns : goal.returns
returns c = λ descriptor.
    let all : map deref c.loop-base.yielded ≡ map (λ (e : Bor (List Rattle.std.proofs.Common.ℕ) × ElementType). e.1) c.in_ok-known.known.entries = search (rules, iter_end) in
    in_order_right descriptor c.args.texts.now c.in_ok-known.known c.loop-base.bases.items c.in_ok-known.ensures (c.loop-base.invariant ∙ all)
