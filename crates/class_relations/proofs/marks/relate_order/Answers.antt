use Rattle.std.proofs.Common.{refl, sym, ◌∙◌}
use Rattle.search_orders.proofs.OrderLaws.{not_there, is_there}
use Rattle.class_relations.proofs.MarkLaws.{nothing_yet, one_related, none_related}
use Rattle.class_relations.proofs.marks.relate_order.Goals.{then-rank-ne0, else-rank-ne0}
use Rattle.class_relations.proofs.marks.relate_order.Goals as goal

pub loop-number-init : goal.loop-number-init
loop-number-init c = record { size = refl; so_far = nothing_yet c.args.relation.now c.args.class c.args.order.now }

pub loop-number-preserved : goal.loop-number-preserved
loop-number-preserved c =
    let base = c.args.relation.now in
    let xs = c.args.order.now in
    let n = c.loop-number.number in
    elim c.if-rank-ne0.branch [
      | then-rank-ne0 w ↦
          let has = is_there xs n (λ none. w.if-rank-ne0.true (c.rank.ensures ∙ none)) in
          let more = one_related base c.loop-number.relation w.relate.new.self c.args.class n xs c.loop-number.invariant.so_far w.relate.ensures.related has in
          rw w.relation-is (record { size = w.relate.ensures.size ∙ c.loop-number.invariant.size; so_far = more })
      | else-rank-ne0 w ↦
          let none = not_there xs n (sym c.rank.ensures ∙ w.if-rank-ne0.false) in
          rw w.relation-is (record { size = c.loop-number.invariant.size; so_far = none_related base c.loop-number.relation c.args.class n xs c.loop-number.invariant.so_far none })
    ]
