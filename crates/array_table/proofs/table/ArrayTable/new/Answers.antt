use Rattle.std.proofs.Common.{◌≡◌, [], sym, subst, arith}
use Rattle.array_table.proofs.Tables.{FirstRows, no_rows, rows_more, all_rows}
use Rattle.array_table.proofs.table.ArrayTable.new.Goals as goal

pub loop-index-init : goal.loop-index-init
loop-index-init c =
    subst (λ ps. FirstRows c.args.most.now 0 ps c.new-numbers.result.items) (sym c.new-places.ensures.items)
    (subst (λ rs. FirstRows c.args.most.now 0 [] rs) (sym c.new-numbers.ensures.items) (no_rows c.args.most.now))

pub loop-index-preserved : goal.loop-index-preserved
loop-index-preserved c =
    rows_more c.args.most.now c.loop-index.index c.loop-index.places.items c.dimension_row.new.places.items c.in_ok-dimension_row.field-0 c.loop-index.numbers.items c.push.new.self.items
    c.loop-index.invariant c.in_ok-dimension_row.ensures.places c.in_ok-dimension_row.ensures.row c.in_ok-push.ensures.items

pub returns : goal.returns
returns c =
    let whole : c.loop-index.index ≡ 255 = omega arith in
    all_rows c.args.most.now c.loop-index.index _ whole c.loop-index.invariant (omega (arith, c.loop-index.places.ok.0))
