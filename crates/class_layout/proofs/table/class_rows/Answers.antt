use Rattle.std.proofs.Common.{◌≡◌, ◌+◌, ◌∙◌, slice_index_or, length, ap, sym, subst}
use Rattle.std.proofs.lemmas.List.{length-replicate}
use Rattle.std.proofs.lemmas.Option.{slice_get-get_or}
use Rattle.class_layout.specs.Rows.{empty_row}
use Rattle.class_layout.proofs.RowLaws.{FirstHaveRows, none_have_rows, rows_more, all_have_rows, super_has_row, super_is_small}
use Rattle.class_layout.proofs.table.class_rows.Goals as goal

pub loop-class-init : goal.loop-class-init
loop-class-init c =
    let count : length c.in_ok-rows.rows.items ≡ 28 + length c.args.supers.now =
    ap length c.in_ok-rows.ensures ∙ length-replicate (28 + length c.units.result.now) empty_row ∙ ap (λ us. 28 + length us) c.units.ensures in
    none_have_rows c.args.supers.now c.args.order.now c.in_ok-rows.rows.items count

pub class_row-requires-clause-above : goal.class_row-requires-clause-above
class_row-requires-clause-above c =
    let order = c.args.order.now in
    let class = slice_index_or c.args.order.now c.loop-class.class-index 0 in
    let at = slice_get-get_or order c.loop-class.class-index 0 c.loop-class-test.true in
    super_has_row c.args.supers.now c.args.order.now c.loop-class.class-index class c.deref.result.now c.requires.order at
    (subst (FirstHaveRows c.args.supers.now c.args.order.now c.loop-class.class-index) (sym c.deref.ensures.value) c.loop-class.invariant)

pub class_row-requires-clause-room : goal.class_row-requires-clause-room
class_row-requires-clause-room c =
    let class = slice_index_or c.args.order.now c.loop-class.class-index 0 in
    super_is_small c.args.supers.now c.args.order.now c.loop-class.class-index class c.requires.decoded c.requires.few c.requires.order (slice_get-get_or c.args.order.now c.loop-class.class-index 0 c.loop-class-test.true)

pub loop-class-preserved : goal.loop-class-preserved
loop-class-preserved c =
    let class = slice_index_or c.args.order.now c.loop-class.class-index 0 in
    rows_more c.args.supers.now c.args.order.now c.loop-class.class-index class c.in_ok-row.row c.loop-class.rows.items c.put_row.new.rows.items
    (slice_get-get_or c.args.order.now c.loop-class.class-index 0 c.loop-class-test.true) c.loop-class.invariant c.in_ok-row.ensures c.put_row.ensures.count c.put_row.ensures.here c.put_row.ensures.elsewhere

pub returns : goal.returns
returns c = all_have_rows c.args.supers.now c.args.order.now c.loop-class.class-index c.loop-class.rows.items c.requires.order c.loop-class-test.false c.loop-class.invariant
