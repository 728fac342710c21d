use Rattle.std.proofs.Common.{◌≡◌, ◌≤◌, ◌<◌, suc, [], length, slice_index_or, slice_get, Some, sym, ◌∙◌, ap, arith}
use Rattle.std.proofs.lemmas.List.FromFn.{length-map-range_with_len}
use Rattle.std.proofs.lemmas.Option.{slice_get-get_or, slice_get_read, slice_get_within, get_or_from_slice_get}
use Rattle.link_rules.specs.Classes.{classes_of, superclass_of}
use Rattle.link_rules.proofs.Numbers.{superclass_within}
use Rattle.member_lookup.proofs.PlaceLaws.{numbered_at}
use Rattle.shared_rows.specs.Rows.{number_at}
use Rattle.method_selection.specs.Entries.{class_entries}
use Rattle.method_selection.specs.Rows.{with_own}
use Rattle.method_selection.proofs.RowLaws.{none_have_rows, super_has_row, rows_more, all_have_rows, made_row}
use Rattle.method_selection.proofs.selected_rows.selected_rows.Goals as goal

pub loop-class-init : goal.loop-class-init
loop-class-init c =
    let p = c.args.lookup.now in
    let numbers = c.args.numbers.now.numbers.items in
    let long = ap length c.requires.entries ∙ length-map-range_with_len (class_entries p numbers) 0 (suc (length (classes_of p.units))) in
    let count : length c.in_ok-rows.rows.items ≡ suc (length (classes_of c.args.lookup.now.units)) = c.in_ok-rows.ensures.count ∙ omega (arith, long, c.len.ensures) in
    none_have_rows p numbers c.args.order.now c.in_ok-rows.rows.items count c.in_ok-rows.ensures.zeros

pub index-requires : goal.index-requires
index-requires c =
    let class = slice_index_or c.args.order.now c.loop-class.class-index 0 in
    let up : c.superclass-superclass.result ≡ superclass_of (classes_of c.args.lookup.now.units) (slice_index_or c.args.order.now c.loop-class.class-index 0) =
    c.superclass-superclass.ensures ∙ ap (λ us. superclass_of (classes_of us) class) (c.supers-supers.ensures ∙ c.orders.ensures) in
    let low = superclass_within (classes_of c.args.lookup.now.units) class in
    let count = c.loop-class.invariant.count in
    let long = c.loop-class.rows.ok.0 in
    omega arith

pub loop-class-preserved : goal.loop-class-preserved
loop-class-preserved c =
    let p = c.args.lookup.now in
    let numbers = c.args.numbers.now.numbers.items in
    let order = c.args.order.now in
    let old = c.loop-class.rows.items in
    let inherited = c.index.result.now in
    let class = slice_index_or c.args.order.now c.loop-class.class-index 0 in
    let at = slice_get-get_or order c.loop-class.class-index 0 c.loop-class-test.true in
    let count = c.loop-class.invariant.count in
    let up : c.superclass-superclass.result ≡ superclass_of (classes_of c.args.lookup.now.units) (slice_index_or c.args.order.now c.loop-class.class-index 0) =
    c.superclass-superclass.ensures ∙ ap (λ us. superclass_of (classes_of us) class) (c.supers-supers.ensures ∙ c.orders.ensures) in
    let low = superclass_within (classes_of c.args.lookup.now.units) class in
    let inside : c.superclass-superclass.result < suc (length (classes_of c.args.lookup.now.units)) = omega arith in
    let there : slice_get c.loop-class.rows.items (superclass_of (classes_of c.args.lookup.now.units) (slice_index_or c.args.order.now c.loop-class.class-index 0)) ≡ Some c.index.result.now =
    ap (slice_get old) (sym up) ∙ slice_get_read old (suc (length (classes_of c.args.lookup.now.units))) c.superclass-superclass.result inherited (sym count) inside c.index.ensures in
    let above = super_has_row p numbers order c.loop-class.class-index class old inherited c.requires.order at c.loop-class.invariant there in
    rows_more p numbers order c.loop-class.class-index class old c.put_row.new.rows.items at c.loop-class.invariant c.put_row.ensures.count
    (λ row found.
    let lt = slice_get_within c.put_row.new.rows.items class row found in
    let long = c.put_row.ensures.count in
    let within : slice_index_or c.args.order.now c.loop-class.class-index 0 ≤ length (classes_of c.args.lookup.now.units) = omega arith in
    let own = c.entries_of.ensures
    ∙ get_or_from_slice_get c.args.entries.now class (class_entries p numbers class) []
    (ap (λ es. slice_get es class) c.requires.entries ∙ numbered_at (class_entries p numbers) (suc (length (classes_of p.units))) class (omega arith)) in
    made_row p numbers c.args.numbers.now.ids.items c.requires.numbers order c.requires.order class within row inherited
    (ap number_at (c.put_row.ensures.here row found) ∙ c.in_ok-row.ensures ∙ ap (λ es. with_own es (number_at inherited)) own) above)
    c.put_row.ensures.elsewhere

pub returns : goal.returns
returns c =
    all_have_rows c.args.lookup.now c.args.numbers.now.numbers.items c.args.order.now c.loop-class.class-index c.loop-class.rows.items c.requires.order c.loop-class-test.false c.loop-class.invariant
