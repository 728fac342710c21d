use Rattle.std.proofs.Common.{◌∙◌, Some, length, refl, ap}
use Rattle.std.specs.Map.{update}
use Rattle.std.proofs.lemmas.Map.Text.{btree_map_updates_str}
use Rattle.std.proofs.lemmas.Option.{slice_get_read}
use Rattle.base_order.specs.Sorted.{found}
use Rattle.std.proofs.Common.{bytes_eq}
use Rattle.base_order.proofs.SortedLaws.{knows_more}
use Rattle.base_order.proofs.sorting.by_text.Goals as goal

pub loop-text-preserved : goal.loop-text-preserved
loop-text-preserved c =
    let texts = c.args.texts.now in
    let t = c.text-item.result in
    let at = slice_get_read texts (length texts) c.loop-text.text-index t refl c.loop-text-test.true c.text-item.is in
    let changes = btree_map_updates_str c.as_slice.result.now c.loop-text.known c.insert.new.self _ c.in_ok-insert.ensures.updates in
    knows_more texts c.loop-text.text-index t c.loop-text.known c.insert.new.self at c.loop-text.invariant
    (λ q. changes q ∙ ap (λ text. update bytes_eq (found c.loop-text.known) text (Some t.base) q) c.as_slice.ensures) c.in_ok-insert.ensures.ordered
