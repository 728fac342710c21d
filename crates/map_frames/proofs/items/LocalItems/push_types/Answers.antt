use Rattle.map_frames.proofs.ItemLaws.{building_more, pushed_type}
use Rattle.map_frames.proofs.items.LocalItems.push_types.Goals as goal

pub loop-item-preserved : goal.loop-item-preserved
loop-item-preserved g c =
    building_more c.args.stores.now c.loop-item.stores c.push.new.stores c.loop-item.self c.push.new.self _ _ c.loop-item.invariant c.push.ensures.follows c.push.ensures.remembered
    c.in_ok-push.ensures.are (pushed_type _ _ _ _ c.args.types.now c.loop-item.item-index _ _ c.loop-item.invariant.items c.in_ok-push.ensures.items c.item_type.ensures c.loop-item-test.true)
