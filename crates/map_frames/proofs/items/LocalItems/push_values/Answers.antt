use Rattle.map_frames.proofs.ItemLaws.{building_more, pushed_value}
use Rattle.map_frames.proofs.items.LocalItems.push_values.Goals as goal

pub loop-value-preserved : goal.loop-value-preserved
loop-value-preserved c =
    building_more c.args.stores.now c.loop-value.stores c.push.new.stores c.loop-value.self c.push.new.self _ _ c.loop-value.invariant c.push.ensures.follows c.push.ensures.remembered
    c.in_ok-push.ensures.are (pushed_value _ _ _ c.args.values.now c.loop-value.value-index _ c.loop-value.invariant.items c.in_ok-push.ensures.items c.loop-value-test.true)
