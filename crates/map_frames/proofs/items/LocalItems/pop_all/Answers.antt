use Rattle.std.proofs.Common.{◌-◌, length, take, ap, ◌∙◌}
use Rattle.map_frames.proofs.ItemLaws.{building_more, take_less}
use Rattle.map_frames.proofs.items.LocalItems.pop_all.Goals as goal

pub loop-preserved : goal.loop-preserved
loop-preserved c =
    let items = c.args.self.now.items.items in
    building_more c.args.stores.now c.loop.stores c.pop.new.stores c.loop.self c.pop.new.self _ _ c.loop.invariant c.pop.ensures.follows c.pop.ensures.remembered
    c.in_ok-pop.ensures.are
    (c.in_ok-pop.ensures.items ∙ ap (λ xs. take (length xs - 1) xs) c.loop.invariant.items ∙ take_less items c.loop.counter)
