use Rattle.std.proofs.Common.{◌≡◌, ◌-◌, ap, sym, length, map, take, ◌∙◌}
use Rattle.code_frames.specs.Locals.{changed}
use Rattle.type_rules.specs.MapFrames.{item_type}
use Rattle.type_lists.proofs.SetLaws.{on_ok}
use Rattle.map_frames.proofs.ItemLaws.{chopped}
use Rattle.map_frames.proofs.items.LocalItems.change.Goals as goal

pub returns-in-Chop-clause-items : goal.returns-in-Chop-clause-items
returns-in-Chop-clause-items g c = λ types is.
    let item = item_type (g.P.PoolOperands.operands c.args.pool.now) c.args.entry.now in
    on_ok (λ _. c.pop_all.new.self.items.items ≡ take (length c.args.self.now.items.items - c.in-Chop.removed) c.args.self.now.items.items)
    (λ _. c.pop_all.new.self.items.items ≡ map item (changed types c.args.change.now)) c.pop_all.result
    (λ u chop. chop ∙ chopped item c.args.self.now.items.items types c.in-Chop.removed is ∙ ap (λ change. map item (changed types change)) (sym c.in-Chop.is))
    c.pop_all.ensures.items
