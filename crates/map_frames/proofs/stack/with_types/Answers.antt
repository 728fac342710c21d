use Rattle.std.proofs.Common.{arith, subst}
use Rattle.std.proofs.lemmas.List.{take_all}
use Rattle.type_rules.specs.MapFrames.{item_type, item_words}
use Rattle.map_frames.specs.Making.{IsStack}
use Rattle.map_frames.proofs.ItemLaws.{stacking_types}
use Rattle.map_frames.proofs.stack.with_types.Goals as goal

pub loop-item-preserved : goal.loop-item-preserved
loop-item-preserved g c =
    let made = c.in_ok-made.ensures in
    stacking_types c.args.stores.now c.loop-item.stores c.with_value.new.stores c.args.frame c.loop-item.made c.in_ok-made.made (item_type (g.P.PoolOperands.operands c.args.pool.now) c.args.entry.now)
    c.args.types.now c.loop-item.item-index _ c.item_type.result (omega (arith, c.loop-item-test.true)) c.item_type.ensures c.loop-item.invariant made.follows made.remembered made.frame made.words

pub returns-clause-words : goal.returns-clause-words
returns-clause-words g c = λ locals unset before.
    subst (λ ts. IsStack c.loop-item.stores c.loop-item.made locals unset (item_words (item_type (g.P.PoolOperands.operands c.args.pool.now) c.args.entry.now) ts))
    (take_all c.loop-item.item-index c.args.types.now (omega (arith, c.loop-item-test.false)))
    (c.loop-item.invariant.words locals unset before)
