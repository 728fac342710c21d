use Rattle.class_pool.proofs.UseLaws.{within}
use Rattle.class_pool.proofs.text_uses.use_in.Goals as goal

pub item-requires : goal.item-requires
item-requires c = within c.args.pool.now c.args.uses.now c.args.index c.requires (c.is_text_at.ensures.0 c.if-is_text_at.true)

pub returns-then-is_text_at : goal.returns-then-is_text_at
returns-then-is_text_at c =
    let there = c.is_text_at.ensures.0 c.if-is_text_at.true in
    (there.0, there.1, c.requires.each c.args.index there.0 c.item.result there.1 c.item.ensures)
