use Rattle.std.proofs.Common.{sym}
use Rattle.type_rules.specs.MapFrames.{item_type}
use Rattle.map_frames.proofs.ItemLaws.{only_of_others}
use Rattle.map_frames.proofs.make.only_word.Goals as goal

pub returns-then-stack-ne1 : goal.returns-then-stack-ne1
returns-then-stack-ne1 g c =
    sym (only_of_others (item_type (g.P.PoolOperands.operands c.args.pool.now) c.args.entry.now) c.args.stack.now (λ e. c.if-stack-ne1.true e))
