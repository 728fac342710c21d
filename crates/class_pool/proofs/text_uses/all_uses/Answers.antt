use Rattle.std.proofs.Common.{length, refl, arith}
use Rattle.std.proofs.lemmas.Option.{slice_get_read}
use Rattle.class_pool.proofs.UseLaws.{none_yet, one_more, all_there}
use Rattle.class_pool.proofs.text_uses.all_uses.Goals as goal

pub loop-constant-init : goal.loop-constant-init
loop-constant-init c = rw c.new-uses.ensures.items (none_yet c.args.pool.now)

pub loop-constant-preserved : goal.loop-constant-preserved
loop-constant-preserved c =
    let pool = c.args.pool.now in
    let i = c.loop-constant.constant-index in
    let at = slice_get_read pool (length pool) i c.constant-item.result refl c.loop-constant-test.true c.constant-item.is in
    rw c.in_ok-push.ensures.items (one_more pool i c.loop-constant.uses.items c.constant-item.result c.use_of_entry.result c.loop-constant.invariant at c.use_of_entry.ensures)

pub returns : goal.returns
returns c = all_there c.args.pool.now c.loop-constant.constant-index c.loop-constant.uses.items c.loop-constant.invariant (omega arith)
