use Rattle.std.proofs.Common.{refl, length}
use Rattle.std.proofs.lemmas.Option.{slice_get_read}
use Rattle.class_pool.proofs.PoolMarkLaws.{marks_more, all_marked}
use Rattle.class_pool.proofs.pool.all_marks.Goals as goal

pub loop-constant-preserved : goal.loop-constant-preserved
loop-constant-preserved c =
    let at = slice_get_read c.args.pool.now (length c.args.pool.now) c.loop-constant.constant-index c.constant-item.result refl c.loop-constant-test.true c.constant-item.is in
    rw c.mark.ensures (marks_more c.args.pool.now c.args.role c.loop-constant.constant-index c.loop-constant.marks.items c.constant-item.result c.used_as.result at c.used_as.ensures c.loop-constant.invariant)

pub returns : goal.returns
returns c = all_marked c.args.pool.now c.args.role c.loop-constant.constant-index c.loop-constant.marks.items c.loop-constant-test.false c.loop-constant.invariant
