use Rattle.std.proofs.Common.{refl, length, false}
use Rattle.std.proofs.lemmas.Option.{slice_get_read}
use Rattle.class_read.proofs.KeyLaws.{has_one_more, repeats_no_key, none_at_all}
use Rattle.class_read.proofs.repeats.first_repeated_key.Goals as goal

pub loop-index-preserved : goal.loop-index-preserved
loop-index-preserved c =
    let numbers = c.args.numbers.now in
    let members = c.args.members.now in
    let i = c.loop-index.index in
    let m = c.index-members-index.result in
    let at = slice_get_read members (length members) i m refl c.loop-index-test.true c.index-members-index.is in
    let adds = rw c.if-branch.false at c.in_ok-is_seen.ensures in
    record {
      seen = has_one_more numbers members i m c.loop-index.seen c.is_seen.new.seen c.key.result false at c.key.ensures adds c.loop-index.invariant.seen;
      none = repeats_no_key numbers members i m c.loop-index.seen c.is_seen.new.seen c.key.result at c.key.ensures adds c.loop-index.invariant.seen c.loop-index.invariant.none;
    }

pub returns : goal.returns
returns c = none_at_all c.args.numbers.now c.args.members.now c.loop-index.index c.loop-index-test.false c.loop-index.invariant.none
