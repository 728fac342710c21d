use Rattle.std.proofs.Common.{refl, length}
use Rattle.std.proofs.lemmas.Option.{slice_get_read}
use Rattle.class_read.specs.Repeats.{number_of}
use Rattle.class_read.proofs.NumberLaws.{numbers_more}
use Rattle.class_read.proofs.repeats.text_numbers.Goals as goal

pub loop-index-preserved : goal.loop-index-preserved
loop-index-preserved c =
    let pool = c.args.pool.now in
    let i = c.loop-index.index in
    let constant = c.index-pool-index.result in
    let at = slice_get_read pool (length pool) i constant refl c.loop-index-test.true c.index-pool-index.is in
    let known = c.in_ok-number.ensures pool at c.loop-index.invariant.known in
    record {
      known = known.0;
      numbers = rw c.in_ok-push.ensures.items (numbers_more (number_of pool) pool i constant c.loop-index.numbers.items c.in_ok-number.number at known.1 c.loop-index.invariant.numbers);
    }
