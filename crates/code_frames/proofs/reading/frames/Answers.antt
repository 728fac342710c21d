use Rattle.std.proofs.Common.{arith}
use Rattle.code_frames.specs.Reading.{previous_of}
use Rattle.code_frames.proofs.TableLaws.{goes_on, ends}
use Rattle.code_frames.proofs.reading.frames.Goals as goal

pub returns-in-Err : goal.returns-in-Err
returns-in-Err c =
    rw c.in_frame.ensures
    (ends c.args.pool.now c.args.steps.now c.args.entry_locals c.args.count c.args.cursor.now c.loop-number.frames c.loop-number.cursor c.loop-number.number (previous_of c.loop-number.least c.loop-number.locals) c.in-Err.fault c.frame.new.cursor
    c.loop-number.invariant c.loop-number-test.true c.in-Err.ensures)

pub overflow_add-least : goal.overflow_add-least
overflow_add-least c =
    let m = goes_on c.args.pool.now c.args.steps.now c.args.entry_locals c.args.cursor.now c.loop-number.frames c.loop-number.cursor c.loop-number.number (previous_of c.loop-number.least c.loop-number.locals) c.in-Ok.frame c.frame.new.cursor c.loop-number.invariant c.in-Ok.ensures in
    omega (arith, m.at)

pub count_after-locals-requires : goal.count_after-locals-requires
count_after-locals-requires c =
    let m = goes_on c.args.pool.now c.args.steps.now c.args.entry_locals c.args.cursor.now c.loop-number.frames c.loop-number.cursor c.loop-number.number (previous_of c.loop-number.least c.loop-number.locals) c.in-Ok.frame c.frame.new.cursor c.loop-number.invariant c.in-Ok.ensures in
    omega (arith, m.locals_after)

pub push-requires-clause-apart : goal.push-requires-clause-apart
push-requires-clause-apart c =
    let m = goes_on c.args.pool.now c.args.steps.now c.args.entry_locals c.args.cursor.now c.loop-number.frames c.loop-number.cursor c.loop-number.number (previous_of c.loop-number.least c.loop-number.locals) c.in-Ok.frame c.frame.new.cursor c.loop-number.invariant c.in-Ok.ensures in
    m.apart

pub loop-number-preserved : goal.loop-number-preserved
loop-number-preserved c =
    let m = goes_on c.args.pool.now c.args.steps.now c.args.entry_locals c.args.cursor.now c.loop-number.frames c.loop-number.cursor c.loop-number.number (previous_of c.loop-number.least c.loop-number.locals) c.in-Ok.frame c.frame.new.cursor c.loop-number.invariant c.in-Ok.ensures in
    rw (c.in_ok-push.ensures.ok, c.count_after-locals.ensures) m.so_far
