use Rattle.std.proofs.Common.{◌≡◌, Some, inr, arith, length, get_or}
use Rattle.std.specs.Prelude.{slice_get}
use Rattle.std.proofs.lemmas.Option.{slice_get-get_or}
use Rattle.class_walk.specs.declared.class.RawHandler.{RawHandler}
use Rattle.code_decode.proofs.HandlerLaws.{none_yet, one_more, all_read, bad_entry, no_entry}
use Rattle.code_decode.proofs.handlers.handlers.Goals as goal

pub loop-number-init : goal.loop-number-init
loop-number-init c = rw c.new-handlers.ensures (none_yet c.args.pool.now c.args.steps.now c.args.size c.args.table.now)

pub returns-in-None : goal.returns-in-None
returns-in-None c =
    let raw : RawHandler = get_or c.args.table.now c.loop-number.number no_entry in
    let there : slice_get c.args.table.now c.loop-number.number ≡ Some raw = slice_get-get_or c.args.table.now c.loop-number.number no_entry c.loop-number-test.true in
    inr (bad_entry c.args.pool.now c.args.steps.now c.args.size c.args.table.now c.loop-number.number c.loop-number.handlers raw c.loop-number.invariant there c.in-None.ensures)

pub loop-number-preserved : goal.loop-number-preserved
loop-number-preserved c =
    let raw : RawHandler = get_or c.args.table.now c.loop-number.number no_entry in
    let there : slice_get c.args.table.now c.loop-number.number ≡ Some raw = slice_get-get_or c.args.table.now c.loop-number.number no_entry c.loop-number-test.true in
    rw c.in_ok-push-in-Some.ensures.ok
    (one_more c.args.pool.now c.args.steps.now c.args.size c.args.table.now c.loop-number.number c.loop-number.handlers raw c.in-Some.handler c.loop-number.invariant there c.in-Some.ensures)

pub returns : goal.returns
returns c =
    let all : c.loop-number.number ≡ length c.args.table.now = omega arith in
    all_read c.args.pool.now c.args.steps.now c.args.size c.args.table.now c.loop-number.number c.loop-number.handlers c.loop-number.invariant all
