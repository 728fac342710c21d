use Rattle.std.proofs.Common.{◌≡◌, sym, arith}
use Rattle.std.proofs.lemmas.Bool.{eqb-true, eqb-false}
use Rattle.std.proofs.lemmas.Result.{err_from_is_err_and}
use Rattle.code_frames.specs.Reading.{unsigned_at}
use Rattle.code_frames.proofs.ByteLaws.{found}
use Rattle.code_frames.proofs.TableLaws.{read_count, refused, left_over, all_read}
use Rattle.code_frames.proofs.reading.whole.Goals as goal

pub frames-requires : goal.frames-requires
frames-requires c =
    let read : unsigned_at 2 c.args.maps.now ≡ found c.in-Ok.count c.u16.new.self = rw c.new-cursor.ensures at c.in-Ok.ensures in
    (read_count c.args.maps.now c.in-Ok.count c.u16.new.self (λ i. omega (arith, c.type_inv.maps i)) read).1

pub returns-in_err-frames-clause-answer : goal.returns-in_err-frames-clause-answer
returns-in_err-frames-clause-answer c =
    let read : unsigned_at 2 c.args.maps.now ≡ found c.in-Ok.count c.u16.new.self = rw c.new-cursor.ensures at c.in-Ok.ensures in
    let t = (read_count c.args.maps.now c.in-Ok.count c.u16.new.self (λ i. omega (arith, c.type_inv.maps i)) read).0 in
    let p = err_from_is_err_and c.from_residual.result c.from_residual.ensures.1 in
    rw (p.1, p.2) (refused c.args.pool.now c.args.steps.now c.args.entry_locals c.in-Ok.count c.args.maps.now c.u16.new.self c.in_err-frames.field-0.0 c.frames.new.cursor t c.in_err-frames.ensures)

pub returns-then-not-is_empty-clause-answer : goal.returns-then-not-is_empty-clause-answer
returns-then-not-is_empty-clause-answer c =
    let read : unsigned_at 2 c.args.maps.now ≡ found c.in-Ok.count c.u16.new.self = rw c.new-cursor.ensures at c.in-Ok.ensures in
    let t = (read_count c.args.maps.now c.in-Ok.count c.u16.new.self (λ i. omega (arith, c.type_inv.maps i)) read).0 in
    left_over c.args.pool.now c.args.steps.now c.args.entry_locals c.in-Ok.count c.args.maps.now c.u16.new.self c.in_ok-frames.frames c.frames.new.cursor t c.in_ok-frames.ensures (eqb-false _ _ (sym c.if-not-is_empty.ensures))

pub returns-clause-answer : goal.returns-clause-answer
returns-clause-answer c =
    let read : unsigned_at 2 c.args.maps.now ≡ found c.in-Ok.count c.u16.new.self = rw c.new-cursor.ensures at c.in-Ok.ensures in
    let t = (read_count c.args.maps.now c.in-Ok.count c.u16.new.self (λ i. omega (arith, c.type_inv.maps i)) read).0 in
    all_read c.args.pool.now c.args.steps.now c.args.entry_locals c.in-Ok.count c.args.maps.now c.u16.new.self c.in_ok-frames.frames c.frames.new.cursor t c.in_ok-frames.ensures (eqb-true _ _ (sym c.if-not-is_empty.ensures))
