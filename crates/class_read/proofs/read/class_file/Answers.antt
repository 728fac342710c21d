use Rattle.std.proofs.Common.{refl}
use Rattle.std.proofs.lemmas.Result.{err_from_is_err_and}
use Rattle.class_read.proofs.read.class_file.Goals as goal

pub returns-in_err-fields : goal.returns-in_err-fields
returns-in_err-fields c =
    let p = err_from_is_err_and c.from_residual.result c.from_residual.ensures.1 in
    let refused = rw c.as_slice.ensures at c.in_err-fields.ensures in
    rw (p.1, p.2) refused

pub returns : goal.returns
returns c =
    let kept = rw c.as_slice.ensures at c.in_ok-fields.ensures in
    (kept.0, rw (kept.1.0, kept.1.1) refl)
