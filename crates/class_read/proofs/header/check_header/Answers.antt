use Rattle.std.proofs.Common.{inl, inr}
use Rattle.std.proofs.lemmas.Result.{err_from_is_err_and}
use Rattle.class_read.proofs.header.check_header.Goals as goal

pub returns-in_err-check_interfaces : goal.returns-in_err-check_interfaces
returns-in_err-check_interfaces c =
    let p = err_from_is_err_and c.from_residual.result c.from_residual.ensures.1 in
    rw (p.1, p.2) (inr (c.is_named_class.ensures.0 c.if-not-is_named_class.false, inr (c.has_superclass.ensures.0 c.if-not-has_superclass.false, inl c.in_err-check_interfaces.ensures)))
