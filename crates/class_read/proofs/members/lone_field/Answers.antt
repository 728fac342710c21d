use Rattle.std.proofs.Common.{inr, sym, ◌∙◌}
use Rattle.std.proofs.lemmas.Result.{err_from_is_err_and}
use Rattle.class_read.proofs.members.lone_field.Goals as goal

pub returns-in_err-constant : goal.returns-in_err-constant
returns-in_err-constant c =
    let p = err_from_is_err_and c.from_residual-in_err-constant.result c.from_residual-in_err-constant.ensures.1 in
    let name = c.in_ok-check_field_name.ensures in
    let type = c.in_ok-check_field_type.ensures in
    let flags = sym c.are_field_flags.ensures ∙ c.if-not-are_field_flags.false in
    rw (p.1, p.2) (inr (name, inr (type, inr (flags, c.in_err-constant.ensures))))
