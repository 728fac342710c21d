use Rattle.std.proofs.Common.{inl, inr, sym, ◌∙◌}
use Rattle.std.proofs.lemmas.Result.{err_from_is_err_and}
use Rattle.class_read.proofs.members.lone_method.Goals as goal

pub returns-in_err-code : goal.returns-in_err-code
returns-in_err-code c =
    let p = err_from_is_err_and c.from_residual-in_err-code.result c.from_residual-in_err-code.ensures.1 in
    let name = c.in_ok-check_method_name.ensures in
    let type = c.in_ok-check_method_type.ensures in
    let flags = sym c.are_method_flags.ensures ∙ c.if-not-are_method_flags.false in
    rw (p.1, p.2) (elim c.in_err-code.ensures [
      | inl no_memory ↦ inl no_memory
      | inr broken ↦ inr (inr (name, inr (type, inr (flags, inl broken))))
    ])
