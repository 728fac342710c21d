use Rattle.std.proofs.Common.{inl, inr}
use Rattle.std.proofs.lemmas.Result.{err_from_is_err_and}
use Rattle.class_read.proofs.read.kept_members.Goals as goal

pub returns-in_err-fields : goal.returns-in_err-fields
returns-in_err-fields c =
    let p = err_from_is_err_and c.from_residual.result c.from_residual.ensures.1 in
    let refused = rw c.has.ensures at c.in_err-fields.ensures in
    rw (p.1, p.2) (elim refused [
      | inl no_memory ↦ inl no_memory
      | inr broken ↦ inr (inl broken)
    ])

pub returns-in_err-methods : goal.returns-in_err-methods
returns-in_err-methods c =
    let p = err_from_is_err_and c.from_residual-in_err-methods.result c.from_residual-in_err-methods.ensures.1 in
    let fields = rw c.has.ensures at c.in_ok-fields.ensures in
    rw (p.1, p.2) (elim c.in_err-methods.ensures [
      | inl no_memory ↦ inl no_memory
      | inr broken ↦ inr (inr (fields.0, inl broken))
    ])

pub returns-in_err-check_class_attributes : goal.returns-in_err-check_class_attributes
returns-in_err-check_class_attributes c =
    let r = c.from_residual-in_err-check_class_attributes in
    let p = err_from_is_err_and r.result r.ensures.1 in
    let fields = rw c.has.ensures at c.in_ok-fields.ensures in
    rw (p.1, p.2) (inr (inr (fields.0, inr (c.in_ok-methods.ensures.0, rw c.constants.ensures at c.in_err-check_class_attributes.ensures))))

pub returns : goal.returns
returns c =
    let fields = rw c.has.ensures at c.in_ok-fields.ensures in
    ((fields.0, (c.in_ok-methods.ensures.0, rw c.constants.ensures at c.in_ok-check_class_attributes.ensures)), (fields.1, c.in_ok-methods.ensures.1))
