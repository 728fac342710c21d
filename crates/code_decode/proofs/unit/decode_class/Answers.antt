use Rattle.std.proofs.Common.{inl, inr}
use Rattle.std.proofs.lemmas.Result.{err_from_is_err_and}
use Rattle.code_decode.proofs.unit.decode_class.Goals as goal

pub returns-in_err-codes-clause-first : goal.returns-in_err-codes-clause-first
returns-in_err-codes-clause-first c =
    let p = err_from_is_err_and c.from_residual.result c.from_residual.ensures.1 in
    rw (p.1, p.2) (λ at refused. elim c.in_err-codes.ensures [
      | inl no_memory ↦ inl no_memory
      | inr first ↦ inr (first.only at refused)
    ])
