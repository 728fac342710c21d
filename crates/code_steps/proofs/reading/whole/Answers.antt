use Rattle.std.proofs.lemmas.Result.{err_from_is_err_and}
use Rattle.code_steps.proofs.ArrayLaws.{offsets_kept, laid_array, laid_fault}
use Rattle.code_steps.proofs.reading.whole.Goals as goal

pub returns-in_err-steps-clause-exact : goal.returns-in_err-steps-clause-exact
returns-in_err-steps-clause-exact c =
    let p = err_from_is_err_and c.from_residual-in_err-steps.result c.from_residual-in_err-steps.ensures.1 in
    rw (p.1, p.2)
    (laid_fault c.args.pool.now c.args.code.now c.in_ok-laid.laid c.in_ok-laid.offsets c.in_err-steps.field-0.0 c.in_ok-laid.ensures.ok (rw c.as_slice.ensures at c.in_err-steps.ensures))

pub new-requires : goal.new-requires
new-requires c = offsets_kept c.in_ok-laid.offsets c.in_ok-laid.laid c.in_ok-steps.steps c.in_ok-laid.ensures.ok.offsets_are (rw c.as_slice.ensures at c.in_ok-steps.ensures)

pub returns-clause-found : goal.returns-clause-found
returns-clause-found c =
    rw c.new.ensures
    (laid_array c.args.pool.now c.args.code.now c.in_ok-laid.laid c.in_ok-laid.offsets c.in_ok-steps.steps c.in_ok-laid.ensures.ok (rw c.as_slice.ensures at c.in_ok-steps.ensures))
