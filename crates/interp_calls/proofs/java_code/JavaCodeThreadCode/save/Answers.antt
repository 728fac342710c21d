use Rattle.interp_calls.proofs.StateLemmas.{on_err, same_thread}
use Rattle.interp_calls.proofs.java_code.JavaCodeThreadCode.save.Goals as goal

pub returns-in_err-save-clause-err : goal.returns-in_err-save-clause-err
returns-in_err-save-clause-err g c =
    on_err c.from_residual.result (same_thread c.args.self.now c.save.new.self _ _ c.in_err-save.ensures.err)
