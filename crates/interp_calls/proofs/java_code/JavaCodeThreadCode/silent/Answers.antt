use Rattle.interp_calls.proofs.StateLemmas.{on_err, same_inside, same_thread}
use Rattle.interp_calls.proofs.java_code.JavaCodeThreadCode.silent.Goals as goal

pub returns-in_err-self-in-Some-clause-err : goal.returns-in_err-self-in-Some-clause-err
returns-in_err-self-in-Some-clause-err g c =
    on_err c.from_residual.result (same_inside c.args.self.now c.silent_inside.new.frames c.silent_inside.new.texts _ _ c.in_err-self-in-Some.ensures.frames c.in_err-self-in-Some.ensures.texts)

pub returns-in_err-silent_outside-in-None-clause-err : goal.returns-in_err-silent_outside-in-None-clause-err
returns-in_err-silent_outside-in-None-clause-err g c =
    on_err c.from_residual-in_err-silent_outside-in-None.result (same_thread c.args.self.now c.silent_outside.new.frames _ _ c.in_err-silent_outside-in-None.ensures.err)
