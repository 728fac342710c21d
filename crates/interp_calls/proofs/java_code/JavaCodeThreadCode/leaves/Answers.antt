use Rattle.interp_calls.proofs.StateLemmas.{inside_stays}
use Rattle.interp_calls.proofs.java_code.JavaCodeThreadCode.leaves.Goals as goal

pub returns-in-Some : goal.returns-in-Some
returns-in-Some g c =
    let us = g.P.Constants.units c.args.self.now.program.now in
    inside_stays us c.args.self.now.thread c.args.self.now.frames c.args.self.now.texts c.args.self.now.text c.in-Some.field-0 c.in-Some.is
