use Rattle.std.proofs.Common.{rules, ◌≡◌, false, Some}
use Rattle.op_core.specs.ThreadCode.{leaves_any, quiet_step}
use Rattle.java_rows.specs.Thread.{java_code}
use Rattle.interp_calls.specs.Local.{saved_locals, state_over}
use Rattle.interp_calls.proofs.HostedLemmas.{one_leaves, stretch_leads}
use Rattle.interp_calls.proofs.java_code.JavaCode.pass_silent.Goals as goal

pub returns-in-Ok-clause-led : goal.returns-in-Ok-clause-led
returns-in-Ok-clause-led g c =
    let saves = (saved_locals (g.P.Constants.units c.args.self.now.program.now) c.args.self.now.thread c.args.self.now.frames) in
    let old = (state_over (g.P.Constants.units c.args.self.now.program.now) c.args.self.now.thread c.args.self.now.frames c.args.self.now.texts c.args.self.now.text) in
    let new = (state_over (g.P.Constants.units c.silent.new.self.program.now) c.silent.new.self.thread c.silent.new.self.frames c.silent.new.self.texts c.silent.new.self.text) in
    let step : quiet_step java_code old ≡ Some new = search rules in
    let none : leaves_any java_code saves old ≡ false = search rules in
    stretch_leads saves g.H.OpHost.passes g.H.OpHost.answers 1 old new c.args.host.now c.pass.new.self step (one_leaves saves old none) c.pass.ensures
