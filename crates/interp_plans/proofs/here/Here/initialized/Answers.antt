use Rattle.std.proofs.Common.{◌≡◌, ◌-◌, suc, ap, ◌∙◌, arith}
use Rattle.interp_plans.specs.Initializing as spec
use Rattle.interp_plans.specs.Initializing.{chain_of}
use Rattle.interp_plans.specs.Uses.{frame_of}
use Rattle.interp_plans.proofs.here.Here.initialized.Goals as goal

pub returns : goal.returns
returns g c =
    let above : c.args.place ≡ suc (c.args.place - 1) = omega (arith, c.if-place-eq0.false) in
    let frame = frame_of c.args.self.now.frames.now.here in
    let units = g.P.Constants.units c.args.self.now.program.now in
    ap (spec.done_at units c.args.self.now.thread frame c.args.caller (chain_of units frame c.args.caller)) above ∙ c.initialized_above.ensures
