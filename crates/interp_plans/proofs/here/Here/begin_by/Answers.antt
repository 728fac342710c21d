use Rattle.std.proofs.Common.{rules, ◌≡◌, ◌∙◌}
use Rattle.interp_local.specs.declared.step.LocalStep.TheVariants.{Throw}
use Rattle.interp_local.specs.Steps.{kind_of, local_now}
use Rattle.java_rows.specs.Program.{steps_of}
use Rattle.interp_plans.proofs.BeginLemmas.{begun_fails}
use Rattle.interp_plans.proofs.here.Here.begin_by.Goals as goal

pub returns-in-Throw-clause-some : goal.returns-in-Throw-clause-some
returns-in-Throw-clause-some g c =
    let us = g.P.Constants.units c.args.self.now.program.now in
    let s = c.args.self.now.frames.now in
    let kind : Throw c.in-Throw.class ≡ kind_of (local_now us (steps_of us s.here.method) s) = search rules in
    begun_fails us c.args.self.now.thread s c.in-Throw.class kind ∙ c.fail.ensures
