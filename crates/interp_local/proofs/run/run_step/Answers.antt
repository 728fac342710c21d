use Rattle.interp_local.proofs.RunLemmas.{one_step}
use Rattle.interp_local.proofs.run.run_step.Goals as goal

pub returns-clause-row : goal.returns-clause-row
returns-clause-row g c = (one_step (g.P.Constants.units c.args.program.now) c.args.steps.now c.run_local.result.steps c.run_local.result.stop c.args.frames.now c.run_local.new.frames
    c.run_local.ensures.run c.run_local.ensures.most c.run_local.ensures.full c.run_local.ensures.stop).row

pub returns-clause-kept : goal.returns-clause-kept
returns-clause-kept g c = (one_step (g.P.Constants.units c.args.program.now) c.args.steps.now c.run_local.result.steps c.run_local.result.stop c.args.frames.now c.run_local.new.frames
    c.run_local.ensures.run c.run_local.ensures.most c.run_local.ensures.full c.run_local.ensures.stop).kept

pub returns-clause-local : goal.returns-clause-local
returns-clause-local g c = (one_step (g.P.Constants.units c.args.program.now) c.args.steps.now c.run_local.result.steps c.run_local.result.stop c.args.frames.now c.run_local.new.frames
    c.run_local.ensures.run c.run_local.ensures.most c.run_local.ensures.full c.run_local.ensures.stop).local
