use Rattle.std.proofs.Common.{rules, ◌≡◌, ◌<◌, inl, inr, Some, ap, sym, ◌∙◌, arith}
use Rattle.std.proofs.lemmas.Bool.{cases_lt}
use Rattle.frame_snapshot.specs.declared.stage.FrameStage.TheVariants.{Begun}
use Rattle.interp_local.specs.Runs.{IsLocalRun}
use Rattle.interp_local.specs.Steps.{kind_of, local_now}
use Rattle.java_rows.specs.Program.{steps_of}
use Rattle.interp_calls.proofs.RunLemmas.{run_quiet, run_leaves_none, run_stays, steps_stay}
use Rattle.interp_calls.proofs.running.run.Goals as goal

pub keep_next-requires-clause-begun : goal.keep_next-requires-clause-begun
keep_next-requires-clause-begun g c =
    let us = g.P.Constants.units c.args.program.now in
    let old = c.args.frames.now in
    let is : old.here.stage ≡ Begun = search rules in
    let run : IsLocalRun us (steps_of us old.here.method) c.run_local-run.result.steps old c.run_local-run.new.frames = search rules in
    (run_stays us (steps_of us old.here.method) c.run_local-run.result.steps old c.run_local-run.new.frames is run).stage

pub keep_next-requires-clause-steps : goal.keep_next-requires-clause-steps
keep_next-requires-clause-steps g c =
    let us = g.P.Constants.units c.args.program.now in
    let old = c.args.frames.now in
    let new = c.run_local-run.new.frames in
    let is : old.here.stage ≡ Begun = search rules in
    let run : IsLocalRun us (steps_of us old.here.method) c.run_local-run.result.steps old new = search rules in
    let those : c.as_slice-steps.result.now ≡ steps_of us old.here.method = search rules in
    those ∙ steps_stay us old new (run_stays us (steps_of us old.here.method) c.run_local-run.result.steps old new is run)

pub keep_next-requires-clause-step : goal.keep_next-requires-clause-step
keep_next-requires-clause-step g c moves_not =
    let us = g.P.Constants.units c.args.program.now in
    let old = c.args.frames.now in
    let new = c.run_local-run.new.frames in
    let is : old.here.stage ≡ Begun = search rules in
    let run : IsLocalRun us (steps_of us old.here.method) c.run_local-run.result.steps old new = search rules in
    let is_less : c.run_local-run.result.steps < c.args.most = elim (cases_lt c.run_local-run.result.steps c.args.most) [
      | inl less ↦ less
      | inr all ↦ (let most = c.run_local-run.ensures.most in absurd (moves_not (c.run_local-run.ensures.full.1 (omega (arith, all, most)))))
    ] in
    let stop : c.run_local-run.result.stop ≡ kind_of (local_now us (steps_of us old.here.method) new) = search rules in
    stop ∙ ap (λ xs. kind_of (local_now us xs new))
    (steps_stay us old new (run_stays us (steps_of us old.here.method) c.run_local-run.result.steps old new is run))

pub returns-in-Some-clause-steps : goal.returns-in-Some-clause-steps
returns-in-Some-clause-steps g c =
    let us = g.P.Constants.units c.args.program.now in
    let old = c.args.frames.now in
    let is : old.here.stage ≡ Begun = search rules in
    let run : IsLocalRun us (steps_of us old.here.method) c.run_local-run.result.steps old c.run_local-run.new.frames = search rules in
    run_quiet us c.args.thread c.run_local-run.result.steps old c.run_local-run.new.frames is c.has_few.ensures run
    ∙ ap Some (sym c.keep_next.ensures.state)

pub returns-in-Some-clause-stays : goal.returns-in-Some-clause-stays
returns-in-Some-clause-stays g c =
    let us = g.P.Constants.units c.args.program.now in
    let old = c.args.frames.now in
    let is : old.here.stage ≡ Begun = search rules in
    let run : IsLocalRun us (steps_of us old.here.method) c.run_local-run.result.steps old c.run_local-run.new.frames = search rules in
    run_leaves_none us c.args.thread c.run_local-run.result.steps old c.run_local-run.new.frames is c.has_few.ensures run

pub returns-in-Some-clause-saves : goal.returns-in-Some-clause-saves
returns-in-Some-clause-saves g c =
    let us = g.P.Constants.units c.args.program.now in
    let old = c.args.frames.now in
    let is : old.here.stage ≡ Begun = search rules in
    let run : IsLocalRun us (steps_of us old.here.method) c.run_local-run.result.steps old c.run_local-run.new.frames = search rules in
    c.keep_next.ensures.saves ∙ (run_stays us (steps_of us old.here.method) c.run_local-run.result.steps old c.run_local-run.new.frames is run).saves
