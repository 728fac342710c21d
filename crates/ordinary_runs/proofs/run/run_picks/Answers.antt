use Rattle.std.proofs.Common.{[], ◌∙◌, subst}
use Rattle.op_core.specs.declared.Limits.{Limits}
use Rattle.ordinary_machine.specs.Machine.{machine_of}
use Rattle.ordinary_runs.specs.ScheduledRun.{keeping_for, begun_with, run_of, GoesOn, GoesOnOrEnds}
use Rattle.ordinary_runs.proofs.TurnLemmas.{goes_less}
use Rattle.ordinary_runs.proofs.RunLemmas.{outcome_of, goes_further}
use Rattle.ordinary_runs.proofs.run.run_picks.Goals as goal

pub loop-run-init : goal.loop-run-init
loop-run-init g c = record { limits = c.new-run.ensures.limits; follows = ([], c.new-run.ensures.run) }

pub returns-in-Some : goal.returns-in-Some
returns-in-Some g c =
    let state = g.C.ThreadCode.state in
    let code = g.C.ThreadCode.code in
    let limits = c.args.limits.now in
    let run = run_of state c.loop-run.run in
    let next = run_of state c.go_on.new.self in
    let goes = subst (λ (l : Limits). GoesOnOrEnds code l run c.in_ok-how.field-0 next) c.loop-run.invariant.limits c.in_ok-how.ensures.goes in
    let ends = subst (λ how. GoesOnOrEnds code limits run how next) c.in-Some.is goes in
    let made = c.into_outcome.ensures in
    outcome_of code (machine_of state c.args.machine) c.args.schedule.now limits c.args.events run next c.in-Some.how c.into_outcome.result c.loop-run.invariant.follows ends.0 ends.1
    made.how made.lines made.ends made.opened made.undone made.events made.undos made.made

pub loop-run-smaller : goal.loop-run-smaller
loop-run-smaller g c =
    let state = g.C.ThreadCode.state in
    let code = g.C.ThreadCode.code in
    let limits = c.args.limits.now in
    let run = run_of state c.loop-run.run in
    let next = run_of state c.go_on.new.self in
    let goes = subst (λ (l : Limits). GoesOnOrEnds code l run c.in_ok-how.field-0 next) c.loop-run.invariant.limits c.in_ok-how.ensures.goes in
    let on : GoesOn code limits run next = subst (λ how. GoesOnOrEnds code limits run how next) c.in_default.is goes in
    goes_less code limits run next on

pub loop-run-preserved : goal.loop-run-preserved
loop-run-preserved g c =
    let state = g.C.ThreadCode.state in
    let code = g.C.ThreadCode.code in
    let limits = c.args.limits.now in
    let run = run_of state c.loop-run.run in
    let next = run_of state c.go_on.new.self in
    let goes = subst (λ (l : Limits). GoesOnOrEnds code l run c.in_ok-how.field-0 next) c.loop-run.invariant.limits c.in_ok-how.ensures.goes in
    let on : GoesOn code limits run next = subst (λ how. GoesOnOrEnds code limits run how next) c.in_default.is goes in
    record {
      limits = c.in_ok-how.ensures.limits ∙ c.loop-run.invariant.limits;
      follows = goes_further code limits (begun_with (machine_of state c.args.machine) c.args.schedule.now (keeping_for c.args.events)) run next c.loop-run.invariant.follows on;
    }
