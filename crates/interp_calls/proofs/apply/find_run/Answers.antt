use Rattle.std.proofs.Common.{◌≡◌, ◌∷◌, drop, sym, ap, ◌∙◌}
use Rattle.frame_snapshot.specs.declared.stage.FrameStage.TheVariants.{Inside}
use Rattle.frame_snapshot.specs.declared.todo.Then.TheVariants.{FindsRun}
use Rattle.frame_snapshot.specs.declared.todo.Todo.TheVariants.{Wants}
use Rattle.frame_snapshot.specs.FrameStack.{with_stage, with_word}
use Rattle.op_core.specs.declared.Op.TheVariants.{ClassOf}
use Rattle.java_rows.specs.Plan.{finds, want}
use Rattle.java_rows.specs.Thread.{at, settled}
use Rattle.interp_plans.specs.Replies.{finds_run_then}
use Rattle.interp_plans.specs.Todos.{again_with}
use Rattle.interp_plans.specs.Uses.{frame_of, use_by}
use Rattle.interp_calls.specs.Local.{local_of, waiting_below}
use Rattle.interp_calls.proofs.AgainLemmas.{finds_again, found}
use Rattle.interp_calls.proofs.apply.find_run.Goals as goal

pub returns-clause-state : goal.returns-clause-state
returns-clause-state g c =
    let us = g.P.Constants.units c.args.program.now in
    let me = c.args.thread in
    let caller = c.args.caller in
    let v = c.args.target in
    let f = c.args.frames.now.here in
    let rest = drop 1 f.stack in
    let below = waiting_below us me c.args.frames.now.below in
    let st = Inside (Wants (ClassOf v) (FindsRun caller)) in
    let is : f.stack ≡ _ ∷ rest = c.in-Some.ensures.some in
    ap (local_of us me) c.go_on-2.ensures
    ∙ ap (λ x. local_of us me (with_stage x st)) c.push_word.ensures
    ∙ ap (λ x. local_of us me (with_stage (with_word x v) st)) c.pop_word-thread.ensures.rest
    ∙ ap (λ g. at us me (want (ClassOf v) (finds_run_then us me g caller (v ∷ rest))) below) (found f _ v rest is)
    ∙ sym (finds_again us me f caller _ v rest below is)
    ∙ ap (λ s. settled us me (again_with (frame_of f) caller s (λ r. (use_by (frame_of f) caller rest).again (finds v))) below) (sym is)
