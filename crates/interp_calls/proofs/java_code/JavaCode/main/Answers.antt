use Rattle.std.proofs.Common.{rules, ◌≡◌, ap, ◌∙◌}
use Rattle.frame_snapshot.specs.FrameStack.{launch_frame, with_word}
use Rattle.frame_snapshot.specs.declared.stage.FrameStage.TheVariants.{Begun}
use Rattle.interp_calls.proofs.MainLemmas.{launched}
use Rattle.interp_calls.proofs.java_code.JavaCode.main.Goals as goal

pub returns-clause-state : goal.returns-clause-state
returns-clause-state g c =
    let us = g.P.Constants.units c.args.program.now in
    let a = c.arguments.result in
    let begins : c.in_ok-frames.frames ≡ launch_frame c.args.main Begun 1 = search rules in
    let pushed : c.push_word.new.self ≡ with_word (launch_frame c.args.main Begun 1) a = c.push_word.ensures ∙ ap (λ s. with_word s a) begins in
    launched us c.main_thread-thread.result a c.args.main c.push_word.new.self c.set_stage.new.self c.ask-todo.result
    pushed c.set_stage.ensures c.arguments.ensures c.main_thread-thread.ensures c.ask-todo.ensures
