use Rattle.std.proofs.Common.{ap, sym, ◌∙◌}
use Rattle.java_rows.specs.Thread.{settled}
use Rattle.text_stages.specs.Stages.{reached_plan}
use Rattle.interp_plans.specs.Jobs.{job_of}
use Rattle.interp_plans.specs.Uses.{frame_of, use_at}
use Rattle.interp_texts.specs.Told.{told}
use Rattle.interp_calls.specs.Local.{waiting_below}
use Rattle.interp_calls.proofs.TextLemmas.{reply_leads}
use Rattle.interp_calls.proofs.texts.reply_inside.Goals as goal

pub returns-clause-state : goal.returns-clause-state
returns-clause-state g c =
    let us = g.P.Constants.units c.args.program.now in
    let me = c.args.thread in
    let s = c.args.frames.now in
    let run = c.args.texts.now in
    let below = waiting_below us me s.below in
    let u = use_at (frame_of s.here) c.args.site in
    c.go_on_inside.ensures.state
    ∙ ap (λ j. settled us me (reached_plan us u (job_of j) (told us c.reply-reached.result c.reply-reached.new.self)) below) c.reply-reached.ensures.job
    ∙ ap (λ x. settled us me (reached_plan us u (job_of run.job) x) below) c.reply-reached.ensures.is
    ∙ sym (reply_leads us me (frame_of s.here) c.args.site run c.args.reply below c.requires.fits)
