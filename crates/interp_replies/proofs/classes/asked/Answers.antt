use Rattle.std.proofs.Common.{◌≡◌, ◌+◌, suc, Some, slice_get, ap, sym, ◌∙◌, arith}
use Rattle.op_core.specs.declared.Reply.TheVariants.{Claimed}
use Rattle.interp_plans.specs.Initializing.{chain_of, asks_at}
use Rattle.interp_plans.specs.Replies.{asked_then}
use Rattle.interp_plans.specs.Uses.{frame_of}
use Rattle.interp_replies.proofs.classes.asked.Goals as goal

pub returns-in-Claimed : goal.returns-in-Claimed
returns-in-Claimed g c =
    let us = g.P.Constants.units c.args.here.now.program.now in
    let me = c.args.here.now.thread in
    let f = frame_of c.args.here.now.frames.now.here in
    let known : slice_get (chain_of us f c.args.caller) c.args.place ≡ Some _ = sym c.class_in_chain.ensures.is ∙ c.in-Some.is in
    let next : suc c.args.place ≡ c.args.place + 1 = omega arith in
    ap (asked_then us me f c.args.caller c.args.place (slice_get (chain_of us f c.args.caller) c.args.place)) c.in-Claimed.is
    ∙ ap (λ o. asked_then us me f c.args.caller c.args.place o Claimed) known
    ∙ ap (asks_at us me f c.args.caller (chain_of us f c.args.caller)) next
    ∙ c.ask.ensures
