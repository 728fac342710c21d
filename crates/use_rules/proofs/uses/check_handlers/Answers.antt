use Rattle.std.proofs.lemmas.Option.{slice_get-get_or}
use Rattle.rules.proofs.RuleLaws.{one_more, all_hold}
use Rattle.link_rules.specs.LinkRules.{caught_rules}
use Rattle.use_rules.proofs.uses.check_handlers.Goals as goal

pub loop-handler-preserved : goal.loop-handler-preserved
loop-handler-preserved c =
    let n = c.args.names.now in
    let items = c.args.handlers.now in
    one_more (λ i h. caught_rules n.classes n.place n.pool h) items c.loop-handler.handler-index _ (slice_get-get_or items c.loop-handler.handler-index _ c.loop-handler-test.true) c.loop-handler.invariant c.in_ok-check_handler.ensures

pub returns : goal.returns
returns c =
    let n = c.args.names.now in
    all_hold (λ i h. caught_rules n.classes n.place n.pool h) c.args.handlers.now c.loop-handler.handler-index c.loop-handler-test.false c.loop-handler.invariant
