use Rattle.std.proofs.Common.{[], ◌∷◌, ◌++◌, ap, ◌∙◌}
use Rattle.std.proofs.lemmas.List.Elements.{All-nil, All-cons}
use Rattle.table_hosts.specs.Seated.{StandsOn}
use Rattle.epoch_host.proofs.Working.{work_untouched}
use Rattle.epoch_host.proofs.hosts.run_epochs.Goals as goal

pub loop-epoch-init : goal.loop-epoch-init
loop-epoch-init g c =
    let Stands = StandsOn g.C.ThreadCode.state g.C.ThreadCode.saved g.C.ThreadCode.code c.args.table.now in
    let e = c.untouched-all.ensures in
    work_untouched g.C.ThreadCode.state g.C.ThreadCode.saved g.C.ThreadCode.code c.args.table.now (c.args.first ∷ []) c.untouched-all.result (All-cons Stands c.args.first [] c.requires.stands (All-nil Stands))
    (e.threads ∙ c.in_ok-push.ensures ∙ ap (λ xs. xs ++ c.args.first ∷ []) c.new-threads.ensures.items) e.counts.0 e.counts.1 e.met

pub returns-then-over-clause-work : goal.returns-then-over-clause-work
returns-then-over-clause-work g c = c.in_ok-more.ensures.work (c.args.first ∷ []) c.loop-epoch.invariant.became

pub returns-then-over-clause-over : goal.returns-then-over-clause-over
returns-then-over-clause-over g c = c.in_ok-more.ensures.over c.if-over.true

pub loop-epoch-preserved : goal.loop-epoch-preserved
loop-epoch-preserved g c = c.in_ok-more.ensures.work (c.args.first ∷ []) c.loop-epoch.invariant.became
