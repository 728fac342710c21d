use Rattle.std.proofs.Common.{◌≡◌, false, sym, ◌∙◌, ap, subst}
use Rattle.sched_core.specs.ScheduledRun.{counts_turns}
use Rattle.sched_core.proofs.OrderLemmas.{uncounted_stays}
use Rattle.sched_core.proofs.run.end_turns.Goals as goal

pub returns-else-counts_turns : goal.returns-else-counts_turns
returns-else-counts_turns c = ap (λ order. record c.args.rest.now { order = order })
    (sym (uncounted_stays c.args.turns c.args.rest.now.order (subst (λ item. counts_turns item ≡ false) c.first.ensures (sym c.counts_turns.ensures ∙ c.if-counts_turns.false))))
