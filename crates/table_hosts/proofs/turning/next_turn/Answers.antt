use Rattle.std.proofs.Common.{ap, ◌∙◌}
use Rattle.table_hosts.specs.Tallies.{tally_of_turn}
use Rattle.table_hosts.proofs.turning.next_turn.Goals as goal

pub returns-clause-took : goal.returns-clause-took
returns-clause-took g c = record {
  turn = c.in_ok-turned.turned;
  takes = c.in_ok-turned.ensures.takes;
  is = (c.goes_on-goes_on.ensures, c.tally_of-tally.ensures.tally ∙ ap (tally_of_turn c.in_ok-turned.turned) (c.last_kind.ensures ∙ ap (λ t. t.own.last_kind) c.thread.ensures ∙ c.in_ok-turned.ensures.last_kind));
}
