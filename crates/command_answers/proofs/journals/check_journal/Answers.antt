use Rattle.std.proofs.Common.{◌++◌, [], subst, append-nil}
use Rattle.java_run.specs.Check.{IsCheckOf, Shows}
use Rattle.command_answers.proofs.journals.check_journal.Goals as goal

pub returns-clause-checked : goal.returns-clause-checked
returns-clause-checked g c =
    let us = c.args.accepted.now.units in
    let (text, told, fed) = c.in_ok-feed_up_to.ensures.told in
    let (found, rest, shows) = c.in_ok-checked.ensures in
    let is : IsCheckOf us c.args.accepted.now.main (text ++ []) c.in_ok-checked.checked = record {
      found = found;
      is = c.in_ok-input_check.ensures (text ++ []) found (fed [] found rest);
      shows = subst (λ u. Shows u found c.in_ok-checked.checked) c.world.ensures shows;
    } in
    (text, told, subst (λ t. IsCheckOf us c.args.accepted.now.main t c.in_ok-checked.checked) (append-nil text) is)
