use Rattle.link_examples.proofs.Linked.{twice_refused, missing_refused}
use Rattle.link_examples.proofs.programs.the_first_broken_rule_is_refused.Goals as goal

pub returns : goal.returns
returns c = record { twice = twice_refused; missing = missing_refused }
