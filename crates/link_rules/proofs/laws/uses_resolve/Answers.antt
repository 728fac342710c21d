use Rattle.link_rules.proofs.FieldUses.{fields_resolve}
use Rattle.link_rules.proofs.Uses.{literals_resolve, handlers_resolve, classes_resolve, calls_resolve, interface_calls_resolve}
use Rattle.link_rules.proofs.laws.uses_resolve.Goals as goal

pub returns : goal.returns
returns c = record { classes = classes_resolve; calls = calls_resolve; fields = fields_resolve; literals = literals_resolve; handlers = handlers_resolve; interface_calls = interface_calls_resolve }
