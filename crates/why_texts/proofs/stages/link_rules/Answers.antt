use Rattle.std.proofs.Common.{rules}
use Rattle.why_texts.specs.Rules.{link_rules}
use Rattle.why_texts.proofs.stages.link_rules.Goals as goal

pub returns : goal.returns
unfolding link_rules
returns c = search rules
