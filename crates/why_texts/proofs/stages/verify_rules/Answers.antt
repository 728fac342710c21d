use Rattle.std.proofs.Common.{rules}
use Rattle.why_texts.specs.Rules.{verify_rules}
use Rattle.why_texts.proofs.stages.verify_rules.Goals as goal

pub returns : goal.returns
unfolding verify_rules
returns c = search rules
