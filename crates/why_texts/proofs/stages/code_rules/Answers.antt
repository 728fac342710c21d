use Rattle.std.proofs.Common.{rules}
use Rattle.why_texts.specs.Rules.{code_rules}
use Rattle.why_texts.proofs.stages.code_rules.Goals as goal

pub returns : goal.returns
unfolding code_rules
returns c = search rules
