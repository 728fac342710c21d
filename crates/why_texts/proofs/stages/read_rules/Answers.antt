use Rattle.std.proofs.Common.{rules}
use Rattle.why_texts.specs.Rules.{read_rules}
use Rattle.why_texts.proofs.stages.read_rules.Goals as goal

pub returns : goal.returns
unfolding read_rules
returns c = search rules
