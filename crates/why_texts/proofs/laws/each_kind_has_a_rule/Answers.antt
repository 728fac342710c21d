use Rattle.why_texts.proofs.Rules.{read_rule, code_rule, link_rule, verify_rule}
use Rattle.why_texts.proofs.laws.each_kind_has_a_rule.Goals as goal

pub returns : goal.returns
returns c = record { read = read_rule; code = code_rule; link = link_rule; verify = verify_rule }
