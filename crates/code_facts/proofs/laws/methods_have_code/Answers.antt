use Rattle.code_facts.proofs.CodeFacts as facts
use Rattle.code_facts.proofs.laws.methods_have_code.Goals as goal

pub returns : goal.returns
returns c = facts.have_code
