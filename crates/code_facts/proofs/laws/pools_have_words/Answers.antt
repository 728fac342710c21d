use Rattle.code_facts.proofs.CodeFacts as facts
use Rattle.code_facts.proofs.laws.pools_have_words.Goals as goal

pub returns : goal.returns
returns c = facts.have_words
