use Rattle.code_facts.proofs.CodeFacts as facts
use Rattle.code_facts.proofs.laws.codes_push_words.Goals as goal

pub returns : goal.returns
returns c = facts.push_words
