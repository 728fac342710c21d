use Rattle.class_texts.proofs.AddingLaws.{both_extend}
use Rattle.class_texts.proofs.adding.add_method.Goals as goal

pub returns-clause-kept : goal.returns-clause-kept
returns-clause-kept c = both_extend c.args.numbers.now c.add_text.new.numbers c.add_text-2.new.numbers c.add_text.ensures.kept c.add_text-2.ensures.kept
