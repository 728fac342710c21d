use Rattle.std.proofs.Common.{ap, ◌∙◌}
use Rattle.text_numbers.specs.Numbers.{number_of}
use Rattle.text_numbers.proofs.NumberLaws.{with_text_keeps}
use Rattle.class_texts.proofs.adding.add_text.Goals as goal

pub returns-clause-kept : goal.returns-clause-kept
returns-clause-kept c = λ text some.
    ap (λ ts. number_of ts text) c.in_ok-add.ensures.ok ∙ with_text_keeps c.args.numbers.now c.args.text.now text some
