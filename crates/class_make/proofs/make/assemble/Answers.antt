use Rattle.class_make.proofs.TextLaws.{answers_text}
use Rattle.class_make.proofs.make.assemble.Goals as goal

pub returns-clause-only : goal.returns-clause-only
returns-clause-only c =
    answers_text c.args.text.now _ c.in-Ok.lines c.class_of_lines.result (λ bytes. bytes.items) c.front.ensures.value c.in-Ok.ensures.found
    (rw c.as_slice.ensures at c.class_of_lines.ensures)
