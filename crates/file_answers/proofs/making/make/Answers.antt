use Rattle.std.proofs.Common.{List, ℕ, subst}
use Rattle.file_answers.specs.Answers.{IsMade}
use Rattle.file_answers.proofs.making.make.Goals as goal

pub returns-clause-answer : goal.returns-clause-answer
returns-clause-answer g c =
    let Of : List ℕ → Type 0 = λ text. IsMade text c.in_ok-answer.answer in
    (c.in_ok-text.text.items, c.in_ok-text.ensures.told, subst Of c.deref.ensures.value c.in_ok-answer.ensures)
