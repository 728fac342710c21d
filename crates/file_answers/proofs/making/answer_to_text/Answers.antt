use Rattle.std.proofs.Common.{inl, inr, ap, ◌∙◌, Err}
use Rattle.class_make.specs.declared.refusal.MakeRefusal.{MakeRefusal}
use Rattle.file_answers.specs.Answers.{given}
use Rattle.file_answers.proofs.making.answer_to_text.Goals as goal

pub returns-in_ok-given-in-Ok : goal.returns-in_ok-given-in-Ok
returns-in_ok-given-in-Ok c =
    inl (c.in-Ok.bytes.items, c.in-Ok.ensures.made, c.in_ok-given-in-Ok.ensures ∙ ap given c.from_vec.ensures)

pub returns-in_ok-not_made-in-Err-Line : goal.returns-in_ok-not_made-in-Err-Line
returns-in_ok-not_made-in-Err-Line c =
    let refused = c.assemble.ensures.line c.in-Err-Line.number (c.in-Err-Line.is ∙ ap (λ (refusal : MakeRefusal). Err refusal) c.in-Err-Line.field-0-is) in
    inr (c.in-Err-Line.number, refused, c.in_ok-not_made-in-Err-Line.ensures)
