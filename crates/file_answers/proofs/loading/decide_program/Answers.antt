use Rattle.std.proofs.Common.{take}
use Rattle.encoded_texts.specs.Encoded.{encoded_text}
use Rattle.file_answers.proofs.Answered.{judged_program, judged_other}
use Rattle.file_answers.proofs.loading.decide_program.Goals as goal

pub returns-in_ok-answer-in-Program-clause-answer : goal.returns-in_ok-answer-in-Program-clause-answer
returns-in_ok-answer-in-Program-clause-answer g c =
    let answers = g.V.Verdict.answers c.args.verdict.now in
    let (names, listed, gained, (read, are, (count, is))) = c.in_ok-loaded.ensures.loaded in
    (names, listed, gained, (read, are, judged_program answers (encoded_text c.args.main.now) (take 1025 names) read c.in_ok-loaded.loaded.judged c.in-Program.program c.in_ok-loaded.loaded.count c.in_ok-answer-in-Program.field-0 is c.in-Program.is c.in_ok-answer-in-Program.ensures count))

pub returns-in-Other-clause-answer : goal.returns-in-Other-clause-answer
returns-in-Other-clause-answer g c =
    let answers = g.V.Verdict.answers c.args.verdict.now in
    let (names, listed, gained, (read, are, (count, is))) = c.in_ok-loaded.ensures.loaded in
    (names, listed, gained, (read, are, judged_other answers (encoded_text c.args.main.now) (take 1025 names) read c.in_ok-loaded.loaded.judged c.in-Other.answer is c.in-Other.is))
