use Rattle.std.proofs.Common.{take}
use Rattle.std.proofs.lemmas.Result.{IfOk-weaker}
use Rattle.encoded_texts.specs.Encoded.{encoded_text}
use Rattle.command_answers.proofs.journals.check.Goals as goal

pub returns-clause-answer : goal.returns-clause-answer
returns-clause-answer g c =
    let (names, listed, gained, (read, are, (count, is))) = c.in_ok-loaded.ensures.loaded in
    IfOk-weaker c.check_loaded.result _ _ (λ answer judged. (names, listed, gained, (read, are, judged (encoded_text c.args.main.now) (take 1025 names) read count is))) c.check_loaded.ensures.answer
