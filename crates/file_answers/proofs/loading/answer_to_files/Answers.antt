use Rattle.std.proofs.Common.{◌≡◌, length, map, rules, string_bytes}
use Rattle.std.proofs.lemmas.Result.{IfOk-weaker}
use Rattle.std.proofs.lemmas.List.{length-map}
use Rattle.encoded_texts.specs.Encoded.{encoded_text}
use Rattle.file_answers.proofs.Answered.{judged_program}
use Rattle.file_answers.proofs.loading.answer_to_files.Goals as goal

pub returns-in-Program : goal.returns-in-Program
returns-in-Program g c =
    let files = map (λ f. f.items) c.args.files.items in
    let long : c.len-count.result ≡ length files = search (length-map, rules) in
    let answers = g.V.Verdict.answers c.args.verdict.now in
    IfOk-weaker c.answer.result _ _ (λ answer is. judged_program answers (encoded_text c.args.main.now) (map string_bytes c.args.names.now) files c.in_ok-judged.judged c.in-Program.program c.len-count.result answer c.in_ok-judged.ensures c.in-Program.is is long) c.answer.ensures
