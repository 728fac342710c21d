use Rattle.std.proofs.Common.{◌≡◌, ◌∙◌, length, map, ap, subst, string_bytes, refl}
use Rattle.std.proofs.lemmas.Result.{IfOk-weaker}
use Rattle.encoded_texts.specs.Encoded.{encoded_text}
use Rattle.stress_texts.specs.Classes.{stress_names}
use Rattle.stress_texts.specs.declared.classes.TheConstants.{STRESS_MAIN}
use Rattle.command_answers.specs.Answers.{IsJudged, RunsTwice}
use Rattle.file_answers.proofs.Answered.{judged_program, judged_other}
use Rattle.command_answers.proofs.stressing.answer_to_number.Goals as goal

pub returns-in-Program : goal.returns-in-Program
returns-in-Program g c =
    let files = map (λ f. f.items) c.in_ok-files.files.items in
    let main = encoded_text STRESS_MAIN.now in
    let given = map string_bytes c.as_slice.result.now in
    let names : given ≡ stress_names = ap (map string_bytes) c.as_slice.ensures.value ∙ c.in_ok-names.ensures in
    let came = c.in_ok-judged.judged in
    IfOk-weaker c.run_twice.result _ _ (λ answer is. (
      files,
      c.in_ok-files.ensures,
      subst (λ ns. IsJudged (RunsTwice c.args.number) main ns files answer) names (judged_program (RunsTwice c.args.number) main given files came c.in-Program.program (length files) answer c.in_ok-judged.ensures c.in-Program.is (is (length files)) refl),
    )) c.run_twice.ensures

pub returns : goal.returns
returns g c =
    let files = map (λ f. f.items) c.in_ok-files.files.items in
    let main = encoded_text STRESS_MAIN.now in
    let given = map string_bytes c.as_slice.result.now in
    let names : given ≡ stress_names = ap (map string_bytes) c.as_slice.ensures.value ∙ c.in_ok-names.ensures in
    let answer = c.in-Other.answer in (
      files,
      c.in_ok-files.ensures,
      subst (λ ns. IsJudged (RunsTwice c.args.number) main ns files answer) names (judged_other (RunsTwice c.args.number) main given files c.in_ok-judged.judged answer c.in_ok-judged.ensures c.in-Other.is),
    )
