use Rattle.std.proofs.Common.{◌≡◌, length, map, ◌∙◌, rules}
use Rattle.std.proofs.lemmas.List.{length-map}
use Rattle.encoded_texts.specs.Encoded.{encoded_text}
use Rattle.file_answers.specs.Answers.{ComeTo}
use Rattle.file_answers.proofs.Found.{order-loaded}
use Rattle.file_answers.proofs.Answered.{loaded}
use Rattle.file_answers.proofs.loading.load_folder.Goals as goal

pub returns-in_err-files-clause-order : goal.returns-in_err-files-clause-order
returns-in_err-files-clause-order g c =
    order-loaded _ _ (g.D.ClassDir.contents c.args.classes.now) c.args.dir.now c.in_ok-names.names.items c.as_slice.result.now _ _ _
    c.in_ok-names.ensures.names c.in_err-files.ensures.asked c.in_ok-names.ensures.read (c.as_slice.ensures.value ∙ c.truncate.ensures.items) c.in_err-files.ensures.front

pub returns-clause-loaded : goal.returns-clause-loaded
returns-clause-loaded g c =
    let long : c.len-count.result ≡ length (map (λ f. f.items) c.in_ok-files.files.items) = search (length-map, rules) in
    loaded (λ names read. (c.len-count.result ≡ length read) × ComeTo (encoded_text c.args.main.now) names read c.in_ok-judged.judged) _ _ (g.D.ClassDir.contents c.args.classes.now) _ _ _ _ c.args.dir.now c.in_ok-names.names.items c.as_slice.result.now c.as_slice-2.result.now _
    c.in_ok-names.ensures.names c.in_ok-files.ensures.asked c.in_ok-names.ensures.contents c.in_ok-names.ensures.read (c.as_slice.ensures.value ∙ c.truncate.ensures.items) (c.as_slice-2.ensures.value ∙ c.truncate.ensures.items)
    c.in_ok-files.ensures.read c.in_ok-files.ensures.whole (long, c.in_ok-judged.ensures)

pub returns-clause-order : goal.returns-clause-order
returns-clause-order g c =
    order-loaded _ _ (g.D.ClassDir.contents c.args.classes.now) c.args.dir.now c.in_ok-names.names.items c.as_slice.result.now _ _ _
    c.in_ok-names.ensures.names c.in_ok-files.ensures.asked c.in_ok-names.ensures.read (c.as_slice.ensures.value ∙ c.truncate.ensures.items) c.in_ok-files.ensures.front

pub returns-in_err-judged-clause-order : goal.returns-in_err-judged-clause-order
returns-in_err-judged-clause-order g c =
    order-loaded _ _ (g.D.ClassDir.contents c.args.classes.now) c.args.dir.now c.in_ok-names.names.items c.as_slice.result.now _ _ _
    c.in_ok-names.ensures.names c.in_ok-files.ensures.asked c.in_ok-names.ensures.read (c.as_slice.ensures.value ∙ c.truncate.ensures.items) c.in_ok-files.ensures.front
