-- The answer to a request, of what was found for it.
use Rattle.std.proofs.Common.{◌≡◌, ℕ, List, Option, sym, subst}
use Rattle.command_words.specs.declared.request.Request.{Request}
use Rattle.encoded_texts.specs.Encoded.{encoded_text}
use Rattle.program_accept.specs.Accepted.{Accepted}
use Rattle.program_answers.specs.declared.answer.Answer.{Answer}
use Rattle.jrev_top.specs.Headline.{Outside, IsOfProgram, IsAnswer}

-- the answer of a command over the program of a folder
pub program-asked : (request known : Option Request) (answers : ℕ → Accepted → Answer → Type 0) (dir main dir-given main-given : List ℕ) (outside : Outside) (answer : Answer)
    → request ≡ known → dir-given ≡ dir → main-given ≡ main → (IsOfProgram answers dir (encoded_text main) outside answer → IsAnswer known outside answer)
    → IsOfProgram answers dir-given (encoded_text main-given) outside answer → IsAnswer request outside answer
program-asked request known answers dir main dir-given main-given outside answer is same-dir same-main means of =
    let Of : Option Request → Type 0 = λ r. IsAnswer r outside answer in
    let In : List ℕ → Type 0 = λ d. IsOfProgram answers d (encoded_text main) outside answer in
    let From : List ℕ → Type 0 = λ m. IsOfProgram answers dir-given (encoded_text m) outside answer in
    subst Of (sym is) (means (subst In same-dir (subst From same-main of)))
