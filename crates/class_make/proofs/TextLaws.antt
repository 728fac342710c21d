-- What a text is assembled to is one thing.
use Rattle.std.proofs.Common.{◌≡◌, ℕ, List, Result, sym, ap, ◌∙◌, subst}
use Rattle.assembler_text.specs.declared.lines.TextLines.{TextLines}
use Rattle.assembler_text.specs.TextLines.{AreLinesOf}
use Rattle.assembler_text.proofs.OneLaws.{one_text}
use Rattle.class_make.specs.declared.refusal.MakeRefusal.{MakeRefusal}
use Rattle.class_make.specs.Assembly.{Answers, assembled}
use Rattle.class_make.specs.Texts.{IsAssembled, front}

-- what these lines are assembled to is what any lines of the text are
same_answer : (text : List ℕ) (lines : TextLines) (answer : Result (List ℕ) ℕ) → AreLinesOf (front text) lines → IsAssembled text answer → assembled lines.behind lines.lines ≡ answer
same_answer text lines answer are is =
    ap (λ (l : TextLines). assembled l.behind l.lines) (one_text (front text) lines is.lines are is.are_lines) ∙ is.answered

pub one_answer : (text : List ℕ) (a b : Result (List ℕ) ℕ) → IsAssembled text a → IsAssembled text b → a ≡ b
one_answer text a b h k = sym h.answered ∙ same_answer text h.lines b h.are_lines k

-- what is answered of the front of a text is answered of the text
pub answers_text : {Z : Type 0} (text cut : List ℕ) (lines : TextLines) (result : Result Z MakeRefusal) (items : Z → List ℕ) → cut ≡ front text → AreLinesOf cut lines
    → Answers result items (assembled lines.behind lines.lines) → (answer : Result (List ℕ) ℕ) → IsAssembled text answer → Answers result items answer
answers_text text cut lines result items same are answered answer is =
    let of_front : AreLinesOf (front text) lines = subst (λ (t : List ℕ). AreLinesOf t lines) same are in
    subst (λ (a : Result (List ℕ) ℕ). Answers result items a) (same_answer text lines answer of_front is) answered
