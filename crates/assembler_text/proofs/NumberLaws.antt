-- Numbering line by line gives the lines of a text.
use Rattle.std.proofs.Common.{◌≡◌, ℕ, ◌+◌, ◌-◌, ◌≤◌, true, false, List, [], ◌∷◌, ◌++◌, length, Option, Some, None, refl, sym, ap, ◌∙◌, subst, inl, inr, arith, append_assoc}
use Rattle.std.proofs.lemmas.List.{append-nil}
use Rattle.assembler_lines.specs.declared.line.Line.{Line}
use Rattle.assembler_lines.specs.Lines.{IsLine}
use Rattle.assembler_text.specs.declared.lines.Numbered.{Numbered}
use Rattle.assembler_text.specs.declared.lines.TextLines.{TextLines}
use Rattle.assembler_text.specs.TextLines.{lines, most_bytes, SaysAt, is_passed, IsNext, AreNumbered, AreLinesOf}
use Rattle.assembler_text.specs.Reading.{IsFirstLine}

-- the lines up to what is left of a text
pub record NumberedSoFar (text rest : List ℕ) (number : ℕ) (made : List Numbered) : Type 0 where
  pub at : ℕ
  pub placed : length text ≡ at + length rest
  pub counted : number + length (lines rest) ≡ length (lines text) + 1
  pub bounded : number ≤ at + 1
  pub back : (more : List Numbered) → AreNumbered number at (lines rest) more → AreNumbered 1 0 (lines text) (made ++ more)
  pub on : (all : List Numbered) → AreNumbered 1 0 (lines text) all → (more : List Numbered) × (all ≡ made ++ more) × AreNumbered number at (lines rest) more

pub numbered_none : (text : List ℕ) → NumberedSoFar text text 1 []
numbered_none text = record {
  at = 0;
  placed = omega arith;
  counted = omega arith;
  bounded = omega arith;
  back = λ more h. h;
  on = λ all h. (all, refl, h);
}

abbrev pub item : ℕ → Option Line → Numbered
item number said = record { number = number; line = said }

-- ---- a line before others

module _ (number at size : ℕ) (line : List ℕ) (others : List (List ℕ × ℕ)) (more : List Numbered) where
  passed_in : is_passed (at + size) line ≡ true → AreNumbered (number + 1) (at + size) others more → AreNumbered number at ((line, size) ∷ others) more
  passed_in e h = rw e h

  passed_out : is_passed (at + size) line ≡ true → AreNumbered number at ((line, size) ∷ others) more → AreNumbered (number + 1) (at + size) others more
  passed_out e h = rw e at h

  kept_in : is_passed (at + size) line ≡ false → IsNext number (at + size) line (AreNumbered (number + 1) (at + size) others) more → AreNumbered number at ((line, size) ∷ others) more
  kept_in e h = rw e h

  kept_out : is_passed (at + size) line ≡ false → AreNumbered number at ((line, size) ∷ others) more → IsNext number (at + size) line (AreNumbered (number + 1) (at + size) others) more
  kept_out e h = rw e at h

-- a line that is passed over
pub numbered_passed : (text rest line after : List ℕ) (number end : ℕ) (made : List Numbered) → NumberedSoFar text rest number made → IsFirstLine rest line after
    → length text ≡ length after + end → is_passed end line ≡ true → NumberedSoFar text after (number + 1) made
numbered_passed text rest line after number end made so_far f ends passed =
    let cut : lines rest ≡ (line, f.size) ∷ lines after = f.cut in
    let counted : length (lines rest) ≡ length (lines after) + 1 = rw cut (omega arith) in
    let c = so_far.counted in
    let p = so_far.placed in
    let b = so_far.bounded in
    let m = f.measured in
    let s = f.some in
    let place : end ≡ so_far.at + f.size = omega arith in
    let there : is_passed (so_far.at + f.size) line ≡ true = subst (λ (e : ℕ). is_passed e line ≡ true) place passed in
    record {
      at = so_far.at + f.size;
      placed = omega arith;
      counted = omega arith;
      bounded = omega arith;
      back = λ more h.
          so_far.back more (subst (λ (pieces : List (List ℕ × ℕ)). AreNumbered number so_far.at pieces more) (sym cut) (passed_in number so_far.at f.size line (lines after) more there h));
      on = λ all h.
          let o = so_far.on all h in
          (o.0, o.1, passed_out number so_far.at f.size line (lines after) o.0 there (subst (λ (pieces : List (List ℕ × ℕ)). AreNumbered number so_far.at pieces o.0) cut o.2));
    }

-- the first of the lines that follow
first_is : (number end : ℕ) (line : List ℕ) (AreOthers : List Numbered → Type 0) (said : Option Line) (more : List Numbered)
    → ((other : Option Line) → SaysAt end line other → said ≡ other) → IsNext number end line AreOthers more
    → (left : List Numbered) × (more ≡ item number said ∷ left) × AreOthers left
first_is number end line AreOthers said [] only h = absurd h
first_is number end line AreOthers said (first ∷ left) only h =
    (left, ap (λ (n : ℕ). item n first.line ∷ left) h.0 ∙ ap (λ (l : Option Line). item number l ∷ left) (sym (only first.line h.1)), h.2)

-- a line that is kept
pub numbered_more : (text rest line after : List ℕ) (number end : ℕ) (said : Option Line) (made : List Numbered) → NumberedSoFar text rest number made → IsFirstLine rest line after
    → length text ≡ length after + end → is_passed end line ≡ false → SaysAt end line said → ((other : Option Line) → SaysAt end line other → said ≡ other)
    → NumberedSoFar text after (number + 1) (made ++ item number said ∷ [])
numbered_more text rest line after number end said made so_far f ends kept says only =
    let cut : lines rest ≡ (line, f.size) ∷ lines after = f.cut in
    let counted : length (lines rest) ≡ length (lines after) + 1 = rw cut (omega arith) in
    let c = so_far.counted in
    let p = so_far.placed in
    let bound = so_far.bounded in
    let m = f.measured in
    let s = f.some in
    let place : end ≡ so_far.at + f.size = omega arith in
    let there : is_passed (so_far.at + f.size) line ≡ false = subst (λ (e : ℕ). is_passed e line ≡ false) place kept in
    let says_there : SaysAt (so_far.at + f.size) line said = subst (λ (e : ℕ). SaysAt e line said) place says in
    let only_there : (other : Option Line) → SaysAt (so_far.at + f.size) line other → said ≡ other = λ other o. only other (subst (λ (e : ℕ). SaysAt e line other) (sym place) o) in
    record {
      at = so_far.at + f.size;
      placed = omega arith;
      counted = omega arith;
      bounded = omega arith;
      back = λ more h.
          subst (AreNumbered 1 0 (lines text)) (sym (append_assoc made (item number said ∷ []) more))
          (so_far.back (item number said ∷ more) (subst (λ (pieces : List (List ℕ × ℕ)). AreNumbered number so_far.at pieces (item number said ∷ more)) (sym cut) (kept_in number so_far.at f.size line (lines after) (item number said ∷ more) there (refl, says_there, h))));
      on = λ all h.
          let o = so_far.on all h in
          let x = first_is number (so_far.at + f.size) line (AreNumbered (number + 1) (so_far.at + f.size) (lines after)) said o.0 only_there (kept_out number so_far.at f.size line (lines after) o.0 there (subst (λ (pieces : List (List ℕ × ℕ)). AreNumbered number so_far.at pieces o.0) cut o.2)) in
          (x.0, o.1 ∙ (ap (λ (ms : List Numbered). made ++ ms) x.1 ∙ sym (append_assoc made (item number said ∷ []) x.0)), x.2);
    }

pub left_fits : (text rest line after : List ℕ) (number : ℕ) (made : List Numbered) → NumberedSoFar text rest number made → IsFirstLine rest line after → length text ≡ length after + (length text - length after)
left_fits text rest line after number made so_far f =
    let p = so_far.placed in
    let m = f.measured in
    omega arith

-- ---- the text's end

abbrev pub text_lines : List Numbered → ℕ → TextLines
text_lines made behind = record { lines = made; behind = behind }

at_end : (text rest : List ℕ) (number : ℕ) (made : List Numbered) → NumberedSoFar text rest number made → rest ≡ [] → number ≡ length (lines text) + 1
at_end text rest number made so_far e =
    let c : number + length (lines []) ≡ length (lines text) + 1 = subst (λ (r : List ℕ). number + length (lines r) ≡ length (lines text) + 1) e so_far.counted in
    omega arith

pub numbered_all : (text rest : List ℕ) (number : ℕ) (made : List Numbered) → NumberedSoFar text rest number made → rest ≡ [] → AreLinesOf text (text_lines made number)
numbered_all text rest number made so_far e =
    let none : AreNumbered number so_far.at (lines rest) [] = subst (λ (r : List ℕ). AreNumbered number so_far.at (lines r) []) (sym e) refl in
    record {
      numbered = subst (AreNumbered 1 0 (lines text)) (append-nil made) (so_far.back [] none);
      behind = at_end text rest number made so_far e;
    }

pub numbered_only : (text rest : List ℕ) (number : ℕ) (made : List Numbered) → NumberedSoFar text rest number made → rest ≡ [] → (others : TextLines) → AreLinesOf text others → text_lines made number ≡ others
numbered_only text rest number made so_far e others are =
    let o = so_far.on others.lines are.numbered in
    let none : o.0 ≡ [] = subst (λ (r : List ℕ). AreNumbered number so_far.at (lines r) o.0) e o.2 in
    let same : others.lines ≡ made = o.1 ∙ (ap (λ (ms : List Numbered). made ++ ms) none ∙ append-nil made) in
    let number_same : number ≡ others.behind = at_end text rest number made so_far e ∙ sym are.behind in
    ap (λ (ms : List Numbered). text_lines ms number) (sym same) ∙ ap (λ (n : ℕ). text_lines others.lines n) number_same

-- ---- what one line says

pub said_only : (end : ℕ) (line : List ℕ) (found : Line) → end ≤ most_bytes → ((l : Line) → IsLine line l → found ≡ l) → IsLine line found → (other : Option Line) → SaysAt end line other → Some found ≡ other
said_only end line found fits only is None h = elim h [ inl big ↦ absurd (omega arith) | inr none ↦ absurd (none found is) ]
said_only end line found fits only is (Some other) h = ap (λ (l : Line). Some l) (only other h.1)

pub nothing_only : (end : ℕ) (line : List ℕ) → ((l : Line) → IsLine line l → ⊥) → (other : Option Line) → SaysAt end line other → None ≡ other
nothing_only end line none None h = refl
nothing_only end line none (Some other) h = absurd (none other h.1)
