use Rattle.std.proofs.Common.{◌≡◌, ℕ, List, [], ◌∷◌, length, chars, sym, ◌∙◌, append_assoc, append-nil, arith}
use Rattle.std.proofs.lemmas.Str.{IsUtf8-past_char, chars_past_char, chars-nil}
use Rattle.text_units.proofs.reading.units_of_text.Goals as goal

none_left : (bs : List ℕ) → length bs ≡ 0 → chars bs ≡ []
none_left [] e = chars-nil
none_left (b ∷ bs) e = grind arith

pub loop-character-preserved : goal.loop-character-preserved
loop-character-preserved c =
    let held = c.loop-character.invariant in
    let parts = c.in-Some.ensures.steps.0 in (
      IsUtf8-past_char _ _ c.in-Some.character held.0 parts,
      rw (c.in_ok-push_character.ensures, append_assoc) (rw (chars_past_char _ _ c.in-Some.character held.0 parts) at held.1),
    )

pub returns : goal.returns
returns c = sym (append-nil _) ∙ rw (none_left _ c.in-None.ensures.steps.0.0) at c.loop-character.invariant.1
