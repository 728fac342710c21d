-- The lines of a text, one after another.
use Rattle.std.proofs.Common.{◌≡◌, ℕ, List, [], ◌∷◌, Some, Result, Ok, Err, refl, sym, ◌∙◌}
use Rattle.class_walk.specs.declared.class.Constant.{Constant}
use Rattle.class_walk.specs.declared.class.RawClass.{RawClass}
use Rattle.class_walk.specs.Layout.{spelling}
use Rattle.assembler_text.specs.declared.lines.Numbered.{Numbered}
use Rattle.assembler_bodies.specs.declared.refusal.BodyRefusal.{BodyRefusal}
use Rattle.assembler_bodies.specs.declared.refusal.BodyRefusal.TheVariants.{Refused, NoMemory}
use Rattle.assembler_bodies.specs.Making.{Fails}
use Rattle.class_make.specs.Class.{State, step}
use Rattle.class_make.specs.Assembly.{assembled_from, finished, refusal_at, Answers}

module _ (behind : ℕ) (rest lines : List Numbered) (numbered : Numbered) (old : List Constant) (state : State) (total : Result (List ℕ) ℕ) where
  -- a line that is right
  pub one_line : (new : List Constant) (next : State) → rest ≡ numbered ∷ lines → step lines numbered state old ≡ Some (new, next)
      → assembled_from behind rest old state ≡ total → assembled_from behind lines new next ≡ total
  one_line new next is e so_far =
      let one : assembled_from behind rest old state ≡ assembled_from behind lines new next = rw (is, e) refl in
      sym one ∙ so_far

  -- a line that is refused
  pub line_refused : {Z : Type 0} (items : Z → List ℕ) (refusal : BodyRefusal) → rest ≡ numbered ∷ lines → Fails refusal (step lines numbered state old)
      → assembled_from behind rest old state ≡ total → Answers (Err (refusal_at numbered.number refusal)) items total
  line_refused items NoMemory is e so_far = tt
  line_refused items Refused is e so_far =
      let one : assembled_from behind rest old state ≡ Err numbered.number = rw (is, e) refl in
      sym so_far ∙ one

module _ (behind : ℕ) (rest : List Numbered) (pool : List Constant) (state : State) (total : Result (List ℕ) ℕ) where
  pub all_lines : (class : RawClass) (bytes : List ℕ) → rest ≡ [] → finished state pool ≡ Some class → bytes ≡ spelling class
      → assembled_from behind rest pool state ≡ total → total ≡ Ok bytes
  all_lines class bytes is e written so_far =
      let one : assembled_from behind rest pool state ≡ Ok bytes = rw (is, e, written) refl in
      sym so_far ∙ one

  pub end_refused : {Z : Type 0} (items : Z → List ℕ) (refusal : BodyRefusal) → rest ≡ [] → Fails refusal (finished state pool)
      → assembled_from behind rest pool state ≡ total → Answers (Err (refusal_at behind refusal)) items total
  end_refused items NoMemory is e so_far = tt
  end_refused items Refused is e so_far =
      let one : assembled_from behind rest pool state ≡ Err behind = rw (is, e) refl in
      sym so_far ∙ one
