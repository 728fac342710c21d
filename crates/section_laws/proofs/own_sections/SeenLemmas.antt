-- What a thread sees of its own section's word.
use Rattle.std.proofs.Common.{◌≡◌, ℕ, ◌<◌, ◌≤◌, sym, ◌∙◌, ap, subst, arith}
use Rattle.op_core.specs.ThreadCode.{Code}
use Rattle.heap_words.specs.declared.areas.Area.TheVariants.{Section}
use Rattle.section_state.specs.SectionWord.{state_of, pinned_of, revoke_of}
use Rattle.step_port.specs.declared.answer.StepAnswer.{StepAnswer}
use Rattle.step_port.specs.declared.answer.StepAnswer.TheVariants.{Found}
use Rattle.step_port.specs.declared.step.Step.{Step}
use Rattle.step_port.specs.declared.step.Step.TheVariants.{LoadSection}
use Rattle.step_port.specs.Words.{Words, answer_of}
use Rattle.thread_automaton.specs.declared.Attempt.TheVariants.{Undoing}
use Rattle.thread_automaton.specs.ThreadState.{ThreadState}
use Rattle.automaton_rows.specs.Fits.{AttemptFits, IsFit}
use Rattle.section_laws.proofs.DeedLemmas.{above}
use Rattle.section_laws.proofs.ClaimLemmas.{found_is}
use Rattle.section_laws.proofs.own_sections.ViewLemmas.{view, undone_word}
use Rattle.section_laws.proofs.own_sections.OwnLemmas.{Own}

module _ {S : Type 0} (code : Code S) (th : ThreadState S) (w : Words) (own : Own (view code th) w) where
  -- the level to which it undoes its section is open, and above all that it has seen pinned
  pub undoing_seen : IsFit code th → (v : ℕ) → th.attempt ≡ Undoing v → (th.pinned < revoke_of v) × (revoke_of v ≤ th.levels)
  undoing_seen fits v is =
      let says = own.own (above th.section (subst (AttemptFits th (code.next th.local)) is fits.attempt).section) in
      let sees = says.sees v (ap undone_word is) in
      let turned = says.says.revoking (ap state_of sees.0 ∙ sees.1) in (
        lower th.pinned (pinned_of (w (Section th.section))) (revoke_of (w (Section th.section))) (revoke_of v) says.says.pinned turned.0 (ap revoke_of sees.0),
        subst (λ n. n ≤ th.levels) (ap revoke_of sees.0) turned.1,
      )
    where
      lower : (m n p q : ℕ) → m ≤ n → n < p → p ≡ q → m < q
      lower m n p q low deep is = omega (arith, low, deep, is)

  -- when it looks at its section, that is pinned at least as deep as it had seen
  pub looked_pin : (step : Step) (a : StepAnswer) → a ≡ answer_of w step → (v : ℕ) → step ≡ LoadSection th.section → a ≡ Found v → 0 < th.section → th.pinned ≤ pinned_of v
  looked_pin step a answered v is found some =
      let answer : Found v ≡ Found (w (Section th.section)) = sym found ∙ answered ∙ ap (answer_of w) is in
      subst (λ u. th.pinned ≤ pinned_of u) (sym (found_is v (w (Section th.section)) answer)) (own.own some).says.pinned
