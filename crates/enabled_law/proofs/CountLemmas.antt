-- A turn that doesn't count leaves the words as they are.
use Rattle.std.proofs.Common.{◌≡◌, ◌||◌, Bool, true, false, refl, sym, ◌∙◌, ap}
use Rattle.op_core.specs.declared.Next.{Next}
use Rattle.op_core.specs.ThreadCode.{Code}
use Rattle.step_port.specs.declared.answer.StepAnswer.{StepAnswer}
use Rattle.step_port.specs.declared.answer.StepAnswer.TheVariants.{Found, Done, Lost}
use Rattle.step_port.specs.declared.step.Effect.{Effect}
use Rattle.step_port.specs.declared.step.Effect.TheVariants.{Load, Store, Exchange, Add}
use Rattle.step_port.specs.declared.step.Step.{Step}
use Rattle.step_port.specs.Steps.{place_of, effect_of}
use Rattle.step_port.specs.Words.{Words, put_by, answer_of, words_after}
use Rattle.thread_automaton.specs.declared.Bounds.{Bounds}
use Rattle.thread_automaton.specs.ThreadState.{ThreadState}
use Rattle.thread_automaton.specs.Changes.{Change}
use Rattle.thread_automaton.specs.Answers.{change_of}
use Rattle.thread_automaton.specs.Told.{shown, told_of, told}
use Rattle.automaton_rows.specs.Rows.{Row, is_lost}
use Rattle.automaton_rows.proofs.RowLemmas.{answers_are_rows, words_can_answer}
use Rattle.section_laws.proofs.WordLemmas.{lost}
use Rattle.section_laws.proofs.RunLemmas.{facts_at}
use Rattle.enabled_law.specs.TurnsAlone.{counts}
use Rattle.enabled_law.specs.Laws.{UncountedTurnsLeaveWords}

abbrev is_load : Effect → Bool
is_load Load = true
is_load effect = false

abbrev is_lost_answer : StepAnswer → Bool
is_lost_answer (Lost v) = true
is_lost_answer answer = false

-- each step that is neither a load nor a lost exchange counts
counted_row : {S : Type 0} {code : Code S} {b : Bounds} {th : ThreadState S} {next : Next} {step : Step} {a : StepAnswer} {change : Change}
    → Row code b th next step a change → (is_lost_answer a || is_load (effect_of step) || counts (told_of next step a change (shown change))) ≡ true
counted_row is_lost = refl
counted_row row = refl

pub uncounted_leave : {S : Type 0} (code : Code S) → UncountedTurnsLeaveWords code
uncounted_leave {S} code b c acts run k t th step within at makes uncounted =
    by_answer (answer_of w step) refl (counted_row (answers_are_rows code b th step (answer_of w step) ((facts_at code b c acts run k within).fit t th at).attempt makes (words_can_answer w step)))
  where
    w : Words
    w = (c k).words

    change : StepAnswer → Change
    change a = change_of code b th (code.next th.local) step a

    by_load : (e : Effect) → is_load e ≡ true → put_by e w (place_of step) ≡ w
    by_load Load is = refl
    by_load (Store v) is = cc
    by_load (Exchange old new) is = cc
    by_load (Add n) is = cc

    by_effect : (x y : Bool) → x ≡ is_load (effect_of step) → (x || y) ≡ true → y ≡ false → words_after step w ≡ w
    by_effect true y is some none = by_load (effect_of step) (sym is)
    by_effect false true is some none = cc
    by_effect false false is some none = cc

    by_answer : (a : StepAnswer) → answer_of w step ≡ a
        → (is_lost_answer (answer_of w step) || is_load (effect_of step) || counts (told_of (code.next th.local) step (answer_of w step) (change (answer_of w step)) (shown (change (answer_of w step))))) ≡ true
        → words_after step w ≡ w
    by_answer (Lost v) is some = lost (effect_of step) w (place_of step) v (sym is)
    by_answer (Found v) is some =
        by_effect (is_load (effect_of step)) (counts (told code b th step (answer_of w step))) refl
        (ap (λ x. x || is_load (effect_of step) || counts (told code b th step (answer_of w step))) (sym (ap is_lost_answer is)) ∙ some) uncounted
    by_answer Done is some =
        by_effect (is_load (effect_of step)) (counts (told code b th step (answer_of w step))) refl
        (ap (λ x. x || is_load (effect_of step) || counts (told code b th step (answer_of w step))) (sym (ap is_lost_answer is)) ∙ some) uncounted
