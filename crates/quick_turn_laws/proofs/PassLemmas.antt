-- Usual turns pass by.
use Rattle.std.proofs.Common.{◌≡◌, ℕ, ◌&&◌, not, Bool, true, false, None, Some, List, [], ◌∷◌, refl, sym, ◌∙◌, ap}
use Rattle.std.specs.List.{list_all}
use Rattle.std.proofs.lemmas.Bool.{and_parts}
use Rattle.op_core.specs.declared.Next.{Next}
use Rattle.op_core.specs.ThreadCode.{Code}
use Rattle.step_port.specs.declared.answer.StepAnswer.{StepAnswer}
use Rattle.step_port.specs.declared.step.Step.{Step}
use Rattle.step_port.specs.declared.step.Step.TheVariants.{LoadWord, SwapWord, LoadSection, LoadClass}
use Rattle.step_port.specs.Steps.{kind_of}
use Rattle.step_port.specs.Words.{Words, words_after}
use Rattle.thread_automaton.specs.declared.Bounds.{Bounds}
use Rattle.thread_automaton.specs.ThreadState.{ThreadState}
use Rattle.thread_automaton.specs.Told.{Told, probed, advanced, born, lost, blocked, after_answer, after_quiet}
use Rattle.turn_runs.specs.declared.looks.Looks.{Looks}
use Rattle.turn_runs.specs.Turns.{TurnMove, silent, made}
use Rattle.turn_runs.specs.Looks.{looks_at, shows, passes, move_passes}
use Rattle.quick_turns.specs.Usual.{goes_through, is_usual_step, AreUsual}
use Rattle.quick_turn_laws.specs.Laws.{LetsUsualPass, UsualTurnsPass}

both : (t u : Bool) → t ≡ true → u ≡ true → (t && u) ≡ true
both true u one two = two
both false u one two = one

unseen : (t : Bool) → not (t && false) ≡ true
unseen true = refl
unseen false = refl

module _ (looks : Looks) (lets : LetsUsualPass looks) where
  passed : (t events : Bool) (k : ℕ) → events ≡ false → looks_at looks k ≡ false → (not (looks_at looks k) && not (t && events)) ≡ true
  passed t events k none unseen_kind = both _ _ (ap not unseen_kind) (ap (λ e. not (t && e)) none ∙ unseen t)

  by_told : (k : ℕ) (next : Next) (tells : Told) → looks_at looks k ≡ false → goes_through tells ≡ true → passes looks k next tells ≡ true
  by_told k next probed unlooked through = passed false looks.events k lets.events unlooked
  by_told k next (advanced reply) unlooked through = passed (shows next (advanced reply)) looks.events k lets.events unlooked
  by_told k next born unlooked through = cc
  by_told k next (lost v) unlooked through = cc
  by_told k next (blocked why) unlooked through = cc

  by_step : (w : Words) (step : Step) (next : Next) (tells : Told) → is_usual_step w step ≡ true → goes_through tells ≡ true → passes looks (kind_of step) next tells ≡ true
  by_step w (LoadWord at) next tells usual through = by_told 1 next tells lets.loads through
  by_step w (LoadSection s) next tells usual through = by_told 6 next tells lets.sections through
  by_step w (LoadClass c) next tells usual through = by_told 25 next tells lets.classes through
  by_step w (SwapWord at old new) next tells usual through = by_told 2 next tells lets.exchanges through
  by_step w step next tells usual through = absurd cc

pub usual_pass : {S P : Type 0} (code : Code S) (stepped : P → Step → StepAnswer → P → Type 0) → UsualTurnsPass code stepped
usual_pass code stepped b looks w th last x y [] lets turns are = refl
usual_pass code stepped b looks w th last x y (silent ∷ moves) lets (l, is, quiet, turns) are =
    usual_pass code stepped b looks w (after_quiet th l) last x y moves lets turns (are.1 l quiet)
usual_pass code stepped b looks w th last x y (made next step answer tells ∷ moves) lets (z, wants, is, stepped_to, can, tells_is, turns) are =
    let (step_usual, through) = and_parts (is_usual_step w step) (goes_through tells) are.1 in
    both _ _ (by_step looks lets w step next tells step_usual through)
    (usual_pass code stepped b looks (words_after step w) (after_answer code b th step answer) last z y moves lets turns are.2)
