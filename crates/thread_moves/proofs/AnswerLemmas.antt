-- What a lost step comes to.
use Rattle.std.proofs.Common.{◌≡◌, ℕ, refl}
use Rattle.op_core.specs.declared.Next.{Next}
use Rattle.op_core.specs.ThreadCode.{Code}
use Rattle.step_port.specs.declared.answer.StepAnswer.TheVariants.{Lost}
use Rattle.step_port.specs.declared.step.ThreadWord.TheVariants.{Start, Ended}
use Rattle.step_port.specs.declared.step.Step.{Step}
use Rattle.step_port.specs.declared.step.Step.TheVariants.{LoadWord, LoadThread}
use Rattle.step_port.specs.Steps.{place_of}
use Rattle.thread_automaton.specs.declared.Bounds.{Bounds}
use Rattle.thread_automaton.specs.ThreadState.{ThreadState}
use Rattle.thread_automaton.specs.Answers.{lost_on, change_of}

pub lost_change : {S : Type 0} (code : Code S) (b : Bounds) (th : ThreadState S) (next : Next) (step : Step) (v : ℕ)
    → change_of code b th next step (Lost v) ≡ lost_on th (place_of step)
lost_change code b th next (LoadWord at) v = refl
lost_change code b th next (LoadThread (Start r)) v = refl
lost_change code b th next (LoadThread (Ended n)) v = refl
lost_change code b th next step v = refl
