-- What a turn reports where a monitor was left.
use Rattle.std.proofs.Common.{◌≡◌, List, [], ◌∷◌, Some, refl}
use Rattle.op_core.specs.declared.Reply.{Reply}
use Rattle.op_core.specs.declared.Next.{Next}
use Rattle.step_port.specs.declared.step.Step.{Step}
use Rattle.step_port.specs.Steps.{effect_of}
use Rattle.thread_automaton.specs.declared.Held.{Held}
use Rattle.thread_automaton.specs.Monitors.{left_with}
use Rattle.thread_automaton.specs.Told.{shown, told_by, told_unseen}

pub left_shown : (held : List Held) → shown (left_with held) ≡ Some Reply.Done
left_shown [] = refl
left_shown (r ∷ held) = refl

pub left_unseen : (next : Next) (step : Step) (held : List Held) → told_unseen next step (left_with held) ≡ told_by step (effect_of step) next
left_unseen next step [] = refl
left_unseen next step (r ∷ held) = refl
