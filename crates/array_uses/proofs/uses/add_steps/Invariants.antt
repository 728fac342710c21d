use Rattle.std.proofs.Common.{List, take}
use Rattle.code_decode.specs.declared.code.ClassUnit.{ClassUnit}
use Rattle.array_uses.specs.Most.{MostGrows}
use Rattle.array_uses.specs.Uses.{IsFileOf, AreRight, arrays_of_steps}
use Rattle.array_uses.proofs.uses.add_steps.Given as goal

abbrev pub invariant-loop-step : goal.invariant-loop-step
invariant-loop-step l = (us : List ClassUnit) → IsFileOf us l.file l.unit l.types l.order → AreRight us l.file l.unit l.steps →
    MostGrows us l.order l.initial.most.items l.most.items (arrays_of_steps l.unit.file.pool (take l.step-index l.steps))
