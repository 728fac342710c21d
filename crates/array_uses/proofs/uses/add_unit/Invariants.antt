use Rattle.std.proofs.Common.{List, take, flat_map}
use Rattle.code_decode.specs.declared.code.ClassUnit.{ClassUnit}
use Rattle.link_rules.specs.Arrays.{steps_of_code}
use Rattle.array_uses.specs.Most.{MostGrows}
use Rattle.array_uses.specs.Uses.{IsFileOf, AreCodesRight, arrays_of_steps}
use Rattle.array_uses.proofs.uses.add_unit.Given as goal

abbrev pub invariant-loop-code : goal.invariant-loop-code
invariant-loop-code l = (us : List ClassUnit) → IsFileOf us l.file l.unit l.types l.order → AreCodesRight us l.file l.unit l.codes →
    MostGrows us l.order l.initial.most.items l.most.items (flat_map (λ code. arrays_of_steps l.unit.file.pool (steps_of_code code)) (take l.code-index l.codes))
