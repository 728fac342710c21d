use Rattle.std.proofs.Common.{◌∙◌, arith, length-append, ℕ}
use Rattle.std.specs.Prelude.{Option}
use Rattle.instructions.proofs.NumberingLaws.{IsSameAt-push}
use Rattle.instructions.proofs.numbering.make_room.Goals as goal

pub loop-preserved : goal.loop-preserved
loop-preserved c =
    rw c.in_ok-push.ensures.items
    ((λ at. IsSameAt-push c.loop.numbers.items at ∙ c.loop.invariant.0 at), omega (arith, c.loop.invariant.1, length-append {A = Option ℕ}))
