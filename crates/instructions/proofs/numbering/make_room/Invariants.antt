use Rattle.std.proofs.Common.{◌≤◌, length}
use Rattle.instructions.specs.Numbering.{IsSameAt}
use Rattle.instructions.proofs.numbering.make_room.Given as goal

abbrev pub invariant-loop : goal.invariant-loop
invariant-loop l = IsSameAt l.fn.numbers.items l.numbers.items × (l.counter ≤ length l.numbers.items)
