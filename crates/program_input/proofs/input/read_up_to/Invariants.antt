use Rattle.std.proofs.Common.{vec_len, ◌-◌}
use Rattle.program_input.proofs.Inputs.{Reads}
use Rattle.program_input.proofs.input.read_up_to.Given as goal

abbrev pub invariant-pieces : goal.invariant-pieces
invariant-pieces g l = Reads (g.I.Source.left l.initial.input) (g.I.Source.left l.input) (g.I.Source.taken l.initial.input) (g.I.Source.taken l.input) l.bytes.items l.most (g.I.Source.faults l.initial.input) (g.I.Source.faults l.input)

abbrev pub decreases-pieces : goal.decreases-pieces
decreases-pieces g l = l.most - vec_len l.bytes
