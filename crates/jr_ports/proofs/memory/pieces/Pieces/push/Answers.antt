use Rattle.jr_ports.proofs.Joined.{concat-more}
use Rattle.jr_ports.proofs.memory.pieces.Pieces.push.Goals as goal

pub invariant_of-self-in-Ok : goal.invariant_of-self-in-Ok
invariant_of-self-in-Ok c =
    concat-more c.self.inside.joined.items c.extend_from_slice.new.self.items c.args.piece.now c.self.inside.pieces.items c.push.new.self.items c.in_ok-kept.kept c.self.invariant c.in_ok-extend_from_slice.ensures.items c.in-Ok.ensures.items c.in_ok-kept.ensures.items
