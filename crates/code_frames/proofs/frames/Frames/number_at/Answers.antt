use Rattle.code_frames.proofs.NumberLaws.{position_from-steps}
use Rattle.code_frames.proofs.frames.Frames.number_at.Goals as goal

pub returns : goal.returns
returns c = rw (c.number_at.ensures, c.self.invariant, ← c.self.view_is) (position_from-steps c.self.inside.frames.items c.args.step 0)
