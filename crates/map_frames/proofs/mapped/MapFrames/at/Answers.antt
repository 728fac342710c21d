use Rattle.std.proofs.Common.{sym, ◌∙◌}
use Rattle.map_frames.proofs.AtLaws.{found_at}
use Rattle.map_frames.proofs.mapped.MapFrames.at.Goals as goal

pub returns : goal.returns
returns c = λ stores item constructs values all.
    found_at stores c.args.self.now.frames.items item constructs values c.args.frames.now c.args.step c.in_ok-number.number c.get.result
    (sym c.number_at.ensures ∙ c.in_ok-number.was) c.get.ensures all
