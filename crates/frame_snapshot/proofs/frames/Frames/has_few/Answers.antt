use Rattle.std.proofs.Common.{◌≤◌, reverse, take, subst, arith}
use Rattle.std.proofs.lemmas.List.{length-map}
use Rattle.frame_snapshot.specs.FrameStack.{frame_count}
use Rattle.frame_snapshot.specs.Layout.{frame_in}
use Rattle.frame_snapshot.proofs.frames.Frames.has_few.Goals as goal

pub returns : goal.returns
returns c =
    let frame = frame_in (take c.self.inside.here.base c.self.inside.words.items) in
    subst (λ s. frame_count s ≤ 1024) c.self.view_is
    (omega (arith, c.self.invariant.count, length-map (reverse c.self.inside.below.items) frame))
