use Rattle.std.proofs.Common.{◌≢◌}
use Rattle.std.specs.List.{AllByRecursion}
use Rattle.code_frames.proofs.NumberLaws.{steps_apart}
use Rattle.code_frames.proofs.frames.Frames.push.Goals as goal

pub push-numbered-requires-clause-apart : goal.push-numbered-requires-clause-apart
push-numbered-requires-clause-apart c =
    let apart : AllByRecursion (λ f. f.step ≢ c.args.frame.step) c.self.inside.frames.items = rw c.self.view_is c.requires.apart in
    rw c.self.invariant (steps_apart c.self.inside.frames.items c.args.frame.step apart)
