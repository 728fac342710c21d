use Rattle.std.proofs.Common.{arith}
use Rattle.typing_frames.proofs.FrameLaws.{most_fits}
use Rattle.typing_frames.proofs.stores.FrameStores.without_half.Goals as goal

pub overflow_add-at : goal.overflow_add-at
overflow_add-at c = omega (arith, c.requires.place, most_fits c.args.self.now.locals)
