use Rattle.typing_frames.proofs.FrameLaws.{Taking}
use Rattle.typing_frames.proofs.stores.FrameStores.take.Given as goal

abbrev pub invariant-loop : goal.invariant-loop
invariant-loop l = Taking l.fn.self l.fn.frame l.self l.made l.counter
