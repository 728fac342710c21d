use Rattle.std.proofs.Common.{◌≡◌, ◌-◌, length}
use Rattle.handler_frames.specs.Known.{GoesOn}
use Rattle.handler_frames.proofs.covering.CoveringHandlers.begin.Given as goal

abbrev pub invariant-loop : goal.invariant-loop
invariant-loop l = record {
  goes : GoesOn l.fn.self l.self l.step;
  spans : l.self.spans.items ≡ l.fn.self.spans.items;
}

abbrev pub decreases-loop : goal.decreases-loop
decreases-loop l = length l.self.spans.items - l.self.begun
