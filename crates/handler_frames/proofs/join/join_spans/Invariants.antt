use Rattle.std.proofs.Common.{take}
use Rattle.typing_frames.specs.declared.stores.FrameStores.{FrameStores}
use Rattle.handler_frames.specs.Spans.{AreListed, AreWithin}
use Rattle.handler_frames.proofs.join.join_spans.Given as goal

abbrev pub invariant-loop-span : goal.invariant-loop-span
invariant-loop-span l = record {
  within : AreWithin (take l.span-index l.span-items) l.joined.items;
  kept : (stores : FrameStores) → AreListed stores l.span-items → AreListed stores l.joined.items;
}
