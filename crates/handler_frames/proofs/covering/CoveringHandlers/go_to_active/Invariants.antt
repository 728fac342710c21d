use Rattle.std.proofs.Common.{◌≡◌, ◌-◌, length}
use Rattle.typing_frames.specs.Frames.{LeavesFrames, StoresRemember}
use Rattle.handler_frames.specs.Known.{AreStill, FitsStores, HasSameSpans}
use Rattle.handler_frames.proofs.covering.CoveringHandlers.go_to_active.Given as goal

abbrev pub invariant-loop-span : goal.invariant-loop-span
invariant-loop-span g l = record {
  leaves : LeavesFrames l.fn.stores l.stores;
  remembered : StoresRemember (g.H.ClassHierarchy.hierarchy l.hierarchy) l.stores;
  fits : FitsStores (g.H.ClassHierarchy.hierarchy l.hierarchy) l.stores l.self;
  still : AreStill l.stores l.self;
  same : HasSameSpans l.fn.self l.self;
  locals : l.self.locals ≡ l.fn.self.locals;
}

abbrev pub decreases-loop-span : goal.decreases-loop-span
decreases-loop-span g l = length l.self.active.items - l.self.held
