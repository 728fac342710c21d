use Rattle.std.proofs.Common.{◌≡◌, map, take}
use Rattle.type_rules.specs.Environment.{Environment}
use Rattle.type_rules.specs.Environments.{typed_handler}
use Rattle.typing_frames.specs.declared.stores.FrameStores.{FrameStores}
use Rattle.handler_frames.specs.Methods.{AreHandlersOf, AreMade}
use Rattle.handler_frames.specs.Spans.{AreListed, FindsSpans}
use Rattle.handler_frames.proofs.find.find_spans.Given as goal

abbrev pub invariant-loop-handler : goal.invariant-loop-handler
invariant-loop-handler g l = record {
  kept : (stores : FrameStores) → AreMade stores l.method → AreListed stores l.found.spans.items;
  finds : (stores : FrameStores) (env : Environment) → env.hierarchy ≡ g.H.ClassHierarchy.hierarchy l.hierarchy → AreHandlersOf env stores (g.P.PoolOperands.operands l.pool) l.method
      → FindsSpans env stores (map (typed_handler (g.P.PoolOperands.operands l.pool)) (take l.handler-index l.method.handlers.now)) l.found.limit l.found.spans.items;
}
