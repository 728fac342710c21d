use Rattle.std.proofs.Common.{take, sym, ◌∙◌, arith, below_more}
use Rattle.handler_frames.proofs.KnownLaws.{first_take, span_takes}
use Rattle.handler_frames.proofs.covering.CoveringHandlers.go_at.Goals as goal

pub loop-span-preserved : goal.loop-span-preserved
loop-span-preserved g c = λ d.
    below_more _ _ (c.loop-span.invariant d)
    (span_takes (g.H.ClassHierarchy.hierarchy c.args.hierarchy.now) c.args.stores.now (take c.args.self.now.held c.deref.result.now) c.args.at c.loop-span.span-index c.word-word.result c.word.result d _
    c.word.ensures (sym c.is_assignable.ensures ∙ c.if-not-is_assignable.false) (omega (arith, c.loop-span-test.true)))

pub returns : goal.returns
returns g c = record {
  told = λ _.
      first_take (g.H.ClassHierarchy.hierarchy c.args.hierarchy.now) c.args.stores.now c.args.self.now.active.items c.deref.result.now c.args.self.now.held c.args.at c.loop-span.span-index c.args.locals c.word-word.result
      c.deref.ensures.value c.word-word.ensures c.requires.inside c.loop-span-test.false c.loop-span.invariant;
}
