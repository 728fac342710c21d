use Rattle.std.proofs.Common.{refl, arith}
use Rattle.handler_frames.proofs.KnownLaws.{differ_inside, few_locals, first_go, goes_past}
use Rattle.handler_frames.proofs.covering.CoveringHandlers.held_by.Goals as goal

pub returns-in_default-clause-go : goal.returns-in_default-clause-go
returns-in_default-clause-go g c =
    first_go (g.H.ClassHierarchy.hierarchy c.args.hierarchy.now) c.args.stores.now c.args.self.now c.args.locals c.requires.fits (c.requires.fits.holds c.requires.still) c.loop.from c.requires.end c.in_default.ensures c.loop.invariant

pub overflow_add-from : goal.overflow_add-from
overflow_add-from g c =
    omega (
      arith,
      few_locals c.args.stores.now,
      differ_inside (g.H.ClassHierarchy.hierarchy c.args.hierarchy.now) c.args.stores.now c.args.self.now c.args.locals c.requires.fits (c.requires.fits.holds c.requires.still) c.loop.from c.in-Some.at c.requires.end c.in-Some.ensures,
    )

pub loop-preserved : goal.loop-preserved
loop-preserved g c =
    goes_past (g.H.ClassHierarchy.hierarchy c.args.hierarchy.now) c.args.stores.now c.args.self.now c.args.locals c.requires.fits (c.requires.fits.holds c.requires.still) c.loop.from c.in-Some.at c.in-Some.ensures
    (c.if-not-go_at.ensures.told refl) c.loop.invariant
