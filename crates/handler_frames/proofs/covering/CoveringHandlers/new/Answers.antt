use Rattle.std.proofs.Common.{refl}
use Rattle.handler_frames.proofs.KnownLaws.{fits_first, known_first}
use Rattle.handler_frames.proofs.covering.CoveringHandlers.new.Goals as goal

pub returns-clause-fits : goal.returns-clause-fits
returns-clause-fits g c =
    let stores = c.args.stores.now in
    fits_first (g.H.ClassHierarchy.hierarchy c.args.hierarchy.now) stores _ c.in_ok-spans.ensures.sorted
    (c.in_ok-spans.ensures.kept stores (c.in_ok-found.ensures.kept stores c.requires.made)) c.new.ensures.items c.tops.ensures.kept c.tops.ensures.words c.given_back.ensures refl

pub returns-clause-knows : goal.returns-clause-knows
returns-clause-knows g c = λ env same are.
    known_first env c.args.stores.now _ _ _ _ (c.in_ok-found.ensures.finds c.args.stores.now env same are) c.in_ok-spans.ensures.within
