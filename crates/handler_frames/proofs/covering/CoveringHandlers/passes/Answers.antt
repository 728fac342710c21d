use Rattle.std.proofs.Common.{◌≡◌, None, sym, ◌∙◌, subst, arith}
use Rattle.type_lists.proofs.SetLaws.{on_ok}
use Rattle.type_rules.specs.TypeFaults.{handlers_fault}
use Rattle.handler_frames.specs.Known.{KnowsHandlers, TakesFrame}
use Rattle.handler_frames.proofs.KnownLaws.{begun_same, covered_taken, if_ok, knows_follow, knows_same}
use Rattle.handler_frames.proofs.covering.CoveringHandlers.passes.Goals as goal

pub takes-requires-clause-fits : goal.takes-requires-clause-fits
takes-requires-clause-fits g c =
    let classes = g.H.ClassHierarchy.hierarchy c.args.hierarchy.now in
    c.in_ok-begin.ensures.goes.fits classes c.args.stores.now (c.forget_for.ensures.goes.fits classes c.args.stores.now c.requires.fits)

pub returns-clause-knows : goal.returns-clause-knows
returns-clause-knows g c = λ env knows.
    let old = c.args.stores.now in
    let new = c.takes.new.stores in
    let before = c.in_ok-begin.ensures.goes.knows env old (c.forget_for.ensures.goes.knows env old knows) in
    if_ok _ _ c.takes.result (KnowsHandlers new c.takes.new.self env c.args.step)
    (knows_same new c.begin.new.self c.takes.new.self env c.args.step c.takes.ensures.same
    (knows_follow old new c.begin.new.self env c.args.step c.takes.ensures.leaves.follows before))

pub returns-clause-told : goal.returns-clause-told
returns-clause-told g c = λ env same knows.
    let old = c.args.stores.now in
    let new = c.takes.new.stores in
    let known = c.takes.new.self in
    let step = c.args.step in
    let before = c.in_ok-begin.ensures.goes.knows env old (c.forget_for.ensures.goes.knows env old knows) in
    let after = knows_same new c.begin.new.self known env step c.takes.ensures.same (knows_follow old new c.begin.new.self env step c.takes.ensures.leaves.follows before) in
    let kept = c.forget_for.ensures.goes.fits (g.H.ClassHierarchy.hierarchy c.args.hierarchy.now) old c.requires.fits in
    let begun = begun_same c.begin.new.self known step c.takes.ensures.same (c.in_ok-begin.ensures.begun kept.sorted) in
    let limit = c.takes.ensures.same.limit ∙ c.in_ok-begin.ensures.goes.limit ∙ c.forget_for.ensures.goes.limit in
    on_ok _ _ c.takes.result
    (λ b told hit.
    subst (λ f. handlers_fault env step f env.handlers ≡ None) (c.takes.ensures.leaves.same c.args.frame c.requires.frame)
    (covered_taken new known env step c.args.frame after begun (omega (arith, limit, c.if-self-step.false))
    (subst (λ h. TakesFrame h new c.args.frame known.active.items) (sym same) (told hit))))
    c.takes.ensures.told
