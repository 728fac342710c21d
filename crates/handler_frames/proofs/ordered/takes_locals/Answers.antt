use Rattle.std.proofs.Common.{◌∙◌}
use Rattle.type_lists.specs.Store.{word_at}
use Rattle.type_lists.proofs.ListLaws.{first_count}
use Rattle.type_lists.proofs.SetLaws.{on_ok}
use Rattle.typing_frames.specs.Frames.{shown}
use Rattle.handler_frames.proofs.RuleLaws.{passing_locals, inside_locals}
use Rattle.handler_frames.proofs.ordered.takes_locals.Goals as goal

pub returns-then-map-clause-told : goal.returns-then-map-clause-told
returns-then-map-clause-told g c = λ frame maps.
    let store = c.args.stores.now.locals in
    passing_locals (g.H.ClassHierarchy.hierarchy c.args.hierarchy.now) c.args.stores.now c.args.map frame (shown c.args.stores.now c.args.frame).locals maps
    (first_count (word_at store c.args.frame.locals) store.most) c.if-map.true

pub returns-clause-told : goal.returns-clause-told
returns-clause-told g c = λ frame maps.
    let store = c.args.stores.now.locals in
    let same =
    inside_locals (g.H.ClassHierarchy.hierarchy c.args.hierarchy.now) c.args.stores.now c.args.map frame (shown c.args.stores.now c.args.frame).locals maps
    (first_count (word_at store c.args.frame.locals) store.most) c.if-map.false in
    on_ok _ _ c.are_assignable.result (λ b told. told ∙ same) (c.are_assignable.ensures.locals store.most store.most c.requires.frame.locals_end c.requires.map.end)
