use Rattle.std.proofs.Common.{arith, ◌∙◌}
use Rattle.type_lists.proofs.SetLaws.{on_ok}
use Rattle.map_frames.proofs.TakesLaws.{passing_apart, deeper_apart, inside_tells}
use Rattle.map_frames.proofs.mapped.MappedFrame.takes.Goals as goal

pub returns-then-self-clause-told : goal.returns-then-self-clause-told
returns-then-self-clause-told g c = λ env g' same maps. passing_apart env c.args.stores.now c.args.frame c.args.self g' maps c.if-self.true

pub returns-then-frame-self-clause-told : goal.returns-then-frame-self-clause-told
returns-then-frame-self-clause-told g c = λ env g' same maps. deeper_apart env c.args.stores.now c.args.frame c.args.self g' maps c.if-frame-self.true

pub returns-clause-told : goal.returns-clause-told
returns-clause-told g c = λ env g' same maps.
    let depth = maps.depth in
    let inside = inside_tells env c.args.stores.now c.args.frame c.args.self g' maps c.if-self.false (omega (arith, depth, c.if-frame-self.false, c.requires.frame.room)) in
    on_ok _ _ c.is_frame_assignable.result (λ b told. told ∙ inside) (c.is_frame_assignable.ensures.told env same)
