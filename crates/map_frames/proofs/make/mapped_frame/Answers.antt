use Rattle.std.proofs.Common.{◌≡◌, refl, reverse, subst}
use Rattle.type_rules.specs.Environment.{padded}
use Rattle.type_rules.specs.MapFrames.{item_type, item_words}
use Rattle.map_frames.specs.Making.{IsStack}
use Rattle.map_frames.specs.Mapped.{only_word}
use Rattle.map_frames.proofs.MadeLaws.{begun, mapped_is}
use Rattle.map_frames.proofs.make.mapped_frame.Goals as goal

pub returns-clause-made : goal.returns-clause-made
returns-clause-made g c = λ ws are.
    let old = c.args.stores.now in
    let now = c.with_types.new.stores in
    let frame = c.in_ok-frame.frame in
    let locals = padded old.locals.most ws in
    let words = item_words (item_type (g.P.PoolOperands.operands c.args.pool.now) c.args.entry.now.words.items) c.args.stack.now in
    mapped_is old now c.keep.new.self c.args.locals _ c.args.entry.now.constructs ws words c.in_ok-frame.ensures.follows c.keep.ensures.kept c.requires.kept are refl
    (subst (λ e. c.only_word-only.result ≡ only_word (reverse (item_words (item_type (g.P.PoolOperands.operands c.args.pool.now) e) c.args.stack.now))) c.as_slice-2.ensures.value c.only_word-only.ensures)
    (subst (λ b. IsStack now frame locals b words) c.is_unset.ensures
    (subst (λ e. IsStack now frame locals c.is_unset.result (item_words (item_type (g.P.PoolOperands.operands c.args.pool.now) e) c.args.stack.now)) c.as_slice.ensures.value
    (c.in_ok-frame.ensures.words locals c.is_unset.result (begun old c.args.locals _ ws are refl refl refl))))
    refl c.are_some.ensures
