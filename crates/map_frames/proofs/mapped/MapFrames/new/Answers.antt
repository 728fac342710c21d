use Rattle.std.proofs.Common.{◌≡◌, ◌++◌, ◌+◌, Some, length, slice_get, arith, ap, subst, sym, ◌∙◌}
use Rattle.type_rules.specs.MapFrames.{item_type}
use Rattle.map_frames.proofs.MadeLaws.{Making, making_none, making_more, slice_get_of}
use Rattle.map_frames.proofs.mapped.MapFrames.new.Goals as goal

pub loop-frame-init : goal.loop-frame-init
loop-frame-init g c =
    let entry = c.args.entry.now in
    let operands = g.P.PoolOperands.operands c.args.pool.now in
    let pushed = c.in_ok-push_values.ensures in
    subst (λ m. Making c.args.stores.now c.push_values.new.stores c.push_values.new.self m (item_type operands entry.words.items) entry.constructs entry.values.items c.args.frames.now 0) (sym c.new-made.ensures.items)
    (making_none c.args.stores.now c.push_values.new.stores c.push_values.new.self operands entry.words.items entry.constructs entry.values.items c.args.frames.now
    pushed.follows pushed.remembered pushed.are
    (pushed.items ∙ ap (λ xs. xs ++ c.as_slice.result.now) c.new-locals.ensures.items ∙ c.as_slice.ensures.value) entry.words_are)

pub loop-frame-preserved : goal.loop-frame-preserved
loop-frame-preserved g c =
    let entry = c.args.entry.now in
    let operands = g.P.PoolOperands.operands c.args.pool.now in
    let next = c.in_ok-next.ensures in
    subst (λ m. Making c.args.stores.now c.next_frame.new.stores c.next_frame.new.locals m (item_type operands entry.words.items) entry.constructs entry.values.items c.args.frames.now (c.loop-frame.frame-index + 1)) (sym c.in_ok-push.ensures.items)
    (making_more c.args.stores.now c.loop-frame.stores c.next_frame.new.stores c.loop-frame.locals c.next_frame.new.locals c.loop-frame.made.items c.in_ok-next.next
    (item_type operands entry.words.items) entry.constructs entry.values.items c.args.frames.now c.loop-frame.frame-index c.frame-item.result
    (subst (λ fs. slice_get fs c.loop-frame.frame-index ≡ Some c.frame-item.result) c.as_slice-frame-items.ensures
    (slice_get_of c.as_slice-frame-items.result.now c.loop-frame.frame-index c.frame-item.result (omega (arith, c.loop-frame-test.true)) c.frame-item.is))
    c.loop-frame.invariant
    next.follows next.remembered next.are next.items next.made)

pub returns-clause-made : goal.returns-clause-made
returns-clause-made g c = λ j f h at.
    let size = ap length c.as_slice-frame-items.ensures in
    c.loop-frame.invariant.mapped j f (omega (arith, h, c.loop-frame-test.false, size)) at
