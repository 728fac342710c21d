use Rattle.std.proofs.Common.{◌+◌, ◌*◌, ◌-◌, Some, sym, ◌∙◌, ap, subst, arith}
use Rattle.type_lists.specs.Parts.{room, word_of}
use Rattle.type_lists.specs.Differ.{FirstWithin}
use Rattle.type_lists.proofs.DifferLaws.{all_children, child_passed, found_below, start_small}
use Rattle.type_lists.proofs.differ.+part_difference.Goals as goal

pub overflow_mul-start : goal.overflow_mul-start
overflow_mul-start t c =
    let is = ap (λ r. r * c.loop-digit.digit) c.room_of-room.ensures.room in
    omega (arith, is, start_small c.args.height c.loop-digit.digit 0 c.if-height-eq0.false c.requires c.loop-digit-test.true (omega (arith, c.room_of-room.ensures.some, c.room_of-room.ensures.room)))

pub overflow_add-result : goal.overflow_add-result
overflow_add-result t c =
    let is = ap (λ r. r * c.loop-digit.digit) c.room_of-room.ensures.room in
    omega (arith, is, start_small c.args.height c.loop-digit.digit c.in-Some.place c.if-height-eq0.false c.requires c.loop-digit-test.true c.in-Some.ensures.0)

pub returns-in-Some : goal.returns-in-Some
returns-in-Some t c =
    let r = c.room_of-room.ensures.room in
    let height = c.args.height in
    let parts = c.args.parts.now in
    subst (λ x. FirstWithin (word_of parts height c.args.before) (word_of parts height c.args.after) c.args.from (room height) (Some (x * c.loop-digit.digit + c.in-Some.place))) (sym r)
    (found_below parts height c.args.before c.args.after c.args.from c.loop-digit.digit c.if-height-eq0.false _ _ _ c.in-Some.place c.child-below.ensures c.child-other.ensures
    (c.saturating_sub.ensures ∙ ap (λ x. c.args.from - x * c.loop-digit.digit) r) c.loop-digit-test.true c.loop-digit.invariant c.in-Some.ensures)

pub loop-digit-preserved : goal.loop-digit-preserved
loop-digit-preserved t c =
    let is = ap (λ r. c.args.from - r * c.loop-digit.digit) c.room_of-room.ensures.room in
    child_passed c.args.parts.now c.args.height c.args.before c.args.after c.args.from c.loop-digit.digit c.if-height-eq0.false _ _ _ c.child-below.ensures c.child-other.ensures
    (c.saturating_sub.ensures ∙ is) c.loop-digit.invariant c.in_default.ensures

pub returns : goal.returns
returns t c = λ n past within.
    c.loop-digit.invariant n past (omega (arith, within, all_children c.args.height c.loop-digit.digit c.if-height-eq0.false (omega (arith, c.loop-digit-test.false))))
