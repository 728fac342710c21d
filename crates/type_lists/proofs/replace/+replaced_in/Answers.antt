use Rattle.std.proofs.Common.{◌≡◌, ◌-◌, ◌∙◌, false, length, get_or, ap, sym, refl, subst, arith}
use Rattle.std.proofs.lemmas.Bool.{true≢false}
use Rattle.type_lists.specs.Parts.{most_parts, node_children}
use Rattle.type_lists.proofs.PartLaws.{few_next, few_same, most_more}
use Rattle.type_lists.proofs.SetLaws.{on_ok}
use Rattle.type_lists.specs.Marks.{word_mark, HasBits, mark_at}
use Rattle.type_lists.proofs.MarkLaws.{not_replaced}
use Rattle.type_lists.proofs.Replaced.{next_child, skip_child, node_of, part_of, none_replaced}
use Rattle.type_lists.proofs.replace.+replaced_in.Goals as goal
use Rattle.type_lists.proofs.replace.+replaced_in.Goals.{then-is_changed, else-is_changed}

pub returns-then-part-eq0-clause-words : goal.returns-then-part-eq0-clause-words
returns-then-part-eq0-clause-words t c = none_replaced c.args.parts.now.items c.args.height c.args.part c.args.old c.args.new c.if-part-eq0.true c.requires.old

pub loop-digit-preserved : goal.loop-digit-preserved
loop-digit-preserved t c =
    let made = c.in_ok-made.made in
    let below = get_or c.loop-digit.children c.loop-digit.digit 0 in
    let flag : c.if-is_changed.is_changed ≡ false → (c.loop-digit.is_changed ≡ false) × (made ≡ below) = elim c.if-is_changed.branch [
      | then-is_changed w ↦ λ e. absurd (true≢false (sym (w.is_changed-is ∙ w.if-is_changed.true) ∙ e))
      | else-is_changed w ↦ λ e. (w.if-is_changed.false, search (arith, e, w.is_changed-is))
    ] in
    record {
      replacing = next_child c.args.parts.now.items c.loop-digit.parts.items c.replaced_in.new.parts.items c.loop-digit.marks.items c.args.height c.args.part c.args.old c.args.new c.loop-digit.children c.loop-digit.digit c.loop-digit.is_changed c.loop-digit.invariant.replacing
          c.replaced_in.new.marks.items below made c.if-is_changed.is_changed refl (omega (arith, c.loop-digit-test.true)) c.requires.closed c.requires.list c.in_ok-made.ensures.grows c.in_ok-made.ensures.closed c.in_ok-made.ensures.marked c.in_ok-made.ensures.list c.in_ok-made.ensures.words flag;
      few = few_next (length c.args.parts.now.items) (length c.loop-digit.parts.items) (length c.replaced_in.new.parts.items) c.loop-digit.digit (most_parts (c.args.height - 1)) (omega (arith, c.loop-digit-test.true)) c.loop-digit.invariant.few c.replaced_in.ensures.few;
    }

pub returns-then-not-is_changed-clause-words : goal.returns-then-not-is_changed-clause-words
returns-then-not-is_changed-clause-words t c =
    part_of c.args.parts.now.items c.loop-digit.parts.items c.loop-digit.marks.items c.args.height c.args.part c.args.old c.args.new c.loop-digit.children c.loop-digit.digit c.loop-digit.is_changed c.loop-digit.invariant.replacing c.if-height-eq0.false (omega (arith, c.loop-digit-test.false))
    c.if-not-is_changed.true c.requires.list

pub returns-clause-words : goal.returns-clause-words
returns-clause-words t c =
    let p0 = c.args.parts.now.items in
    let p = c.loop-digit.parts.items in
    on_ok _ _ c.push.result
    (λ node made.
    node_of p0 p c.push.new.parts.items c.loop-digit.marks.items c.args.height c.args.part c.args.old c.args.new c.loop-digit.children c.loop-digit.digit c.loop-digit.is_changed c.loop-digit.invariant.replacing node c.if-height-eq0.false (omega (arith, c.loop-digit-test.false))
    (λ j. ap (λ x. get_or (node_children x) j 0) made.1) c.push.ensures.grows)
    c.push.ensures.made

pub loop-digit-preserved-then-not-may_have : goal.loop-digit-preserved-then-not-may_have
loop-digit-preserved-then-not-may_have t c =
    let p = c.loop-digit.parts.items in
    let marks = c.loop-digit.marks.items in
    let below = get_or c.loop-digit.children c.loop-digit.digit 0 in
    record {
      replacing = skip_child c.args.parts.now.items p p marks c.args.height c.args.part c.args.old c.args.new c.loop-digit.children c.loop-digit.digit c.loop-digit.is_changed c.loop-digit.invariant.replacing
          (omega (arith, c.loop-digit-test.true)) c.requires.closed c.requires.list
          (not_replaced p marks (c.args.height - 1) below c.args.old c.args.new c.loop-digit.invariant.replacing.marked
          (subst (λ ms. ¬ HasBits (mark_at ms below) (word_mark c.args.old)) c.deref-in-loop-digit.ensures.value
          (subst (λ m. ¬ HasBits (mark_at c.deref-in-loop-digit.result.now below) m) c.mark_of_word-mark.ensures (c.if-not-may_have.ensures refl))));
      few = few_same (length c.args.parts.now.items) (length p) c.loop-digit.digit (most_parts (c.args.height - 1)) (omega (arith, c.loop-digit-test.true)) c.loop-digit.invariant.few;
    }

pub returns-in_err-made-clause-few : goal.returns-in_err-made-clause-few
returns-in_err-made-clause-few t c =
    let most = most_parts (c.args.height - 1) in
    let next = few_next (length c.args.parts.now.items) (length c.loop-digit.parts.items) (length c.replaced_in.new.parts.items) c.loop-digit.digit most (omega (arith, c.loop-digit-test.true)) c.loop-digit.invariant.few c.replaced_in.ensures.few in
    omega (arith, next, most_more c.args.height c.if-height-eq0.false)

pub returns-then-not-is_changed-clause-few : goal.returns-then-not-is_changed-clause-few
returns-then-not-is_changed-clause-few t c = omega (arith, c.loop-digit.invariant.few, most_more c.args.height c.if-height-eq0.false)

pub returns-clause-few : goal.returns-clause-few
returns-clause-few t c = omega (arith, c.loop-digit.invariant.few, c.push.ensures.one, most_more c.args.height c.if-height-eq0.false)
