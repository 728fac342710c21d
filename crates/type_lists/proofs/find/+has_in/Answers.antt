use Rattle.std.proofs.Common.{◌≡◌, ◌<◌, true, false, get_or, below_more, arith, refl, subst, ℕ, ◌-◌}
use Rattle.type_rules.specs.Assignable.{is_same_type}
use Rattle.type_lists.specs.Marks.{mark_at, HasBits}
use Rattle.type_lists.specs.Parts.{room, word_of}
use Rattle.type_lists.proofs.MarkLaws.{not_sought}
use Rattle.type_lists.proofs.ComparedLaws.{same_in_none, same_above, same_in_children}
use Rattle.type_lists.proofs.find.+has_in.Goals as goal
use Rattle.type_lists.proofs.find.+has_in.Goals.{else-may_have-via-then-may_have+else-has_in, else-may_have-via-else-may_have}

pub returns-then-part-eq0-clause-absent : goal.returns-then-part-eq0-clause-absent
returns-then-part-eq0-clause-absent t c = λ _ n inside. same_in_none c.args.word c.args.parts.now c.args.height c.args.part c.if-part-eq0.true c.requires.word n inside

pub returns-then-has_in-clause-found : goal.returns-then-has_in-clause-found
returns-then-has_in-clause-found t c = λ _.
    same_above c.args.word c.args.parts.now c.args.height c.args.part c.loop-digit.digit c.if-height-eq0.false c.loop-digit-test.true
    (subst (λ x. (n : ℕ) × (n < room (c.args.height - 1)) × (is_same_type c.args.word (word_of c.args.parts.now (c.args.height - 1) x n) ≡ true)) (c.children_of-children.ensures c.loop-digit.digit) (c.if-has_in.ensures.found refl))

pub returns-clause-absent : goal.returns-clause-absent
returns-clause-absent t c = λ _. same_in_children c.args.word c.args.parts.now c.args.height c.args.part c.loop-digit.digit c.if-height-eq0.false (omega (arith, c.loop-digit-test.false)) c.loop-digit.invariant

pub loop-digit-preserved : goal.loop-digit-preserved
loop-digit-preserved t c =
    let parts = c.args.parts.now in
    let k = c.args.height - 1 in
    let below = get_or c.children_of-children.result c.loop-digit.digit 0 in
    let absent : (n : ℕ) → n < room k → is_same_type c.args.word (word_of parts k below n) ≡ false = elim c.else-may_have.branch [
      | else-may_have-via-then-may_have+else-has_in w ↦ w.has_in.ensures.absent w.if-has_in.false
      | else-may_have-via-else-may_have w ↦ λ n _. not_sought parts c.args.marks.now k below c.args.word c.requires.marked (subst (λ m. ¬ HasBits (mark_at c.args.marks.now below) m) c.mark_of_word-mark.ensures (c.may_have.ensures w.if-may_have.false)) n
    ] in
    below_more _ _ c.loop-digit.invariant
    (subst (λ x. (n : ℕ) → n < room k → is_same_type c.args.word (word_of parts k x n) ≡ false) (c.children_of-children.ensures c.loop-digit.digit) absent)
