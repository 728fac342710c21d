use Rattle.std.proofs.Common.{◌-◌, subst, length, arith, below_more}
use Rattle.type_lists.specs.Parts.{child_at}
use Rattle.type_lists.specs.Compared.{AreAssignable, AreApart}
use Rattle.type_lists.proofs.ComparedLaws.{tops_take, in_children, apart_above, added_rightly, at_true, at_false}
use Rattle.type_lists.proofs.compare.+are_parts_assignable.Goals as goal

pub returns-then-high-eq0-clause-told : goal.returns-then-high-eq0-clause-told
returns-then-high-eq0-clause-told g t c =
    tops_take (g.H.ClassHierarchy.hierarchy c.args.hierarchy.now) c.args.parts.now c.args.height c.args.low c.args.high c.if-high-eq0.true

pub returns-then-not-branch-clause-told : goal.returns-then-not-branch-clause-told
returns-then-not-branch-clause-told g t c =
    let h = g.H.ClassHierarchy.hierarchy c.args.hierarchy.now in
    let parts = c.args.parts.now in
    apart_above h parts c.args.height c.args.low c.args.high c.loop-digit.digit c.if-height-eq0.false c.loop-digit-test.true
    (subst (λ x. AreApart h parts (c.args.height - 1) x (child_at parts c.args.high c.loop-digit.digit)) c.child-low_child.ensures
    (subst (λ x. AreApart h parts (c.args.height - 1) c.child-low_child.result x) c.child-high_child.ensures (at_false _ _ _ c.if-not-branch.true c.in_ok-are_parts_assignable.ensures.told)))

pub loop-digit-preserved : goal.loop-digit-preserved
loop-digit-preserved g t c =
    let h = g.H.ClassHierarchy.hierarchy c.args.hierarchy.now in
    let parts = c.args.parts.now in
    record {
      known = c.in_ok-are_parts_assignable.ensures.known;
      below = below_more _ _ c.loop-digit.invariant.below
          (subst (λ x. AreAssignable h parts (c.args.height - 1) x (child_at parts c.args.high c.loop-digit.digit)) c.child-low_child.ensures
          (subst (λ x. AreAssignable h parts (c.args.height - 1) c.child-low_child.result x) c.child-high_child.ensures (at_true _ _ _ c.if-not-branch.false c.in_ok-are_parts_assignable.ensures.told)));
    }

pub returns-in_err-add-clause-known : goal.returns-in_err-add-clause-known
returns-in_err-add-clause-known g t c =
    let h = g.H.ClassHierarchy.hierarchy c.args.hierarchy.now in
    added_rightly h c.args.parts.now c.loop-digit.known c.add.new.self (length c.args.parts.now) c.args.height c.args.low c.args.high c.add.ensures c.loop-digit.invariant.known c.requires.low c.requires.high
    (in_children h c.args.parts.now c.args.height c.args.low c.args.high c.loop-digit.digit c.if-height-eq0.false (omega (arith, c.loop-digit-test.false)) c.loop-digit.invariant.below)

pub returns-clause-known : goal.returns-clause-known
returns-clause-known g t c =
    let h = g.H.ClassHierarchy.hierarchy c.args.hierarchy.now in
    added_rightly h c.args.parts.now c.loop-digit.known c.add.new.self (length c.args.parts.now) c.args.height c.args.low c.args.high c.add.ensures c.loop-digit.invariant.known c.requires.low c.requires.high
    (in_children h c.args.parts.now c.args.height c.args.low c.args.high c.loop-digit.digit c.if-height-eq0.false (omega (arith, c.loop-digit-test.false)) c.loop-digit.invariant.below)

pub returns-clause-told : goal.returns-clause-told
returns-clause-told g t c =
    let h = g.H.ClassHierarchy.hierarchy c.args.hierarchy.now in
    in_children h c.args.parts.now c.args.height c.args.low c.args.high c.loop-digit.digit c.if-height-eq0.false (omega (arith, c.loop-digit-test.false)) c.loop-digit.invariant.below
