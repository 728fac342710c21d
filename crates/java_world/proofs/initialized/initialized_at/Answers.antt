use Rattle.std.proofs.Common.{◌≡◌, ◌+◌, ◌-◌, ◌<◌, ◌≤◌, suc, length, slice_get, Some, sym, ◌∙◌, ap, subst, arith}
use Rattle.link_rules.specs.Classes.{classes_of, superclass_of}
use Rattle.link_rules.proofs.Numbers.{superclass_within}
use Rattle.java_rows.specs.Program.{initialized_with}
use Rattle.java_world.proofs.ChainLaws.{class_of_file, class_built_in, past_classes, chain_few, super_of_named}
use Rattle.java_world.proofs.initialized.initialized_at.Goals as goal

pub returns-then-class-named_classes-clause-is : goal.returns-then-class-named_classes-clause-is
returns-then-class-named_classes-clause-is c =
    let us = c.args.world.now in
    let past : length (classes_of us) < c.args.class = omega (arith, c.named_classes.ensures) in
    sym (ap (λ xs. slice_get xs c.args.place) (past_classes us c.args.class past))

pub returns-then-above-le-COUNT-clause-is : goal.returns-then-above-le-COUNT-clause-is
returns-then-above-le-COUNT-clause-is c =
    sym (c.loop.invariant.rest ∙ ap (λ xs. slice_get xs (c.args.place - c.loop.counter)) (class_built_in c.args.world.now c.loop.above c.if-above-le-COUNT.true))

pub returns-then-above-le-COUNT-2-clause-is : goal.returns-then-above-le-COUNT-2-clause-is
returns-then-above-le-COUNT-2-clause-is c =
    sym (c.loop.invariant.rest ∙ ap (λ xs. slice_get xs (c.args.place - c.loop.counter)) (class_built_in c.args.world.now c.loop.above c.if-above-le-COUNT-2.true))

pub loop-preserved : goal.loop-preserved
loop-preserved c =
    let us = c.args.world.now in
    let above = c.loop.above in
    let next = c.super_class-above.result in
    let is : next ≡ superclass_of (classes_of us) above = c.super_class-above.ensures ∙ super_of_named us above c.loop.invariant.within in
    let left : c.args.place - c.loop.counter ≡ suc (c.args.place - (c.loop.counter + 1)) = omega (arith, c.loop-test.true) in
    record {
      within = subst (λ d. d ≤ length (classes_of us)) (sym is) (superclass_within (classes_of us) above);
      rest = c.loop.invariant.rest
          ∙ ap (slice_get (initialized_with us above)) left
          ∙ ap (λ xs. slice_get xs (suc (c.args.place - (c.loop.counter + 1)))) (class_of_file us c.is_linked.ensures.order.0 c.is_linked.ensures.order.1 above c.if-above-le-COUNT.false c.loop.invariant.within)
          ∙ ap (λ d. slice_get (initialized_with us d) (c.args.place - (c.loop.counter + 1))) (sym is);
    }

pub returns-clause-few : goal.returns-clause-few
returns-clause-few c =
    let us = c.args.world.now in
    let above = c.loop.above in
    let left : c.args.place - c.loop.counter ≡ 0 = omega (arith, c.loop-test.false) in
    let there : slice_get (initialized_with us c.args.class) c.args.place ≡ Some above =
    c.loop.invariant.rest ∙ ap (slice_get (initialized_with us above)) left
    ∙ ap (λ xs. slice_get xs 0) (class_of_file us c.is_linked.ensures.order.0 c.is_linked.ensures.order.1 above c.if-above-le-COUNT-2.false c.loop.invariant.within) in
    chain_few us c.args.class c.args.place above c.is_linked.ensures.linked.0 there
