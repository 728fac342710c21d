use Rattle.std.proofs.Common.{map}
use Rattle.builtin_world.specs.BuiltinClass.{ClassRow, shown_class, shown_method}
use Rattle.builtin_world.specs.declared.BuiltinClass.{BuiltinClass}
use Rattle.class_texts.specs.Texts.{KnowsMethods}
use Rattle.class_texts.proofs.AddingLaws.{both_extend, methods_stay, each_made, one_more_holds, holds_of_all}
use Rattle.class_texts.proofs.adding.add_classes.Goals as goal

pub loop-class-preserved : goal.loop-class-preserved
loop-class-preserved c =
    let old = c.loop-class.numbers in
    let new = c.add_methods.new.numbers in
    let kept = c.in_ok-add_methods.ensures.kept in
    record {
      kept = both_extend c.args.numbers.now old new c.loop-class.invariant.kept kept;
      known = one_more_holds (λ (k : BuiltinClass). KnowsMethods new (map shown_method k.methods.now)) c.args.classes.now c.loop-class.class-index _ c.loop-class-test.true
          (λ i k lt there. methods_stay old new (map shown_method k.methods.now) kept (c.loop-class.invariant.known i k lt there)) c.in_ok-add_methods.ensures.known;
    }

pub returns-clause-known : goal.returns-clause-known
returns-clause-known c =
    let ks = c.args.classes.now in
    each_made (λ (r : ClassRow). KnowsMethods c.loop-class.numbers r.methods) shown_class ks
    (holds_of_all (λ (k : BuiltinClass). KnowsMethods c.loop-class.numbers (map shown_method k.methods.now)) ks c.loop-class.class-index c.loop-class-test.false c.loop-class.invariant.known)
