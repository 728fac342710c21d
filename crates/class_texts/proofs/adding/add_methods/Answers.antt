use Rattle.builtin_world.specs.BuiltinClass.{shown_method}
use Rattle.builtin_world.specs.declared.BuiltinMethod.{BuiltinMethod}
use Rattle.class_texts.specs.Texts.{KnowsMethod}
use Rattle.class_texts.proofs.AddingLaws.{both_extend, method_stays, each_made, one_more_holds, holds_of_all}
use Rattle.class_texts.proofs.adding.add_methods.Goals as goal

pub loop-method-preserved : goal.loop-method-preserved
loop-method-preserved c =
    let old = c.loop-method.numbers in
    let new = c.add_method.new.numbers in
    let kept = c.in_ok-add_method.ensures.kept in
    record {
      kept = both_extend c.args.numbers.now old new c.loop-method.invariant.kept kept;
      known = one_more_holds (λ (m : BuiltinMethod). KnowsMethod new (shown_method m)) c.args.methods.now c.loop-method.method-index _ c.loop-method-test.true
          (λ i m lt there. method_stays old new (shown_method m) kept (c.loop-method.invariant.known i m lt there)) c.in_ok-add_method.ensures.known;
    }

pub returns-clause-known : goal.returns-clause-known
returns-clause-known c =
    let ms = c.args.methods.now in
    each_made (KnowsMethod c.loop-method.numbers) shown_method ms
    (holds_of_all (λ (m : BuiltinMethod). KnowsMethod c.loop-method.numbers (shown_method m)) ms c.loop-method.method-index c.loop-method-test.false c.loop-method.invariant.known)
