use Rattle.std.proofs.Common.{◌+◌, ◌≤◌, arith, subst, refl}
use Rattle.class_supers.specs.Numbers.{number_named, AreNumbersOf}
use Rattle.class_supers.proofs.ClassLaws.{whole_library}
use Rattle.class_supers.proofs.NumberLaws.{builtins_more}
use Rattle.class_supers.proofs.naming.builtin_numbers.Goals as goal

pub loop-i-preserved : goal.loop-i-preserved
loop-i-preserved c =
    builtins_more (number_named c.loop-i.numbers) (number_named c.add.new.self) c.builtins-class-items.result.now c.loop-i.i _ c.as_bytes.result.now (c.loop-i.i + 1) c.builtins-class-items.ensures.rows c.loop-i-test.true c.loop-i.invariant c.in_ok-add.ensures.ok c.as_bytes.ensures.value refl

pub returns : goal.returns
returns c =
    let le : 28 ≤ c.loop-i.i = omega (arith, c.builtins-class-items.ensures.count) in
    subst (AreNumbersOf (number_named c.loop-i.numbers)) (whole_library c.loop-i.i le) c.loop-i.invariant
