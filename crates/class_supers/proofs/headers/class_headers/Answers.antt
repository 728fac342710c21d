use Rattle.std.proofs.Common.{◌∙◌}
use Rattle.class_supers.specs.Numbers.{number_named}
use Rattle.class_supers.proofs.HeaderLaws.{headers_of_all}
use Rattle.class_supers.proofs.headers.class_headers.Goals as goal

pub returns : goal.returns
returns c = c.loop-unit.invariant ∙ headers_of_all (number_named c.args.numbers.now) c.args.units.now c.loop-unit.unit-index c.loop-unit-test.false c.requires
