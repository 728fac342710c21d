use Rattle.std.proofs.Common.{◌∙◌}
use Rattle.class_supers.proofs.HeaderLaws.{shown_headers}
use Rattle.class_supers.proofs.headers.builtin_headers.Goals as goal

pub returns : goal.returns
returns c = c.loop-class.invariant ∙ shown_headers _ c.loop-class.class-index c.loop-class-test.false c.builtins-class-items.ensures.rows
