use Rattle.std.proofs.Common.{sym, ◌∙◌}
use Rattle.link_rules.specs.Classes.{classes_of}
use Rattle.link_implementations.proofs.RuleLaws.{lacking, hiding, keeping}
use Rattle.link_implementations.proofs.implementations.check_class.Goals as goal

pub returns-then-lacks_method-clause-answer : goal.returns-then-lacks_method-clause-answer
returns-then-lacks_method-clause-answer c = lacking (classes_of c.args.lookup.now.units) c.args.place c.args.flags (sym c.lacks_method.ensures.answer ∙ c.if-lacks_method.true)

pub returns-then-hides_method-clause-answer : goal.returns-then-hides_method-clause-answer
returns-then-hides_method-clause-answer c =
    hiding (classes_of c.args.lookup.now.units) c.args.place c.args.flags (sym c.lacks_method.ensures.answer ∙ c.if-lacks_method.false) (sym c.hides_method.ensures.answer ∙ c.if-hides_method.true)

pub returns-clause-answer : goal.returns-clause-answer
returns-clause-answer c =
    keeping (classes_of c.args.lookup.now.units) c.args.place c.args.flags (sym c.lacks_method.ensures.answer ∙ c.if-lacks_method.false) (sym c.hides_method.ensures.answer ∙ c.if-hides_method.false)
