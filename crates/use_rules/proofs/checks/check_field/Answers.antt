use Rattle.std.proofs.Common.{ap, subst}
use Rattle.class_supers.proofs.RuleLaws.{keeps_behind}
use Rattle.rules.specs.Rules.{given}
use Rattle.link_types.specs.declared.refusal.LinkRefusal.TheVariants.{At}
use Rattle.link_types.specs.declared.refusal.LinkKind.TheVariants.{NoField}
use Rattle.link_rules.specs.LinkRules.{there_rules}
use Rattle.link_rules.specs.Members.{found_field}
use Rattle.use_rules.specs.declared.members.MemberFacts.{MemberFacts}
use Rattle.use_rules.specs.Facts.{AreFactsOf}
use Rattle.use_rules.specs.FoundRules.{found_field_rules}
use Rattle.use_rules.proofs.checks.check_field.Goals as goal

pub returns-in-Some : goal.returns-in-Some
returns-in-Some c = λ cs r are.
    let facts = subst (AreFactsOf cs c.args.place r) c.in-Some.is are in
    keeps_behind (there_rules cs c.args.place c.args.index r.class)
    (given (found_field cs r) (At NoField c.args.place c.args.index) (found_field_rules cs c.args.place c.args.access c.args.index)) c.check_field_there.result facts.0
    (c.check_field_there.ensures cs (found_field cs r) (ap (λ (m : MemberFacts). m.field) facts.1))
