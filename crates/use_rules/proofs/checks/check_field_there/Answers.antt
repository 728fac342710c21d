use Rattle.std.proofs.Common.{sym, ◌∙◌, subst}
use Rattle.rules.specs.Rules.{given}
use Rattle.link_types.specs.declared.refusal.LinkRefusal.TheVariants.{At}
use Rattle.link_types.specs.declared.refusal.LinkKind.TheVariants.{NoField}
use Rattle.class_supers.specs.Answers.{KeepsExactly}
use Rattle.member_lookup.specs.Found.{found_of}
use Rattle.use_rules.specs.FoundRules.{found_field_rules}
use Rattle.use_rules.proofs.CheckLaws.{mapped_some}
use Rattle.use_rules.proofs.checks.check_field_there.Goals as goal

pub returns-in-Some : goal.returns-in-Some
returns-in-Some c = λ cs o is.
    let some = mapped_some found_of c.in-Some.field o (sym c.in-Some.is ∙ is) in
    subst (λ x. KeepsExactly c.check_found_field.result (given x (At NoField c.args.place c.args.index) (found_field_rules cs c.args.place c.args.access c.args.index))) (sym some.1)
    (c.check_found_field.ensures cs some.0 some.2)
