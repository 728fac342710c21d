use Rattle.std.proofs.Common.{◌≡◌, sym, subst}
use Rattle.class_texts.specs.Texts.{ProgramTexts}
use Rattle.link_rules.specs.LinkRules.{hierarchy_rules}
use Rattle.link_rules.specs.Units.{AreUnits}
use Rattle.link_check.proofs.RuleLaws.{given_for, all_given}
use Rattle.link_check.proofs.checks.all_checked.Goals as goal

pub checked_lookup-requires-clause-above : goal.checked_lookup-requires-clause-above
checked_lookup-requires-clause-above c = subst (λ us. (hierarchy_rules us).Hold) (sym c.in_ok-supers.ensures.linked.0) c.in_ok-supers.ensures.linked.1

pub checked_lookup-requires-clause-decoded : goal.checked_lookup-requires-clause-decoded
checked_lookup-requires-clause-decoded c = subst AreUnits (sym c.in_ok-supers.ensures.linked.0) c.requires.decoded

pub returns : goal.returns
returns c =
    let us = c.args.units.now in
    all_given us (λ (l : ProgramTexts). l.units ≡ us) c.checked_lookup.result c.in_ok-supers.ensures.linked.1
    (given_for c.in_ok-supers.supers us (λ vs (l : ProgramTexts). l.units ≡ vs) c.checked_lookup.result c.in_ok-supers.ensures.linked.0 c.checked_lookup.ensures)
