use Rattle.std.proofs.Common.{◌≡◌, sym, ◌∙◌, subst}
use Rattle.link_rules.specs.LinkRules.{hierarchy_rules}
use Rattle.link_rules.specs.Units.{AreUnits}
use Rattle.link_check.proofs.RuleLaws.{ok_given, err_given}
use Rattle.link_check.proofs.checks.checked_lookup.Goals as goal

pub new-requires-2 : goal.new-requires-2
new-requires-2 c = subst (λ us. (hierarchy_rules us).Hold) (sym c.in_ok-orders.ensures) c.requires.above

pub check_groups-requires-clause-decoded : goal.check_groups-requires-clause-decoded
check_groups-requires-clause-decoded c = subst AreUnits (sym (c.in_ok-lookup.ensures ∙ c.in_ok-orders.ensures)) c.requires.decoded

pub returns-in-Ok : goal.returns-in-Ok
returns-in-Ok c =
    let same = c.in_ok-lookup.ensures ∙ c.in_ok-orders.ensures in
    (ok_given c.in_ok-lookup.lookup.units c.args.supers c.check_groups.result _ same c.in-Ok.is c.check_groups.ensures, same)

pub returns : goal.returns
returns c =
    let same = c.in_ok-lookup.ensures ∙ c.in_ok-orders.ensures in
    err_given c.in_ok-lookup.lookup.units c.args.supers c.check_groups.result c.in-Err.refusal same c.in-Err.is c.check_groups.ensures
