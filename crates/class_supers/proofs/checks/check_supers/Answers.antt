use Rattle.std.proofs.Common.{◌≡◌, Some, slice_get, length, refl, subst, ◌≤◌}
use Rattle.std.proofs.lemmas.Option.{slice_get_read}
use Rattle.std.proofs.lemmas.Result.{err_from_is_err_and}
use Rattle.rules.proofs.RuleLaws.{one_more, all_hold}
use Rattle.link_rules.specs.Classes.{classes_of}
use Rattle.link_rules.specs.LinkRules.{supers_rules}
use Rattle.class_supers.proofs.checks.check_supers.Goals as goal

pub returns-in_err-check_file : goal.returns-in_err-check_file
returns-in_err-check_file c =
    let items = c.units-unit-items.result.now in
    let at = slice_get_read items (length items) c.loop-place.place c.unit-item.result refl c.loop-place-test.true c.unit-item.is in
    let there = subst (λ us. slice_get us c.loop-place.place ≡ Some c.unit-item.result) c.units-unit-items.ensures at in
    let p = err_from_is_err_and c.from_residual.result c.from_residual.ensures.1 in
    rw (p.1, p.2) (c.loop-place.place, c.unit-item.result, there, c.loop-place.invariant, c.in_err-check_file.ensures)

pub loop-place-preserved : goal.loop-place-preserved
loop-place-preserved c =
    let items = c.units-unit-items.result.now in
    let at = slice_get_read items (length items) c.loop-place.place c.unit-item.result refl c.loop-place-test.true c.unit-item.is in
    let there = subst (λ us. slice_get us c.loop-place.place ≡ Some c.unit-item.result) c.units-unit-items.ensures at in
    one_more (supers_rules (classes_of c.args.supers.now)) c.args.supers.now c.loop-place.place c.unit-item.result there c.loop-place.invariant c.in_ok-check_file.ensures

pub returns : goal.returns
returns c =
    let le : length c.args.supers.now ≤ c.loop-place.place = subst (λ us. length us ≤ c.loop-place.place) c.units-unit-items.ensures c.loop-place-test.false in
    all_hold (supers_rules (classes_of c.args.supers.now)) c.args.supers.now c.loop-place.place le c.loop-place.invariant
