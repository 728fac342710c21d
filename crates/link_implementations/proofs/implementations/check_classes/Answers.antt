use Rattle.std.proofs.Common.{◌≡◌, ◌≤◌, Some, slice_get, length, refl, subst, ◌∙◌, ap}
use Rattle.std.proofs.lemmas.Option.{slice_get_read}
use Rattle.std.proofs.lemmas.Result.{err_from_is_err_and}
use Rattle.rules.proofs.RuleLaws.{one_more, all_hold}
use Rattle.class_texts.specs.Texts.{ProgramTexts}
use Rattle.link_rules.specs.Classes.{classes_of}
use Rattle.link_rules.specs.LinkRules.{implementation_rules}
use Rattle.link_implementations.proofs.implementations.check_classes.Goals as goal

pub returns-in_err-check_class-clause-answer : goal.returns-in_err-check_class-clause-answer
returns-in_err-check_class-clause-answer c =
    let items = c.units-unit-items.result.now in
    let at = slice_get_read items (length items) c.loop-place.place c.unit-item.result refl c.loop-place-test.true c.unit-item.is in
    let are = c.units-unit-items.ensures ∙ ap (λ (p : ProgramTexts). p.units) c.texts.ensures in
    let there = subst (λ us. slice_get us c.loop-place.place ≡ Some c.unit-item.result) are at in
    let p = err_from_is_err_and c.from_residual.result c.from_residual.ensures.1 in
    rw (p.1, p.2) (c.loop-place.place, c.unit-item.result, there, c.loop-place.invariant.1, c.in_err-check_class.ensures.answer)

pub loop-place-preserved : goal.loop-place-preserved
loop-place-preserved c =
    let items = c.units-unit-items.result.now in
    let at = slice_get_read items (length items) c.loop-place.place c.unit-item.result refl c.loop-place-test.true c.unit-item.is in
    let are = c.units-unit-items.ensures ∙ ap (λ (p : ProgramTexts). p.units) c.texts.ensures in
    let there = subst (λ us. slice_get us c.loop-place.place ≡ Some c.unit-item.result) are at in
    (c.in_ok-check_class.ensures.memo, one_more (λ k u. implementation_rules (classes_of c.args.lookup.now.units) k u.file.flags) c.args.lookup.now.units c.loop-place.place c.unit-item.result there c.loop-place.invariant.1 c.in_ok-check_class.ensures.answer)

pub returns-clause-answer : goal.returns-clause-answer
returns-clause-answer c =
    let are = c.units-unit-items.ensures ∙ ap (λ (p : ProgramTexts). p.units) c.texts.ensures in
    let le : length c.args.lookup.now.units ≤ c.loop-place.place = subst (λ us. length us ≤ c.loop-place.place) are c.loop-place-test.false in
    all_hold (λ k u. implementation_rules (classes_of c.args.lookup.now.units) k u.file.flags) c.args.lookup.now.units c.loop-place.place le c.loop-place.invariant.1
