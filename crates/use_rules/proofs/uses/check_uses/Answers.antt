use Rattle.std.proofs.Common.{ap, ◌∙◌, ◌≡◌, ◌≤◌, Some, slice_get, length, refl, subst}
use Rattle.std.proofs.lemmas.Option.{slice_get_read}
use Rattle.std.proofs.lemmas.Result.{err_from_is_err_and}
use Rattle.rules.proofs.RuleLaws.{one_more, all_hold}
use Rattle.class_texts.specs.Texts.{ProgramTexts}
use Rattle.link_rules.specs.Classes.{classes_of}
use Rattle.link_rules.specs.LinkRules.{uses_rules}
use Rattle.class_supers.proofs.RuleLaws.{refuses_at}
use Rattle.use_rules.proofs.uses.check_uses.Goals as goal

pub returns-in_err-check_file : goal.returns-in_err-check_file
returns-in_err-check_file c =
    let us = c.args.lookup.now.units in
    let items = c.units-unit-items.result.now in
    let at = slice_get_read items (length items) c.loop-place.place c.unit-item.result refl c.loop-place-test.true c.unit-item.is in
    let there = subst (λ xs. slice_get xs c.loop-place.place ≡ Some c.unit-item.result) (c.units-unit-items.ensures ∙ ap (λ (p : ProgramTexts). p.units) c.texts.ensures) at in
    let p = err_from_is_err_and c.from_residual-in_err-check_file.result c.from_residual-in_err-check_file.ensures.1 in
    rw (p.1, p.2) (refuses_at (uses_rules (classes_of us)) us c.loop-place.place c.unit-item.result c.in_err-check_file.field-0.0 there c.loop-place.invariant c.in_err-check_file.ensures)

pub loop-place-preserved : goal.loop-place-preserved
loop-place-preserved c =
    let us = c.args.lookup.now.units in
    let items = c.units-unit-items.result.now in
    let at = slice_get_read items (length items) c.loop-place.place c.unit-item.result refl c.loop-place-test.true c.unit-item.is in
    let there = subst (λ xs. slice_get xs c.loop-place.place ≡ Some c.unit-item.result) (c.units-unit-items.ensures ∙ ap (λ (p : ProgramTexts). p.units) c.texts.ensures) at in
    one_more (uses_rules (classes_of us)) us c.loop-place.place c.unit-item.result there c.loop-place.invariant c.in_ok-check_file.ensures.0

pub returns : goal.returns
returns c =
    let us = c.args.lookup.now.units in
    let le : length us ≤ c.loop-place.place = subst (λ xs. length xs ≤ c.loop-place.place) (c.units-unit-items.ensures ∙ ap (λ (p : ProgramTexts). p.units) c.texts.ensures) c.loop-place-test.false in
    (all_hold (uses_rules (classes_of us)) us c.loop-place.place le c.loop-place.invariant, tt)
