use Rattle.std.proofs.Common.{ℕ, length, refl, subst, Ok, Err}
use Rattle.std.proofs.lemmas.Option.{slice_get_read}
use Rattle.std.proofs.lemmas.Result.{err_from_is_err_and}
use Rattle.rules.specs.Rules.{each}
use Rattle.rules.proofs.RuleLaws.{one_more, all_hold}
use Rattle.class_read.specs.declared.class_file.Member.{Member}
use Rattle.link_rules.specs.Classes.{member_of_file}
use Rattle.link_rules.specs.LinkRules.{declared_field_rules}
use Rattle.member_rules.proofs.FieldLaws.{each_map}
use Rattle.member_rules.proofs.fields.check_fields.Goals as goal

pub returns-in_err-check_field : goal.returns-in_err-check_field
returns-in_err-check_field c = λ cs.
    let items = c.as_slice-field-items.result.now in
    let pool = c.args.unit.now.file.pool in
    let rules = λ (i : ℕ) (m : Member). declared_field_rules cs c.args.place (member_of_file pool m) in
    let e = c.in_err-check_field.field-0.0 in
    let at = slice_get_read items (length items) c.loop-field.field-index c.field-item.result refl c.loop-field-test.true c.field-item.is in
    let broken = subst (λ xs. (each rules xs).Refuse e) c.as_slice-field-items.ensures (c.loop-field.field-index, c.field-item.result, at, c.loop-field.invariant cs, c.in_err-check_field.ensures cs) in
    let p = err_from_is_err_and c.from_residual.result c.from_residual.ensures.1 in
    rw (p.1, p.2) (each_map {T = Unit {0}} (λ i f. declared_field_rules cs c.args.place f) (member_of_file pool) c.args.unit.now.file.fields (Err e) broken)

pub loop-field-preserved : goal.loop-field-preserved
loop-field-preserved c = λ cs.
    let items = c.as_slice-field-items.result.now in
    let at = slice_get_read items (length items) c.loop-field.field-index c.field-item.result refl c.loop-field-test.true c.field-item.is in
    one_more (λ i m. declared_field_rules cs c.args.place (member_of_file c.args.unit.now.file.pool m)) items c.loop-field.field-index c.field-item.result at (c.loop-field.invariant cs) (c.in_ok-check_field.ensures cs)

pub returns : goal.returns
returns c = λ cs.
    let items = c.as_slice-field-items.result.now in
    let pool = c.args.unit.now.file.pool in
    let rules = λ (i : ℕ) (m : Member). declared_field_rules cs c.args.place (member_of_file pool m) in
    let holds = subst (λ xs. (each rules xs).Hold) c.as_slice-field-items.ensures (all_hold rules items c.loop-field.field-index c.loop-field-test.false (c.loop-field.invariant cs)) in
    each_map {T = Unit {0}} (λ i f. declared_field_rules cs c.args.place f) (member_of_file pool) c.args.unit.now.file.fields (Ok tt) holds
