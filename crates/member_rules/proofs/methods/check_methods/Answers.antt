use Rattle.std.proofs.Common.{◌≡◌, ℕ, Some, slice_get, length, refl, subst, Ok, Err}
use Rattle.std.proofs.lemmas.Option.{slice_get_read}
use Rattle.std.proofs.lemmas.Result.{err_from_is_err_and}
use Rattle.access_flags.specs.Flags.{has}
use Rattle.rules.specs.Rules.{each}
use Rattle.rules.proofs.RuleLaws.{one_more, all_hold}
use Rattle.class_read.specs.declared.class_file.Member.{Member}
use Rattle.link_rules.specs.Classes.{classes_of, member_of_file}
use Rattle.link_rules.specs.LinkRules.{declared_method_rules}
use Rattle.member_rules.proofs.FieldLaws.{each_map}
use Rattle.member_rules.proofs.methods.check_methods.Goals as goal

pub check_method-requires-clause-name : goal.check_method-requires-clause-name
check_method-requires-clause-name c =
    let items = c.as_slice-method-items.result.now in
    let at = slice_get_read items (length items) c.loop-method.method-index c.method-item.result refl c.loop-method-test.true c.method-item.is in
    c.requires.names c.loop-method.method-index c.method-item.result (subst (λ xs. slice_get xs c.loop-method.method-index ≡ Some c.method-item.result) c.as_slice-method-items.ensures at)

pub check_method-requires-clause-descriptor : goal.check_method-requires-clause-descriptor
check_method-requires-clause-descriptor c =
    let items = c.as_slice-method-items.result.now in
    let at = slice_get_read items (length items) c.loop-method.method-index c.method-item.result refl c.loop-method-test.true c.method-item.is in
    c.requires.descriptors c.loop-method.method-index c.method-item.result (subst (λ xs. slice_get xs c.loop-method.method-index ≡ Some c.method-item.result) c.as_slice-method-items.ensures at)

pub returns-in_err-check_method : goal.returns-in_err-check_method
returns-in_err-check_method c =
    let items = c.as_slice-method-items.result.now in
    let pool = c.args.unit.now.file.pool in
    let cs = classes_of c.args.lookup.now.units in
    let interface = has c.args.unit.now.file.flags 512 in
    let rules = λ (i : ℕ) (m : Member). declared_method_rules cs c.args.place interface (member_of_file pool m) in
    let e = c.in_err-check_method.field-0.0 in
    let at = slice_get_read items (length items) c.loop-method.method-index c.method-item.result refl c.loop-method-test.true c.method-item.is in
    let broken = subst (λ xs. (each rules xs).Refuse e) c.as_slice-method-items.ensures (c.loop-method.method-index, c.method-item.result, at, c.loop-method.invariant, c.in_err-check_method.ensures) in
    let p = err_from_is_err_and c.from_residual.result c.from_residual.ensures.1 in
    rw (p.1, p.2) (each_map {T = Unit {0}} (λ i m. declared_method_rules cs c.args.place interface m) (member_of_file pool) c.args.unit.now.file.methods (Err e) broken)

pub loop-method-preserved : goal.loop-method-preserved
loop-method-preserved c =
    let items = c.as_slice-method-items.result.now in
    let pool = c.args.unit.now.file.pool in
    let cs = classes_of c.args.lookup.now.units in
    let interface = has c.args.unit.now.file.flags 512 in
    let at = slice_get_read items (length items) c.loop-method.method-index c.method-item.result refl c.loop-method-test.true c.method-item.is in
    one_more (λ i m. declared_method_rules cs c.args.place interface (member_of_file pool m)) items c.loop-method.method-index c.method-item.result at c.loop-method.invariant c.in_ok-check_method.ensures

pub returns : goal.returns
returns c =
    let items = c.as_slice-method-items.result.now in
    let pool = c.args.unit.now.file.pool in
    let cs = classes_of c.args.lookup.now.units in
    let interface = has c.args.unit.now.file.flags 512 in
    let rules = λ (i : ℕ) (m : Member). declared_method_rules cs c.args.place interface (member_of_file pool m) in
    let holds = subst (λ xs. (each rules xs).Hold) c.as_slice-method-items.ensures (all_hold rules items c.loop-method.method-index c.loop-method-test.false c.loop-method.invariant) in
    each_map {T = Unit {0}} (λ i m. declared_method_rules cs c.args.place interface m) (member_of_file pool) c.args.unit.now.file.methods (Ok tt) holds
