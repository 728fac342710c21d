use Rattle.std.proofs.Common.{inl}
use Rattle.std.proofs.lemmas.Result.{err_from_is_err_and}
use Rattle.class_supers.proofs.RuleLaws.{keeps_behind}
use Rattle.access_flags.specs.Flags.{has}
use Rattle.rules.specs.Rules.{each}
use Rattle.link_rules.specs.Classes.{classes_of, class_of_unit}
use Rattle.link_rules.specs.LinkRules.{declared_field_rules, declared_method_rules}
use Rattle.link_members.proofs.MemberLaws.{named, described}
use Rattle.link_members.proofs.members.check_unit.Goals as goal

pub returns-in_err-check_fields : goal.returns-in_err-check_fields
returns-in_err-check_fields c =
    let p = err_from_is_err_and c.from_residual.result c.from_residual.ensures.1 in
    rw (p.1, p.2) (inl (c.in_err-check_fields.ensures (classes_of c.args.lookup.now.units)))

pub check_methods-requires-clause-names : goal.check_methods-requires-clause-names
check_methods-requires-clause-names c = named c.args.unit.now c.requires.decoded

pub check_methods-requires-clause-descriptors : goal.check_methods-requires-clause-descriptors
check_methods-requires-clause-descriptors c = described c.args.unit.now c.requires.decoded

pub returns : goal.returns
returns c =
    let cs = classes_of c.args.lookup.now.units in
    let k = c.args.place in
    let its = class_of_unit c.args.unit.now in
    keeps_behind (each (λ i f. declared_field_rules cs k f) its.fields) (each (λ i m. declared_method_rules cs k (has its.flags 512) m) its.methods) c.check_methods.result (c.in_ok-check_fields.ensures cs) c.check_methods.ensures
