use Rattle.std.proofs.Common.{◌≡◌, ◌+◌, ◌≤◌, flat_map, length, sym, arith, subst}
use Rattle.link_rules.specs.Classes.{classes_of, number_of_file}
use Rattle.link_rules.specs.Supers.{superclasses, superinterfaces}
use Rattle.link_members.specs.declared.implementations.Asked.TheVariants.{Public}
use Rattle.link_implementations.proofs.RuleLaws.{class_there, tested}
use Rattle.link_implementations.proofs.implementations.hides_method.Goals as goal

pub of-requires : goal.of-requires
of-requires c = subst (λ us. 29 + c.args.place ≤ length (classes_of us)) (sym c.orders.ensures) (class_there c.args.lookup.now.units c.args.place c.requires.there)

pub any_leaves_open-requires-clause-class : goal.any_leaves_open-requires-clause-class
any_leaves_open-requires-clause-class c = class_there c.args.lookup.now.units c.args.place c.requires.there

pub returns-clause-answer : goal.returns-clause-answer
returns-clause-answer c =
    let same : 29 + c.args.place ≡ number_of_file c.args.place = omega arith in
    let all = tested Public c.args.lookup.now.units c.orders.result.now (29 + c.args.place) c.args.place c.of.result.now.all_interfaces c.as_slice-order.result.now c.any_leaves_open.result (λ cs n. flat_map (superinterfaces cs) (superclasses cs n))
    c.any_leaves_open.ensures.answer c.as_slice-order.ensures c.of.ensures.all_interfaces c.orders.ensures same in
    all
