use Rattle.std.proofs.Common.{◌≡◌, ◌+◌, ◌≤◌, false, length, sym, ◌∙◌, arith, subst}
use Rattle.access_flags.specs.declared.TheConstants.{ABSTRACT}
use Rattle.access_flags.specs.Flags.{has}
use Rattle.link_rules.specs.Classes.{classes_of, number_of_file}
use Rattle.link_rules.specs.Supers.{method_order}
use Rattle.link_members.specs.declared.implementations.Asked.TheVariants.{Implemented}
use Rattle.link_implementations.proofs.RuleLaws.{class_there, tested}
use Rattle.link_implementations.proofs.implementations.lacks_method.Goals as goal

pub of-requires : goal.of-requires
of-requires c = subst (λ us. 29 + c.args.place ≤ length (classes_of us)) (sym c.orders.ensures) (class_there c.args.lookup.now.units c.args.place c.requires.there)

pub any_leaves_open-requires-clause-class : goal.any_leaves_open-requires-clause-class
any_leaves_open-requires-clause-class c = class_there c.args.lookup.now.units c.args.place c.requires.there

pub returns-then-not-has-clause-answer : goal.returns-then-not-has-clause-answer
returns-then-not-has-clause-answer c =
    let same : 29 + c.args.place ≡ number_of_file c.args.place = omega arith in
    let all = tested Implemented c.args.lookup.now.units c.orders.result.now (29 + c.args.place) c.args.place c.of.result.now.methods c.numbers-order.result.now c.any_leaves_open.result (method_order)
    c.any_leaves_open.ensures.answer c.numbers-order.ensures c.of.ensures.methods c.orders.ensures same in
    let concrete : has c.args.flags ABSTRACT ≡ false = sym c.has.ensures ∙ c.if-not-has.true in
    rw concrete all
