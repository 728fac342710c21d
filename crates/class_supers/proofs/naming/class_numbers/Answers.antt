use Rattle.std.proofs.Common.{◌≡◌, ◌+◌, ◌<◌, List, take, length, arith, subst, sym, refl}
use Rattle.std.proofs.lemmas.List.{take_all}
use Rattle.std.proofs.lemmas.Option.{slice_get_read}
use Rattle.std.proofs.lemmas.Result.{err_from_is_err_and}
use Rattle.rules.specs.Rules.{Rules}
use Rattle.rules.proofs.RuleLaws.{one_more, all_hold}
use Rattle.link_types.specs.declared.refusal.LinkRefusal.{LinkRefusal}
use Rattle.link_rules.specs.Classes.{NamedClass, classes_of, class_of_unit, class_number}
use Rattle.link_rules.specs.LinkRules.{twice_rules}
use Rattle.class_supers.specs.Answers.{Refuses}
use Rattle.class_supers.specs.Numbers.{number_named, AreNumbersOf}
use Rattle.class_supers.proofs.ClassLaws.{take_classes, classes_more, count_of_first}
use Rattle.class_supers.proofs.RuleLaws.{refuses_at}
use Rattle.class_supers.proofs.naming.class_numbers.Goals as goal

pub returns-in_err-add_file : goal.returns-in_err-add_file
returns-in_err-add_file c =
    let us = c.args.units.now in
    let k = c.loop-place.place in
    let u = c.index-units-place.result in
    let at = slice_get_read us (length us) k u refl c.loop-place-test.true c.index-units-place.is in
    let p = err_from_is_err_and c.from_residual-in_err-add_file.result c.from_residual-in_err-add_file.ensures.1 in
    let lt : k < length us = c.loop-place-test.true in
    let refused = c.in_err-add_file.ensures (classes_of (take k us)) c.loop-place.invariant.known (count_of_first us k (omega arith)) in
    let family : List NamedClass → Type 0 = λ cs. Refuses c.in_err-add_file.field-0.0 (Rattle.rules.specs.Rules.must (class_number cs (class_of_unit u).name ≡ 0) (Rattle.link_types.specs.declared.refusal.LinkRefusal.TheVariants.At Rattle.link_types.specs.declared.refusal.LinkKind.TheVariants.Twice k 0)) in
    rw (p.1, p.2) (refuses_at (λ k u. twice_rules (classes_of us) k (class_of_unit u)) us k u _ at c.loop-place.invariant.apart (subst family (sym (take_classes us k)) refused))

pub loop-place-preserved : goal.loop-place-preserved
loop-place-preserved c =
    let us = c.args.units.now in
    let k = c.loop-place.place in
    let u = c.index-units-place.result in
    let at = slice_get_read us (length us) k u refl c.loop-place-test.true c.index-units-place.is in
    let lt : k < length us = c.loop-place-test.true in
    let added = c.in_ok-add_file.ensures (classes_of (take k us)) c.loop-place.invariant.known (count_of_first us k (omega arith)) in
    let new : class_number (take (28 + k) (classes_of us)) (class_of_unit u).name ≡ 0 = subst (λ cs. class_number cs (class_of_unit u).name ≡ 0) (sym (take_classes us k)) added.0 in
    record {
      known = subst (AreNumbersOf (number_named c.add_file.new.numbers)) (sym (classes_more us k u at)) added.1;
      apart = one_more (λ k u. twice_rules (classes_of us) k (class_of_unit u)) us k u at c.loop-place.invariant.apart new;
    }

pub returns : goal.returns
returns c =
    let us = c.args.units.now in
    let k = c.loop-place.place in (
      all_hold (λ k u. twice_rules (classes_of us) k (class_of_unit u)) us k c.loop-place-test.false c.loop-place.invariant.apart,
      subst (λ xs. AreNumbersOf (number_named c.loop-place.numbers) (classes_of xs)) (take_all k us c.loop-place-test.false) c.loop-place.invariant.known,
    )
