use Rattle.std.proofs.Common.{false, arith}
use Rattle.access_flags.specs.declared.TheConstants.{INTERFACE}
use Rattle.link_rules.specs.Classes.{classes_of, class_has}
use Rattle.class_relations.proofs.RelationLaws.{list_is, no_flag}
use Rattle.class_relations.proofs.relations.interface_list.Goals as goal

pub returns : goal.returns
returns c =
    let cs = classes_of c.args.supers.now in
    list_is (λ n. class_has cs n INTERFACE) false c.loop-class.list.items
    (λ n lt. c.loop-class.invariant.each n (omega (arith, lt, c.loop-class.invariant.count)))
    (λ n ge. no_flag cs INTERFACE n (omega (arith, ge, c.loop-class.invariant.count, c.loop-class-test.false, c.requires.count)))
