use Rattle.std.proofs.Common.{arith}
use Rattle.link_rules.specs.Classes.{classes_of, superclass_of}
use Rattle.link_rules.proofs.Numbers.{past_super}
use Rattle.class_relations.proofs.RelationLaws.{list_is}
use Rattle.class_relations.proofs.relations.superclass_list.Goals as goal

pub returns : goal.returns
returns c =
    let cs = classes_of c.args.supers.now in
    list_is (superclass_of cs) 0 c.loop-class.list.items
    (λ n lt. c.loop-class.invariant.each n (omega (arith, lt, c.loop-class.invariant.count)))
    (λ n ge. past_super cs n (omega (arith, ge, c.loop-class.invariant.count, c.loop-class-test.false, c.requires.count)))
