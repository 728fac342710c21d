use Rattle.std.proofs.Common.{ap, subst, ◌∙◌}
use Rattle.type_lists.specs.Parts.{child_at}
use Rattle.type_lists.specs.Marks.{mark_at, HasBits}
use Rattle.type_lists.proofs.MarkLaws.{node_covered}
use Rattle.type_lists.proofs.set.node_with.Goals as goal

pub put-requires-clause-covers : goal.put-requires-clause-covers
put-requires-clause-covers c = λ has.
    let parts = c.args.parts.now.items in
    let marks = c.args.marks.now.items in
    node_covered parts marks c.args.part c.args.digit c.children_of-children.result c.args.made c.requires.marked
    (λ j. c.children_of-children.ensures j ∙ ap (λ ps. child_at ps c.args.part j) c.deref.ensures.value)
    (subst (HasBits (mark_at marks c.args.part)) (c.mark_of_part-more.ensures ∙ ap (λ ms. mark_at ms c.args.made) c.deref-2.ensures.value) has)
