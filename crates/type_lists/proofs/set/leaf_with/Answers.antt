use Rattle.std.proofs.Common.{ap, subst, ◌∙◌}
use Rattle.type_lists.specs.Parts.{leaf_word}
use Rattle.type_lists.specs.Marks.{mark_at, HasBits}
use Rattle.type_lists.proofs.MarkLaws.{leaf_covered}
use Rattle.type_lists.proofs.set.leaf_with.Goals as goal

pub put-requires-clause-covers : goal.put-requires-clause-covers
put-requires-clause-covers c = λ has.
    let parts = c.args.parts.now.items in
    let marks = c.args.marks.now.items in
    leaf_covered parts marks c.args.part c.args.place c.words_of_leaf-words.result c.args.word c.requires.marked
    (λ n. c.words_of_leaf-words.ensures n ∙ ap (λ ps. leaf_word ps c.args.part n) c.deref.ensures.value)
    (subst (HasBits (mark_at marks c.args.part)) c.mark_of_word.ensures has)
