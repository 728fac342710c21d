use Rattle.std.proofs.Common.{inr, refl, ap, subst, ◌∙◌}
use Rattle.type_lists.specs.Marks.{mark_at, HasBits}
use Rattle.type_lists.proofs.MarkLaws.{changed_marked}
use Rattle.type_lists.proofs.SetLaws.{on_ok}
use Rattle.type_lists.proofs.TreeLaws.{changed_closed, changed_others}
use Rattle.type_lists.proofs.set.put.Goals as goal

pub returns-then-part-kept-clause-which : goal.returns-then-part-kept-clause-which
returns-then-part-kept-clause-which c = on_ok _ _ c.push.result (λ made is. inr is.2) c.push.ensures.made

pub returns-clause-others : goal.returns-clause-others
returns-clause-others c = changed_others c.args.parts.now.items c.args.kept c.args.part c.args.new c.if-part-kept.false

pub returns-clause-closed : goal.returns-clause-closed
returns-clause-closed c = changed_closed c.args.parts.now.items c.args.kept c.args.part c.args.new c.if-part-kept.false c.requires.list c.requires.closed c.requires.children

pub returns-clause-marked : goal.returns-clause-marked
returns-clause-marked c =
    let marks = c.args.marks.now.items in
    changed_marked c.args.parts.now.items marks c.args.kept c.args.part c.args.new c.if-part-kept.false c.requires.list c.requires.marked
    (c.requires.covers (subst (λ m. HasBits m c.args.more) (c.mark_of_part.ensures ∙ ap (λ ms. mark_at ms c.args.part) c.deref.ensures.value) (c.if-not-has_bits.ensures.0 refl)))
