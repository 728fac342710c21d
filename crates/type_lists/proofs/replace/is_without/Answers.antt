use Rattle.std.proofs.Common.{sym, below_more, ap, ◌∙◌}
use Rattle.type_rules.specs.Assignable.{is_same_type}
use Rattle.type_lists.proofs.replace.is_without.Goals as goal

pub loop-word-preserved : goal.loop-word-preserved
loop-word-preserved c =
    below_more _ _ c.loop-word.invariant
    (ap (λ w. is_same_type w c.args.old) (sym (c.leaf_words-word-items.ensures.words c.loop-word.word-index)) ∙ sym c.is_old.ensures ∙ c.if-is_old.false)
