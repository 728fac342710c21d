use Rattle.std.proofs.Common.{◌∷◌, ◌++◌, [], append_assoc, sym, ap, subst, ◌∙◌}
use Rattle.type_rules.specs.declared.types.VerificationType.TheVariants.{Second}
use Rattle.map_frames.specs.Making.{AreWords}
use Rattle.map_frames.proofs.items.without_item.Goals as goal

pub returns-then-not-is_wide-clause-words : goal.returns-then-not-is_wide-clause-words
returns-then-not-is_wide-clause-words c = λ ws before.
    c.without_word.ensures.words ws
    (subst (λ x. AreWords c.args.stores.now c.args.words (ws ++ x)) (c.is_wide.ensures.narrow c.if-not-is_wide.true) before)

pub returns-clause-words : goal.returns-clause-words
returns-clause-words c = λ ws before.
    c.without_word-3.ensures.words ws
    (c.in_ok-first.ensures.words (ws ++ c.args.item ∷ [])
    (subst (λ x. AreWords c.args.stores.now c.args.words x)
    (ap (λ x. ws ++ x) (c.is_wide.ensures.wide c.if-not-is_wide.false) ∙ sym (append_assoc ws (c.args.item ∷ []) (Second ∷ []))) before))
