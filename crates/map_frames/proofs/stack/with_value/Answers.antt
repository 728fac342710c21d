use Rattle.std.proofs.Common.{◌∷◌, ◌++◌, [], append_assoc, sym, ap, subst, ◌∙◌}
use Rattle.type_lists.proofs.SetLaws.{on_ok}
use Rattle.type_rules.specs.declared.types.VerificationType.TheVariants.{Second}
use Rattle.map_frames.specs.Making.{IsStack}
use Rattle.map_frames.proofs.stack.with_value.Goals as goal

pub returns-then-not-is_wide-clause-words : goal.returns-then-not-is_wide-clause-words
returns-then-not-is_wide-clause-words c = λ locals unset ws before.
    subst (λ x. IsStack c.with_word.new.stores c.in_ok-made.made locals unset (ws ++ x)) (sym (c.is_wide.ensures.narrow c.if-not-is_wide.true))
    (c.in_ok-made.ensures.words locals unset ws before)

pub returns-clause-words : goal.returns-clause-words
returns-clause-words c = λ locals unset ws before.
    on_ok _ _ c.with_word-2.result
    (λ made are.
    subst (λ x. IsStack c.with_word-2.new.stores made locals unset x)
    (append_assoc ws (c.args.value ∷ []) (Second ∷ []) ∙ ap (λ x. ws ++ x) (sym (c.is_wide.ensures.wide c.if-not-is_wide.false))) are)
    (c.with_word-2.ensures.words locals unset (ws ++ c.args.value ∷ []) (c.in_ok-made.ensures.words locals unset ws before))
