use Rattle.std.proofs.Common.{inl, inr, length, arith, sym, below_more, ap, ◌∙◌}
use Rattle.std.proofs.lemmas.Bool.Decides.{leb_tells}
use Rattle.std.proofs.lemmas.List.{get_or_past}
use Rattle.type_rules.specs.Assignable.{is_same_type}
use Rattle.type_rules.specs.declared.types.VerificationType.TheVariants.{Top}
use Rattle.type_lists.proofs.find.has_leaf.Goals as goal

pub returns-then-is_same_type-clause-found : goal.returns-then-is_same_type-clause-found
returns-then-is_same_type-clause-found c = λ _.
    let at = c.loop-found.found-index in
    let words = c.leaf_words-found-items.ensures.words in (
      at,
      omega (arith, c.loop-found-test.true, c.leaf_words-found-items.ensures.few),
      ap (λ w. is_same_type c.args.word w) (sym (words at)) ∙ sym c.is_same_type.ensures ∙ c.if-is_same_type.true,
    )

pub loop-found-preserved : goal.loop-found-preserved
loop-found-preserved c =
    below_more _ _ c.loop-found.invariant
    (ap (λ w. is_same_type c.args.word w) (sym (c.leaf_words-found-items.ensures.words c.loop-found.found-index)) ∙ sym c.is_same_type.ensures ∙ c.if-is_same_type.false)

pub returns-clause-absent : goal.returns-clause-absent
returns-clause-absent c = λ _ n _.
    let items = c.leaf_words-found-items.result.now in
    elim (leb_tells (length items) n) [
      | inl past ↦ ap (λ w. is_same_type c.args.word w) (sym (c.leaf_words-found-items.ensures.words n) ∙ get_or_past items n Top past.1) ∙ c.requires
      | inr inside ↦ c.loop-found.invariant n (omega (arith, inside.1, c.loop-found-test.false))
    ]
