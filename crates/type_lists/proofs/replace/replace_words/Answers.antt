use Rattle.std.proofs.Common.{arith, ap, cond, get_or, sym, subst, ◌+◌, ◌∙◌}
use Rattle.type_rules.specs.declared.types.VerificationType.TheVariants.{Top}
use Rattle.type_lists.proofs.Replaced.{next_word, other_word, all_words, ReplacingWords}
use Rattle.type_lists.proofs.replace.replace_words.Goals as goal
use Rattle.type_lists.proofs.replace.replace_words.Goals.{then-is_old, else-is_old}

pub loop-place-preserved : goal.loop-place-preserved
loop-place-preserved c =
    let before = c.args.words.now in
    let words = c.loop-place.words in
    let place = c.loop-place.place in (
      c.loop-place.invariant.0,
      elim c.if-is_old.branch [
        | then-is_old w ↦
            subst (λ ws. ReplacingWords before ws c.args.old c.args.new (place + 1)) (sym w.words-is)
            (next_word before words c.args.old c.args.new place c.args.new (sym (ap (λ b. cond b c.args.new (get_or words place Top)) (sym c.is_old.ensures ∙ w.if-is_old.true))) (omega (arith, c.loop-place-test.true)) c.loop-place.invariant.1)
        | else-is_old w ↦
            subst (λ ws. ReplacingWords before ws c.args.old c.args.new (place + 1)) (sym w.words-is)
            (other_word before words c.args.old c.args.new place (sym c.is_old.ensures ∙ w.if-is_old.false) c.loop-place.invariant.1)
      ],
    )

pub returns : goal.returns
returns c =
    all_words c.args.words.now c.loop-place.words c.args.old c.args.new c.loop-place.place c.loop-place.invariant.1 (omega (arith, c.loop-place-test.false)) c.loop-place.invariant.0 c.requires
