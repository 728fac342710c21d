use Rattle.std.proofs.Common.{ap, sym, ◌∙◌}
use Rattle.std.specs.Prelude.{slice_get, option_map}
use Rattle.std.proofs.lemmas.Option.{slice_get-map}
use Rattle.why_texts.specs.Telling.{rules_of, shown_rule}
use Rattle.why_texts.proofs.Numbers.{rule_of-place}
use Rattle.why_texts.proofs.telling.rule_of.Goals as goal

pub returns : goal.returns
returns c =
    rw (rule_of-place c.args.stage c.args.number c.in_ok-index.ensures.0)
    (ap (option_map shown_rule) c.rule_at.ensures
    ∙ (sym (slice_get-map shown_rule c.rules_of.result.now c.from.result)
    ∙ (ap (λ rs. slice_get rs c.from.result) c.rules_of.ensures
    ∙ ap (slice_get (rules_of c.args.stage)) (c.from.ensures ∙ c.in_ok-index.ensures.1))))
