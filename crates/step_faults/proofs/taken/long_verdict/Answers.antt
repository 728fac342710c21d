use Rattle.std.proofs.Common.{◌∷◌, [], ap, ◌∙◌}
use Rattle.type_rules.specs.Wants.{Verdict}
use Rattle.word_types.specs.Verdicts.{verdict_meant}
use Rattle.step_faults.proofs.Verdicts.{long_under}
use Rattle.step_faults.proofs.taken.long_verdict.Goals as goal

pub returns : goal.returns
returns g c = λ env ws.
    long_under env ws (g.F.FrameWords.frame c.args.frame.now).stack c.args.under c.stack_word.result c.stack_word-2.result (verdict_meant c.right_if.result)
    c.requires.there c.stack_word.ensures c.stack_word-2.ensures (ap (λ (v : Verdict). v ∷ []) c.right_if.ensures ∙ c.is_long.ensures env)
