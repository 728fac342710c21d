use Rattle.std.proofs.Common.{◌∙◌}
use Rattle.stress_texts.proofs.ClassLemmas.{are_classes}
use Rattle.stress_texts.proofs.classes.stress_classes.Goals as goal

pub returns : goal.returns
returns c =
    are_classes c.args.number _ _ _ _ _ c.in_ok-files.ensures (c.as_str.ensures.value ∙ c.in_ok-stress.ensures) c.worker_text.ensures
    c.in_ok-first.ensures c.in_ok-second.ensures
