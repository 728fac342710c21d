use Rattle.accepted_runs.proofs.sound_texts.Whole.{stay_from_start}
use Rattle.accepted_runs.proofs.sound_texts.texts_never_change.Goals as goal

pub returns : goal.returns
returns c us order main sound room is = stay_from_start us order sound room main is
