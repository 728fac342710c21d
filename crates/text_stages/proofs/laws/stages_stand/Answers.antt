use Rattle.text_stages.proofs.StandLaws as laws
use Rattle.text_stages.proofs.laws.stages_stand.Goals as goal

pub returns : goal.returns
returns c = laws.stages_stand
