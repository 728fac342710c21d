use Rattle.text_stages.proofs.StageLaws as laws
use Rattle.text_stages.proofs.laws.texts_begin.Goals as goal

pub returns : goal.returns
returns c = laws.texts_begin
