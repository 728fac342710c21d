use Rattle.text_stages.proofs.MakingLaws as laws
use Rattle.text_stages.proofs.laws.texts_are_made.Goals as goal

pub returns : goal.returns
returns c = laws.texts_are_made
