use Rattle.text_stages.proofs.MakingLaws as laws
use Rattle.text_stages.proofs.laws.made_texts_are_texts.Goals as goal

pub returns : goal.returns
returns c = laws.made_texts_are_texts
