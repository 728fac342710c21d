use Rattle.text_stages.proofs.ReadingLaws as laws
use Rattle.text_stages.proofs.laws.texts_are_read.Goals as goal

pub returns : goal.returns
returns c = laws.texts_are_read
