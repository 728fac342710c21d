use Rattle.text_stages.proofs.StandLaws as laws
use Rattle.text_stages.proofs.laws.texts_end_no_frame.Goals as goal

pub returns : goal.returns
returns c = laws.texts_end_no_frame
