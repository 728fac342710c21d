use Rattle.text_stages.proofs.StageLaws as laws
use Rattle.text_stages.proofs.laws.silent_steps_lead.Goals as goal

pub returns : goal.returns
returns c = laws.silent_steps_lead
