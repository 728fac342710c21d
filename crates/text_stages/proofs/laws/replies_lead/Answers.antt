use Rattle.text_stages.proofs.StageLaws as laws
use Rattle.text_stages.proofs.laws.replies_lead.Goals as goal

pub returns : goal.returns
returns c = laws.replies_lead
