use Rattle.answer_laws.proofs.Traced.{accepted_traces}
use Rattle.answer_laws.proofs.laws.traces_are_accepted.Goals as goal

pub returns : goal.returns
returns c = accepted_traces
