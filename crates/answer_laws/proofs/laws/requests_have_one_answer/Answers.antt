use Rattle.answer_laws.proofs.OneAnswer.{one_answer}
use Rattle.answer_laws.proofs.laws.requests_have_one_answer.Goals as goal

pub returns : goal.returns
returns c = one_answer
