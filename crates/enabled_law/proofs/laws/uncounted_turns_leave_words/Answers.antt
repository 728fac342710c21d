use Rattle.enabled_law.proofs.CountLemmas.{uncounted_leave}
use Rattle.enabled_law.proofs.laws.uncounted_turns_leave_words.Goals as goal

pub returns : goal.returns
returns g c = uncounted_leave g.C.ThreadCode.code
