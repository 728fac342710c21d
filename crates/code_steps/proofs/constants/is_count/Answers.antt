use Rattle.code_steps.proofs.PoolLaws.{counted, not_counted}
use Rattle.code_steps.proofs.constants.is_count.Goals as goal

pub returns-in-Some : goal.returns-in-Some
returns-in-Some c = rw c.has_words.ensures (counted c.args.pool.now c.args.descriptor c.args.count c.in-Some.text c.in-Some.ensures)

pub returns-in-None : goal.returns-in-None
returns-in-None c = not_counted c.args.pool.now c.args.descriptor c.args.count c.in-None.ensures
