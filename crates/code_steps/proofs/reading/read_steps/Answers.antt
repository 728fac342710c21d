use Rattle.code_steps.proofs.ArrayLaws.{only_this, only_fault}
use Rattle.code_steps.proofs.reading.read_steps.Goals as goal

pub returns-clause-only : goal.returns-clause-only
returns-clause-only c = only_this c.args.pool.now c.args.code.now c.whole.result c.whole.ensures.found c.whole.ensures.exact

pub returns-clause-first : goal.returns-clause-first
returns-clause-first c = only_fault c.args.pool.now c.args.code.now c.whole.result c.whole.ensures.found c.whole.ensures.exact
