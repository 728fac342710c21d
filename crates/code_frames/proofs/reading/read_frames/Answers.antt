use Rattle.code_frames.proofs.TableLaws.{answer_found, answer_bad}
use Rattle.code_frames.proofs.reading.read_frames.Goals as goal

pub returns-clause-only : goal.returns-clause-only
returns-clause-only c = λ frames is. answer_found c.args.pool.now c.args.steps.now c.args.entry_locals c.args.maps.now c.whole.result frames c.whole.ensures.answer is

pub returns-clause-first : goal.returns-clause-first
returns-clause-first c = λ number is. answer_bad c.args.pool.now c.args.steps.now c.args.entry_locals c.args.maps.now c.whole.result number c.whole.ensures.answer is
