use Rattle.code_frames.proofs.TableLaws.{map_once, map_or_bad, bad_once}
use Rattle.code_frames.proofs.laws.one_answer.Goals as goal

pub returns-clause-frames : goal.returns-clause-frames
returns-clause-frames c = map_once

pub returns-clause-number : goal.returns-clause-number
returns-clause-number c = bad_once

pub returns-clause-either : goal.returns-clause-either
returns-clause-either c = map_or_bad
