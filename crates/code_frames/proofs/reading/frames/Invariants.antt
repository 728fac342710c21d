use Rattle.code_frames.specs.Reading.{previous_of}
use Rattle.code_frames.proofs.TableLaws.{SoFar}
use Rattle.code_frames.proofs.reading.frames.Given as goal

abbrev pub invariant-loop-number : goal.invariant-loop-number
invariant-loop-number l = SoFar l.pool l.steps l.entry_locals l.fn.cursor l.frames l.cursor l.number (previous_of l.least l.locals)
