use Rattle.std.proofs.Common.{take}
use Rattle.journal_check.specs.Checking.{Judges}
use Rattle.journal_check.proofs.progress.Progress.judge_all.Given as goal

abbrev pub invariant-loop-index : goal.invariant-loop-index
invariant-loop-index g l = Judges g.C.ThreadCode.code g.C.ThreadCode.state l.initial.self l.self l.first (take l.index l.items)
