use Rattle.std.proofs.Common.{◌≡◌, ℕ, List, drop}
use Rattle.assembler_bodies.specs.Labels.{first_mark, marks_from, marks_in}
use Rattle.assembler_bodies.specs.Marks.{mark_in}
use Rattle.assembler_bodies.proofs.labels.marks_of.Given as goal

abbrev pub invariant-loop-numbered : goal.invariant-loop-numbered
invariant-loop-numbered l = (q : List ℕ) → first_mark (mark_in l.marks q) (marks_from l.offset (drop l.numbered-index l.lines) q) ≡ marks_in l.lines q
