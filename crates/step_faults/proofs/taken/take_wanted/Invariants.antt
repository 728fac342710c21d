use Rattle.std.proofs.Common.{◌≡◌, ◌+◌, ◌-◌, ◌≤◌, length, drop}
use Rattle.type_rules.specs.Wants.{words_wanted, verdicts}
use Rattle.word_types.specs.Verdicts.{verdict_meant}
use Rattle.step_wants.specs.Wanted.{words_listed}
use Rattle.step_faults.specs.Worst.{worse, worst}
use Rattle.step_faults.proofs.taken.take_wanted.Given as goal

abbrev pub invariant-loop-want : goal.invariant-loop-want
invariant-loop-want g l = record {
  height : length (g.F.FrameWords.frame l.frame).stack ≡ l.height;
  left : l.left ≤ l.height;
  room : words_wanted (words_listed l.rest) + l.height ≡ words_wanted (words_listed l.wanted) + l.left;
  verdict : worse (verdict_meant l.verdict)
      (worst (verdicts (g.W.MethodWorld.environment l.world) (words_listed l.rest) (drop (l.height - l.left) (g.F.FrameWords.frame l.frame).stack)))
      ≡ worst (verdicts (g.W.MethodWorld.environment l.world) (words_listed l.wanted) (g.F.FrameWords.frame l.frame).stack);
}

abbrev pub decreases-loop-want : goal.decreases-loop-want
decreases-loop-want g l = length (words_listed l.rest)
