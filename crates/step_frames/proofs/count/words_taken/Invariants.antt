use Rattle.std.proofs.Common.{◌≡◌, ◌+◌, ◌≤◌, length}
use Rattle.type_rules.specs.Wants.{words_wanted}
use Rattle.step_wants.specs.Wanted.{words_listed}
use Rattle.step_frames.proofs.count.words_taken.Given as goal

abbrev pub invariant-loop-want : goal.invariant-loop-want
invariant-loop-want l = record {
  left : l.left ≤ l.height;
  taken : words_wanted (words_listed l.rest) + l.height ≡ words_wanted (words_listed l.wanted) + l.left;
}

abbrev pub decreases-loop-want : goal.decreases-loop-want
decreases-loop-want l = length (words_listed l.rest)
