use Rattle.std.proofs.Common.{length}
use Rattle.class_names.proofs.TextLaws.{SameTest}
use Rattle.class_names.proofs.modified_utf8.is_modified_utf8.Given as goal

abbrev pub invariant-loop-after : goal.invariant-loop-after
invariant-loop-after l = SameTest l.bytes l.rest

abbrev pub decreases-loop-after : goal.decreases-loop-after
decreases-loop-after l = length l.rest
