use Rattle.std.proofs.Common.{◌≡◌, take, drop}
use Rattle.assembler_lines.specs.ReadingFrames.{split_at_slash}
use Rattle.assembler_lines.proofs.FrameLaws.{with_parts}
use Rattle.assembler_lines.proofs.frames.split_at_slash.Given as goal

abbrev pub invariant-loop-end : goal.invariant-loop-end
invariant-loop-end l = with_parts (take l.end l.words) (split_at_slash (drop l.end l.words)) ≡ split_at_slash l.words
