use Rattle.std.proofs.Common.{◌≡◌, drop}
use Rattle.assembler_lines.specs.Front.{each}
use Rattle.assembler_lines.specs.ReadingFrames.{item_of}
use Rattle.assembler_lines.proofs.EachLaws.{with_front}
use Rattle.assembler_lines.proofs.frames.items.Given as goal

abbrev pub invariant-loop-said : goal.invariant-loop-said
invariant-loop-said l = with_front l.items (each item_of (drop l.said-index l.words)) ≡ each item_of l.words
