use Rattle.std.proofs.Common.{◌≡◌, drop}
use Rattle.assembler_lines.specs.Front.{each}
use Rattle.assembler_lines.specs.ReadingSwitches.{plain_name}
use Rattle.assembler_lines.proofs.EachLaws.{with_front}
use Rattle.assembler_lines.proofs.switches.labels.Given as goal

abbrev pub invariant-loop-said : goal.invariant-loop-said
invariant-loop-said l = with_front l.labels (each plain_name (drop l.said-index l.words)) ≡ each plain_name l.words
