use Rattle.std.proofs.Common.{◌≡◌, ◌%◌, ◌^◌, map, take}
use Rattle.machine_tables.proofs.words.low_halves.Given as goal

abbrev pub invariant-loop-word : goal.invariant-loop-word
invariant-loop-word l = l.halves.items ≡ map (λ word. word % 2 ^ 16) (take l.word-index l.words)
