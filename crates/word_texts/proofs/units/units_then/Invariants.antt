use Rattle.std.proofs.Common.{◌≡◌, map}
use Rattle.std.specs.List.{range_with_len}
use Rattle.plain_words.specs.Table.{words_in}
use Rattle.word_texts.specs.OldWords.{old_at, unit_then}
use Rattle.word_texts.proofs.units.units_then.Given as goal

abbrev pub invariant-loop-i : goal.invariant-loop-i
invariant-loop-i g l = l.units ≡ map (unit_then (old_at l.old) (words_in l.machine.words) l.array) (range_with_len 0 l.i)
