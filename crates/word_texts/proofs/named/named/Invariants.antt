use Rattle.std.proofs.Common.{take}
use Rattle.word_texts.proofs.NamedLemmas.{AreNamed}
use Rattle.word_texts.proofs.named.named.Given as goal

abbrev pub invariant-loop-line : goal.invariant-loop-line
invariant-loop-line l = AreNamed (take l.line-index l.lines) l.arrays.items
