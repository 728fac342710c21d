use Rattle.std.proofs.Common.{◌≡◌, length}
use Rattle.type_lists.proofs.Replaced.{ReplacingWords}
use Rattle.type_lists.proofs.replace.replace_words.Given as goal

abbrev pub invariant-loop-place : goal.invariant-loop-place
invariant-loop-place l = (length l.fn.words ≡ 8) × ReplacingWords l.fn.words l.words l.old l.new l.place
