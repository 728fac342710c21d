use Rattle.std.proofs.Common.{◌≡◌, ℕ, take, reverse}
use Rattle.std.specs.Option.{option_or}
use Rattle.word_texts.specs.OldWords.{old_at, oldest_at}
use Rattle.word_texts.proofs.old_words.OldWords.add_log.Given as goal

abbrev pub invariant-loop-noted : goal.invariant-loop-noted
invariant-loop-noted l = (p : ℕ) → old_at l.self p ≡ option_or (old_at l.initial.self p) (oldest_at (reverse (take l.noted-index l.log)) p)
