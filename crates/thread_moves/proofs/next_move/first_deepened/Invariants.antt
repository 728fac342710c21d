use Rattle.std.proofs.Common.{◌≡◌, [], take}
use Rattle.thread_moves.proofs.DeepenedLemmas.{deepened}
use Rattle.thread_moves.proofs.next_move.first_deepened.Given as goal

abbrev pub invariant-loop-held : goal.invariant-loop-held
invariant-loop-held l = deepened (take l.held-index l.before) l.now.newest_first ≡ []
