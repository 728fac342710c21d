use Rattle.std.proofs.Common.{◌≡◌, arith}
use Rattle.thread_automaton.specs.ThreadState.{ThreadState}
use Rattle.thread_moves.specs.Thread.{thread_of}
use Rattle.thread_moves.specs.Change.{change_meant}
use Rattle.thread_changes.proofs.CountLemmas.{counted_stays}
use Rattle.thread_changes.proofs.absorbing.absorb.Goals as goal

pub count_turn-requires : goal.count_turn-requires
count_turn-requires g c =
    let th : ThreadState g.C.ThreadCode.State = thread_of g.C.ThreadCode.state g.C.ThreadCode.saved c.args.thread.now in
    let same : c.apply.new.thread.own.counted ≡ c.args.thread.now.own.counted =
    counted_stays g.C.ThreadCode.code th (thread_of g.C.ThreadCode.state g.C.ThreadCode.saved c.apply.new.thread) (change_meant th c.change_of-change.result)
    c.apply.ensures.thread in
    omega (arith, same, c.requires.counts)
