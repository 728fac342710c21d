use Rattle.std.proofs.Common.{rules, ◌≡◌, ◌∙◌, ℕ, Bool, true, false, nat_eq, not, sym, ap, arith}
use Rattle.std.specs.Prelude.{get_or}
use Rattle.thread_automaton.specs.declared.Held.{Held}
use Rattle.thread_automaton.specs.ThreadState.{held_as}
use Rattle.thread_moves.proofs.DeepenedLemmas.{found_here, not_same}
use Rattle.thread_moves.proofs.next_move.first_deepened.Goals as goal

pub returns-then-find-held : goal.returns-then-find-held
returns-then-find-held c =
    let d : Held = record { object = 0; level = 0; depth = 0 } in
    let xs = c.args.before.now in
    let k = c.loop-held.held-index in
    sym (found_here c.args.now.now.newest_first xs k d c.loop-held-test.true c.loop-held.invariant
    (ap (λ (h : Held). nat_eq h.depth (get_or xs k d).depth) (sym c.find.ensures) ∙ not_same c.find.result.depth (get_or xs k d).depth c.if-find-held.true))
