use Rattle.std.proofs.Common.{◌≡◌, ℕ, ◌+◌, Option, List, [], ◌∷◌, ◌++◌, sym, ◌∙◌, subst, arith}
use Rattle.op_core.specs.declared.ThreadEnd.{ThreadEnd}
use Rattle.thread_automaton.specs.ThreadState.{ThreadState}
use Rattle.thread_moves.specs.Thread.{thread_of}
use Rattle.word_machine.specs.Machine.{threads_in}
use Rattle.sched_core.specs.Ends.{end_at}
use Rattle.sched_core.proofs.EndLemmas.{AreEndsBelow, one_more_end, no_more_ends, ends_so, none_left, unsaid, all_ended}
use Rattle.sched_core.proofs.ends.ends_of.Goals as goal
use Rattle.sched_core.proofs.ends.ends_of.Goals.{in-Some+in_ok-push, in_default}

pub loop-number-preserved : goal.loop-number-preserved
loop-number-preserved g c =
    let threads : ℕ → Option (ThreadState g.C.ThreadCode.State) = threads_in (thread_of g.C.ThreadCode.state g.C.ThreadCode.saved) c.args.machine.now.seats.places.items in
    let before : List ThreadEnd = c.loop-number.ends in
    let n : ℕ = c.loop-number.number in
    elim c.match-end_of.branch [
      | in-Some+in_ok-push w ↦
          let said : ThreadEnd = w.in-Some.end in
          let same : c.match-end_of.ends ≡ before ++ said ∷ [] = w.ends-is ∙ w.in_ok-push.ensures.ok in
          subst (AreEndsBelow g.C.ThreadCode.code threads (n + 1)) (sym same) (one_more_end g.C.ThreadCode.code threads n before said c.loop-number.invariant (ends_so g.C.ThreadCode.code n (threads n) said (sym c.end_of.ensures ∙ w.in-Some.is)))
      | in_default w ↦
          subst (AreEndsBelow g.C.ThreadCode.code threads (n + 1)) (sym w.ends-is) (no_more_ends g.C.ThreadCode.code threads n before c.loop-number.invariant (λ had. unsaid g.C.ThreadCode.code n (threads n) had.0 (none_left (end_at g.C.ThreadCode.code n (threads n)) (λ said is. w.in_default.not-Some said (c.end_of.ensures ∙ is))) had.1))
    ]

pub returns : goal.returns
returns g c = λ core same. all_ended g.C.ThreadCode.code (threads_in (thread_of g.C.ThreadCode.state g.C.ThreadCode.saved) c.args.machine.now.seats.places.items) c.loop-number.number c.loop-number.ends c.loop-number.invariant
    (λ k past. c.count-number-end.ensures.above k (omega (arith, past, c.loop-number-test.false))) core same.threads
