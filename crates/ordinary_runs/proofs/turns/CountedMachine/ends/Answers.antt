use Rattle.std.proofs.Common.{◌≡◌, ℕ, ◌+◌, List, [], ◌∷◌, ◌++◌, sym, ◌∙◌, subst}
use Rattle.op_core.specs.declared.ThreadEnd.{ThreadEnd}
use Rattle.ordinary_machine.specs.Machine.{machine_of}
use Rattle.ordinary_runs.proofs.EndLemmas.{AreEndsBelow, one_more_end, no_more_ends}
use Rattle.ordinary_runs.proofs.turns.CountedMachine.ends.Goals as goal
use Rattle.ordinary_runs.proofs.turns.CountedMachine.ends.Goals.{in-Some+in_ok-push, in_default}

pub loop-number-preserved : goal.loop-number-preserved
loop-number-preserved g c =
    let now = (machine_of g.C.ThreadCode.state c.args.self.now.machine).now in
    let before : List ThreadEnd = c.loop-number.ends in
    let n : ℕ = c.loop-number.number in
    elim c.match-end_of.branch [
      | in-Some+in_ok-push w ↦
          let end : ThreadEnd = w.in-Some.end in
          let same : c.match-end_of.ends ≡ before ++ end ∷ [] = w.ends-is ∙ w.in_ok-push.ensures.ok in
          subst (AreEndsBelow now (n + 1)) (sym same) (one_more_end now n before end c.loop-number.invariant w.in-Some.ensures.0 w.in-Some.ensures.1)
      | in_default w ↦
          subst (AreEndsBelow now (n + 1)) (sym w.ends-is) (no_more_ends now n before c.loop-number.invariant w.in_default.ensures)
    ]
