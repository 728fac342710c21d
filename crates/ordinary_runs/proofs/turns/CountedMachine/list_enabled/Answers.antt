use Rattle.std.proofs.Common.{◌≡◌, ℕ, ◌+◌, List, [], ◌∷◌, ◌++◌, sym, ◌∙◌, ap, subst, arith}
use Rattle.std.proofs.lemmas.Bool.{false≢true}
use Rattle.schedules.specs.Laws.{AreThoseBelow}
use Rattle.ordinary_machine.specs.Machine.{machine_of}
use Rattle.ordinary_machine.specs.Advance.{MayAdvance}
use Rattle.ordinary_runs.proofs.EndLemmas.{one_more_listed, no_more_listed, all_listed}
use Rattle.ordinary_runs.proofs.RunLemmas.{begun_within}
use Rattle.ordinary_runs.proofs.turns.CountedMachine.list_enabled.Goals as goal
use Rattle.ordinary_runs.proofs.turns.CountedMachine.list_enabled.Goals.{then-is_enabled+in_ok-add, else-is_enabled}

pub loop-number-preserved : goal.loop-number-preserved
loop-number-preserved g c =
    let enabled = MayAdvance g.C.ThreadCode.code (machine_of g.C.ThreadCode.state c.args.self.now.machine) in
    let before : List ℕ = c.loop-number.threads.items in
    let n : ℕ = c.loop-number.number in
    elim c.if-is_enabled.branch [
      | then-is_enabled+in_ok-add w ↦
          let same : c.if-is_enabled.threads.items ≡ before ++ n ∷ [] = ap (λ v. v.items) w.threads-is ∙ w.in_ok-add.ensures in
          subst (AreThoseBelow enabled (n + 1)) (sym same) (one_more_listed enabled n before c.loop-number.invariant (c.is_enabled.ensures.0 w.if-is_enabled.true))
      | else-is_enabled w ↦
          let same : c.if-is_enabled.threads.items ≡ before = ap (λ v. v.items) w.threads-is in
          subst (AreThoseBelow enabled (n + 1)) (sym same) (no_more_listed enabled n before c.loop-number.invariant (λ may. false≢true (sym w.if-is_enabled.false ∙ c.is_enabled.ensures.1 may)))
    ]

pub returns : goal.returns
returns g c =
    let machine = machine_of g.C.ThreadCode.state c.args.self.now.machine in
    all_listed (MayAdvance g.C.ThreadCode.code machine) c.loop-number.number c.loop-number.threads.items c.loop-number.invariant
    (λ t may. omega (arith, begun_within machine.now.threads c.highest.result t c.highest.ensures.above may.begun, c.loop-number-test.false))
