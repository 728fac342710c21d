use Rattle.std.proofs.Common.{◌≡◌, ℕ, ◌+◌, List, [], ◌∷◌, ◌++◌, sym, ◌∙◌, ap, subst}
use Rattle.std.proofs.lemmas.Bool.{false≢true}
use Rattle.schedules.specs.Laws.{AreThoseBelow}
use Rattle.thread_moves.specs.Thread.{thread_of}
use Rattle.sched_core.specs.ScheduledRun.{CanGoOn}
use Rattle.sched_core.proofs.ListLemmas.{one_more_listed, no_more_listed}
use Rattle.sched_core.proofs.run.list_enabled.Goals as goal
use Rattle.sched_core.proofs.run.list_enabled.Goals.{then-is_enabled+in_ok-add, else-is_enabled}

pub loop-number-preserved : goal.loop-number-preserved
loop-number-preserved g c =
    let goes_on : ℕ → Type 0 = CanGoOn g.C.ThreadCode.code (thread_of g.C.ThreadCode.state g.C.ThreadCode.saved) c.args.machine.now.words c.args.machine.now.seats.places.items in
    let before : List ℕ = c.loop-number.threads.items in
    let n : ℕ = c.loop-number.number in
    elim c.if-is_enabled.branch [
      | then-is_enabled+in_ok-add w ↦
          let same : c.if-is_enabled.threads.items ≡ before ++ n ∷ [] = ap (λ v. v.items) w.threads-is ∙ w.in_ok-add.ensures in
          subst (AreThoseBelow goes_on (n + 1)) (sym same) (one_more_listed goes_on n before c.loop-number.invariant (sym c.is_enabled.ensures ∙ w.if-is_enabled.true))
      | else-is_enabled w ↦
          let same : c.if-is_enabled.threads.items ≡ before = ap (λ v. v.items) w.threads-is in
          subst (AreThoseBelow goes_on (n + 1)) (sym same) (no_more_listed goes_on n before c.loop-number.invariant (λ can. false≢true (sym w.if-is_enabled.false ∙ c.is_enabled.ensures ∙ can)))
    ]
