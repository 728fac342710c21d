use Rattle.std.proofs.Common.{◌≡◌, ◌⊎◌, inl, inr, ◌+◌, Some, [], ◌∷◌, ap, arith, refl, sym, subst}
use Rattle.std.specs.Prelude.{IfSome}
use Rattle.step_port.specs.declared.answer.StepAnswer.{StepAnswer}
use Rattle.step_port.specs.declared.step.Step.{Step}
use Rattle.thread_moves.specs.Thread.{thread_of}
use Rattle.table_words.specs.Tables.{setup_in}
use Rattle.table_hosts.specs.declared.tally.Pace.{Pace}
use Rattle.table_hosts.specs.Tallies.{MeetsLimit}
use Rattle.epoch_host.specs.Work.{IsMetAmong}
use Rattle.epoch_host.proofs.Becoming.{became_then, became_by_host, became_by_slice}
use Rattle.epoch_host.proofs.Working.{if_some, work_beside, work_keeps, slice_meets}
use Rattle.epoch_host.proofs.work.work_on.Goals as goal

pub returns-then-is_set : goal.returns-then-is_set
returns-then-is_set g c = λ threads is.
    let e = c.in_ok-keep.ensures in
    let host = became_by_host g.C.ThreadCode.state g.C.ThreadCode.saved g.C.ThreadCode.code c.args.table.now c.args.seated c.load_stop-seated.result.0 Step.LoadStop
    (StepAnswer.Found c.load_stop-seated.ensures.0) c.requires.stands (λ ns. refl) refl refl c.load_stop-seated.ensures.2 in
    work_keeps g.C.ThreadCode.state g.C.ThreadCode.saved g.C.ThreadCode.code c.args.table.now threads c.args.seated c.load_stop-seated.result.0 c.args.worked.now c.keep.new.self is host
    e.threads e.counts.0 e.counts.1 e.met

pub returns : goal.returns
returns g c = λ threads is.
    let state = g.C.ThreadCode.state in
    let saved = g.C.ThreadCode.saved in
    let code = g.C.ThreadCode.code in
    let table = c.args.table.now in
    let x = c.args.seated in
    let y = c.load_stop-seated.result.0 in
    let slice = c.in_ok-slice.slice in
    let stopped = c.stop_after.result in
    let ys = stopped.seated ∷ stopped.born.items in
    let e = c.in_ok-add.ensures in
    let host = became_by_host state saved code table x y Step.LoadStop (StepAnswer.Found c.load_stop-seated.ensures.0) c.requires.stands (λ ns. refl) refl refl c.load_stop-seated.ensures.2 in
    let turns = became_by_slice state saved code table Pace.WhileFree c.args.most y slice c.in_ok-slice.ensures in
    let both = became_then state saved code table (x ∷ []) (y ∷ []) (slice.seated ∷ slice.born.items) 0 slice.tally.opened 0 slice.tally.undone host turns in
    let all = c.stop_after.ensures.became (x ∷ []) (0 + slice.tally.opened) (0 + slice.tally.undone) both in
    let limit = subst (λ th. IfSome stopped.tally.limit (MeetsLimit code (setup_in table) (thread_of state saved th))) (sym c.stop_after.ensures.thread)
    (subst (λ t. IfSome t.limit (MeetsLimit code (setup_in table) (thread_of state saved slice.seated.thread))) (sym c.stop_after.ensures.tally) c.in_ok-slice.ensures.tally.limit) in
    let opens = e.opened in
    let undoes = e.undone in
    let same_opens = ap (λ t. t.opened) c.stop_after.ensures.tally in
    let same_undoes = ap (λ t. t.undone) c.stop_after.ensures.tally in
    work_beside state saved code table threads (x ∷ []) ys (0 + slice.tally.opened) (0 + slice.tally.undone) c.args.worked.now c.add.new.self is all e.threads
    (omega (arith, opens, same_opens)) (omega (arith, undoes, same_undoes))
    (if_some _ (λ met. (c.args.worked.now.met ≡ Some met) ⊎ IsMetAmong state saved code table ys met.thread met.limit) c.add.new.self.met (λ met some how. elim how [
      | inl before ↦ inl before
      | inr by ↦ inr (slice_meets state saved code table ys stopped (0, omega arith, refl) limit met by)
    ]) e.met)
