use Rattle.std.proofs.Common.{◌≡◌, ◌⊎◌, inl, inr, Some, [], ◌∷◌, ◌++◌, ap, arith, refl, sym, ◌∙◌, subst}
use Rattle.std.specs.List.{All}
use Rattle.std.proofs.lemmas.List.Elements.{All-push}
use Rattle.thread_moves.specs.Thread.{thread_of}
use Rattle.table_words.specs.Tables.{setup_in, parts_of_seat}
use Rattle.table_hosts.specs.declared.tally.Pace.{Pace}
use Rattle.table_hosts.specs.Tallies.{EndsIdly}
use Rattle.epoch_host.specs.Work.{IsMetAmong}
use Rattle.epoch_host.specs.Runs.{HasEndedOrIdles}
use Rattle.epoch_host.proofs.Becoming.{became_itself, became_by_slice}
use Rattle.epoch_host.proofs.Working.{if_some, work_beside, work_keeps, slice_meets}
use Rattle.epoch_host.proofs.alone.try_one.Goals as goal

pub returns-then-not-idle-clause-work : goal.returns-then-not-idle-clause-work
returns-then-not-idle-clause-work g c = λ threads is.
    let e = c.in_ok-keep.ensures in
    let x = c.args.seated in
    work_keeps g.C.ThreadCode.state g.C.ThreadCode.saved g.C.ThreadCode.code c.args.table.now threads x x c.args.worked.now c.keep.new.self is
    (became_itself g.C.ThreadCode.state g.C.ThreadCode.saved g.C.ThreadCode.code c.args.table.now x c.requires.stands) e.threads e.counts.0 e.counts.1 e.met

pub returns-then-is_over-clause-work : goal.returns-then-is_over-clause-work
returns-then-is_over-clause-work g c = λ threads is.
    let e = c.in_ok-keep-2.ensures in
    let x = c.args.seated in
    work_keeps g.C.ThreadCode.state g.C.ThreadCode.saved g.C.ThreadCode.code c.args.table.now threads x x c.args.worked.now c.keep-then-is_over.new.self is
    (became_itself g.C.ThreadCode.state g.C.ThreadCode.saved g.C.ThreadCode.code c.args.table.now x c.requires.stands) e.threads e.counts.0 e.counts.1 e.met

pub returns-then-is_over-clause-idle : goal.returns-then-is_over-clause-idle
returns-then-is_over-clause-idle g c = λ is all.
    let Done = HasEndedOrIdles g.C.ThreadCode.state g.C.ThreadCode.saved g.C.ThreadCode.code c.args.table.now in
    let over = ap (λ t. t.own.over) (sym c.thread.ensures) ∙ sym c.is_over.ensures ∙ c.if-is_over.true in
    subst (All Done) (sym c.in_ok-keep-2.ensures.threads) (All-push Done c.args.worked.now.threads.items c.args.seated all (inl over))

pub returns-clause-work : goal.returns-clause-work
returns-clause-work g c = λ threads is.
    let state = g.C.ThreadCode.state in
    let saved = g.C.ThreadCode.saved in
    let code = g.C.ThreadCode.code in
    let table = c.args.table.now in
    let slice = c.in_ok-slice.slice in
    let ys = slice.seated ∷ slice.born.items in
    let e = c.in_ok-add.ensures in
    work_beside state saved code table threads (c.args.seated ∷ []) ys slice.tally.opened slice.tally.undone c.args.worked.now c.add.new.self is
    (became_by_slice state saved code table Pace.WhileIdle 8 c.args.seated slice c.in_ok-slice.ensures) e.threads e.opened e.undone
    (if_some _ (λ met. (c.args.worked.now.met ≡ Some met) ⊎ IsMetAmong state saved code table ys met.thread met.limit) c.add.new.self.met (λ met some how. elim how [
      | inl before ↦ inl before
      | inr by ↦ inr (slice_meets state saved code table ys slice (0, omega arith, refl) c.in_ok-slice.ensures.tally.limit met by)
    ]) e.met)

pub returns-clause-idle : goal.returns-clause-idle
returns-clause-idle g c = λ is all.
    let Done = HasEndedOrIdles g.C.ThreadCode.state g.C.ThreadCode.saved g.C.ThreadCode.code c.args.table.now in
    let slice = c.in_ok-slice.slice in
    let old = c.args.worked.now.threads.items in
    let idles = subst (λ n. EndsIdly g.C.ThreadCode.state g.C.ThreadCode.saved g.C.ThreadCode.code (setup_in c.args.table.now) n
    (thread_of g.C.ThreadCode.state g.C.ThreadCode.saved slice.seated.thread) (parts_of_seat slice.seated.seat)) (c.is_idle-idle.ensures.idle is) c.in_ok-slice.ensures.tally.idle in
    subst (All Done) (sym c.in_ok-add.ensures.threads) (subst (λ xs. All Done (old ++ slice.seated ∷ xs)) (sym (c.is_idle-idle.ensures.none is)) (All-push Done old slice.seated all (inr idles)))
