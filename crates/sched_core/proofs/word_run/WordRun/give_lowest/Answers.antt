use Rattle.std.proofs.Common.{below_more, refl, sym, ◌∙◌, ap, subst, arith}
use Rattle.std.proofs.lemmas.Bool.{false≢true}
use Rattle.schedules.specs.Schedule.{Rest}
use Rattle.schedules.specs.Run.{IsPicked}
use Rattle.thread_moves.specs.Thread.{thread_of}
use Rattle.word_runs.specs.WordTurns.{word_turns}
use Rattle.word_machine.specs.Machine.{threads_in}
use Rattle.word_machine.specs.Usual.{MakesUsual}
use Rattle.sched_core.specs.declared.word_run.WordRun.{WordRun}
use Rattle.sched_core.specs.ScheduledRun.{CanGoOn, AreReady, GivesNext}
use Rattle.sched_core.proofs.RunLemmas.{ok_gives, still_ready, turn_now, picked_goes}
use Rattle.sched_core.proofs.UsualLemmas.{usual_areas, no_stretch, usual_stretch}
use Rattle.sched_core.proofs.StretchLemmas.{lowest_is_picked, still_can, still_same, same_back, can_within}
use Rattle.sched_core.proofs.word_run.WordRun.give_lowest.Goals as goal

pub run_usual-requires : goal.run_usual-requires
run_usual-requires g c = (still_ready g.C.ThreadCode.code g.C.ThreadCode.state g.C.ThreadCode.saved c.args.self.now c.loop-number.self c.loop-number.invariant.same c.requires.ready).ready c.loop-number.number

pub returns-then-run_usual-gt0-clause-areas : goal.returns-then-run_usual-gt0-clause-areas
returns-then-run_usual-gt0-clause-areas g c =
    usual_areas g.C.ThreadCode.code c.loop-number.self.machine.bounds c.run_usual.result c.loop-number.self.machine.words c.run_usual.new.self.words _ _ c.run_usual.ensures.usual
    ∙ ap (λ w. w.areas) c.loop-number.invariant.same.words

pub returns-then-run_usual-gt0-clause-goes : goal.returns-then-run_usual-gt0-clause-goes
returns-then-run_usual-gt0-clause-goes g c =
    let usual = c.run_usual.ensures in
    let most = c.count-number-end.ensures.most in
    let test = c.loop-number-test.true in
    usual_stretch g.C.ThreadCode.code g.C.ThreadCode.state g.C.ThreadCode.saved c.args.self.now.machine.bounds c.loop-number.number c.run_usual.result c.args.self.now c.loop-number.self _ c.if-run_usual-gt0.true c.loop-number.invariant.same
    (record {
      made = subst (λ b. MakesUsual g.C.ThreadCode.code b c.run_usual.result c.loop-number.self.machine.words (threads_in (thread_of g.C.ThreadCode.state g.C.ThreadCode.saved) c.loop-number.self.machine.seats.places.items c.loop-number.number)
          c.run_usual.new.self.words (threads_in (thread_of g.C.ThreadCode.state g.C.ThreadCode.saved) c.run_usual.new.self.seats.places.items c.loop-number.number)) c.loop-number.invariant.same.bounds usual.usual;
      others = usual.others;
      opened = refl;
      undone = refl;
    })
    (λ u past. c.count-number-end.ensures.above u (omega (arith, most, past))) (omega (arith, most, test)) c.loop-number.invariant.none
    (subst (λ b. AreReady g.C.ThreadCode.code (thread_of g.C.ThreadCode.state g.C.ThreadCode.saved) b c.loop-number.self.machine.words c.loop-number.self.machine.seats.places.items) c.loop-number.invariant.same.bounds
    (still_ready g.C.ThreadCode.code g.C.ThreadCode.state g.C.ThreadCode.saved c.args.self.now c.loop-number.self c.loop-number.invariant.same c.requires.ready))
    c.requires.rest (c.loop-number.invariant.rest ∙ c.requires.rest)

pub give_next-requires-clause-ready : goal.give_next-requires-clause-ready
give_next-requires-clause-ready g c = λ x here.
    let usual = c.run_usual.ensures in
    let mid : WordRun _ _ = record c.loop-number.self { machine = c.run_usual.new.self } in
    let same = no_stretch g.C.ThreadCode.code g.C.ThreadCode.state g.C.ThreadCode.saved c.loop-number.self.machine.bounds c.loop-number.number c.run_usual.result c.loop-number.self c.loop-number.self mid
    c.if-run_usual-gt0.false (record { made = usual.usual; others = usual.others; opened = refl; undone = refl }) usual.bounds in
    let all = still_same (thread_of g.C.ThreadCode.state g.C.ThreadCode.saved) c.args.self.now c.loop-number.self mid c.loop-number.invariant.same same in
    turn_now g.C.ThreadCode.code mid.machine.bounds mid.machine.words (thread_of g.C.ThreadCode.state g.C.ThreadCode.saved x)
    ((still_ready g.C.ThreadCode.code g.C.ThreadCode.state g.C.ThreadCode.saved c.args.self.now mid all c.requires.ready).ready c.loop-number.number x here)

pub returns-then-is_enabled-clause-goes : goal.returns-then-is_enabled-clause-goes
returns-then-is_enabled-clause-goes g c =
    let usual = c.run_usual.ensures in
    let mid : WordRun _ _ = record c.loop-number.self { machine = c.run_usual.new.self } in
    let same = no_stretch g.C.ThreadCode.code g.C.ThreadCode.state g.C.ThreadCode.saved c.loop-number.self.machine.bounds c.loop-number.number c.run_usual.result c.loop-number.self c.loop-number.self mid
    c.if-run_usual-gt0.false (record { made = usual.usual; others = usual.others; opened = refl; undone = refl }) usual.bounds in
    let all = still_same (thread_of g.C.ThreadCode.state g.C.ThreadCode.saved) c.args.self.now c.loop-number.self mid c.loop-number.invariant.same same in
    let most = c.count-number-end.ensures.most in
    let can = still_can g.C.ThreadCode.code (thread_of g.C.ThreadCode.state g.C.ThreadCode.saved) c.args.self.now mid c.loop-number.number all (sym c.is_enabled.ensures ∙ c.if-is_enabled.true) in
    ok_gives c.give_next.result
    (λ how gives. picked_goes g.C.ThreadCode.code g.C.ThreadCode.state g.C.ThreadCode.saved c.args.self.now.machine.bounds c.args.self.now mid c.give_next.new.self c.loop-number.number how all
    c.loop-number.invariant.rest (ap (λ (rest : Rest). rest.order) c.requires.rest)
    (λ r place. subst (λ k. IsPicked ((word_turns g.C.ThreadCode.code c.args.self.now.machine.bounds).enabled r) k c.loop-number.number) (sym (ap (λ (rest : Rest). rest.number) c.requires.rest))
    (lowest_is_picked g.C.ThreadCode.code g.C.ThreadCode.state g.C.ThreadCode.saved c.args.self.now.machine.bounds c.loop-number.number c.args.self.now
    (λ u past. c.count-number-end.ensures.above u (omega (arith, most, past))) can c.loop-number.invariant.none r place))
    (subst (λ b. GivesNext g.C.ThreadCode.code (thread_of g.C.ThreadCode.state g.C.ThreadCode.saved) b mid c.loop-number.number how c.give_next.new.self) all.bounds gives))
    c.give_next.ensures.gives

pub loop-number-preserved : goal.loop-number-preserved
loop-number-preserved g c =
    let usual = c.run_usual.ensures in
    let mid : WordRun _ _ = record c.loop-number.self { machine = c.run_usual.new.self } in
    let same = no_stretch g.C.ThreadCode.code g.C.ThreadCode.state g.C.ThreadCode.saved c.loop-number.self.machine.bounds c.loop-number.number c.run_usual.result c.loop-number.self c.loop-number.self mid
    c.if-run_usual-gt0.false (record { made = usual.usual; others = usual.others; opened = refl; undone = refl }) usual.bounds in
    let all = still_same (thread_of g.C.ThreadCode.state g.C.ThreadCode.saved) c.args.self.now c.loop-number.self mid c.loop-number.invariant.same same in
    record {
      same = all;
      rest = c.loop-number.invariant.rest;
      none = below_more (λ u. CanGoOn g.C.ThreadCode.code (thread_of g.C.ThreadCode.state g.C.ThreadCode.saved) c.args.self.now.machine.words c.args.self.now.machine.seats.places.items u → ⊥) c.loop-number.number
          c.loop-number.invariant.none
          (λ can. false≢true (sym c.if-is_enabled.false ∙ c.is_enabled.ensures
          ∙ still_can g.C.ThreadCode.code (thread_of g.C.ThreadCode.state g.C.ThreadCode.saved) mid c.args.self.now c.loop-number.number (same_back (thread_of g.C.ThreadCode.state g.C.ThreadCode.saved) c.args.self.now mid all) can));
    }

pub how_it_ends-requires : goal.how_it_ends-requires
how_it_ends-requires g c = λ t can.
    let first = still_can g.C.ThreadCode.code (thread_of g.C.ThreadCode.state g.C.ThreadCode.saved) c.args.self.now c.loop-number.self t c.loop-number.invariant.same can in
    let low = can_within g.C.ThreadCode.code (thread_of g.C.ThreadCode.state g.C.ThreadCode.saved) c.args.self.now c.count-number-end.result t c.count-number-end.ensures.above first in
    let test = c.loop-number-test.false in
    c.loop-number.invariant.none t (omega (arith, low, test)) first
