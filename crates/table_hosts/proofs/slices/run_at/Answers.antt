use Rattle.std.proofs.Common.{◌≡◌, ◌+◌, ◌<◌, ◌≤◌, ◌⊎◌, ap, sym, subst, inl, inr, arith, ◌∙◌, ◌++◌, refl, true, false}
use Rattle.std.specs.Prelude.{IfSome}
use Rattle.std.specs.List.{All}
use Rattle.thread_automaton.specs.NextMove.{next_move}
use Rattle.thread_moves.specs.Thread.{thread_of}
use Rattle.rollback_core.specs.Turn.{kind_made}
use Rattle.table_words.specs.Setups.{setup_bounds}
use Rattle.table_words.specs.Tables.{setup_in, parts_of_seat}
use Rattle.table_words.specs.Ports.{port_setup, port_view}
use Rattle.table_hosts.specs.Standing.{ThreadsCanGoOn}
use Rattle.table_hosts.specs.Turns.{goes_on}
use Rattle.table_hosts.specs.Tallies.{CameTo, tally_of_turn}
use Rattle.table_hosts.specs.Seated.{BeginsOn, parts_of_threads, parts_of_child}
use Rattle.table_hosts.proofs.Standing.{moved}
use Rattle.table_hosts.proofs.Taking.{took_in, one_more}
use Rattle.table_hosts.proofs.SliceSteps.{HasCome, within_more, came_none, came_one, come_to}
use Rattle.table_hosts.proofs.slices.run_at.Goals.{else-loop-round-test, then-loop-round-test+then-turns-most, then-turns-most-via-then-turns-most, then-turns-most-via-else-turns-most+then-is_over, then-loop-round-test+else-turns-most+else-is_over+in_ok-reserve+in_ok-came+then-not-came}
use Rattle.table_hosts.proofs.PlainTurns.{within_plain, took_in_setup, come_in_slice}
use Rattle.table_hosts.proofs.slices.run_at.Goals as goal

pub loop-round-init : goal.loop-round-init
loop-round-init g c =
    let view = ap parts_of_seat c.port-port.ensures.seat in
    record {
      table = c.port-port.ensures.table;
      come = came_none g.C.ThreadCode.state g.C.ThreadCode.saved g.C.ThreadCode.code c.args.table.now c.args.seated c.requires.stands.1 _ view _ c.new-born.ensures.items _ refl;
      took = (refl, view);
      rounds = omega arith;
      within = omega arith;
      small = (omega arith, omega arith, omega arith, omega arith);
    }

pub run_free-given-requires-clause-can : goal.run_free-given-requires-clause-can
run_free-given-requires-clause-can g c = subst (ThreadsCanGoOn g.C.ThreadCode.state g.C.ThreadCode.code) (sym (ap setup_in c.loop-round.invariant.table)) c.requires.can

pub run_free-given-requires-clause-stands : goal.run_free-given-requires-clause-stands
run_free-given-requires-clause-stands g c =
    let was = c.loop-round.invariant in
    moved g.C.ThreadCode.state g.C.ThreadCode.saved g.C.ThreadCode.code _ _ (sym (ap setup_in was.table)) _ _ refl _ _ refl was.come.stands

pub after_plain-tally-requires : goal.after_plain-tally-requires
after_plain-tally-requires g c =
    let was = c.loop-round.invariant in
    let most = c.ranges.most.fits in
    omega (arith, was.small.0, was.within, c.run_free-given.ensures.most, c.run_free-given.ensures.few, most)

pub next_turn-requires-clause-can : goal.next_turn-requires-clause-can
next_turn-requires-clause-can g c =
    subst (ThreadsCanGoOn g.C.ThreadCode.state g.C.ThreadCode.code) (sym (ap setup_in (c.run_free-given.ensures.table ∙ c.loop-round.invariant.table))) c.requires.can

pub next_turn-requires-clause-stands : goal.next_turn-requires-clause-stands
next_turn-requires-clause-stands g c =
    moved g.C.ThreadCode.state g.C.ThreadCode.saved g.C.ThreadCode.code _ _ (sym (ap setup_in c.run_free-given.ensures.table)) _ _ refl _ _ refl c.run_free-given.ensures.stands

pub after-tally-requires-clause-room : goal.after-tally-requires-clause-room
after-tally-requires-clause-room g c =
    let was = c.loop-round.invariant in
    let given = c.run_free-given in
    let most = c.ranges.most.fits in
    let few : c.loop-round.turns + given.result.turns < c.args.most = omega (arith, was.within, given.ensures.most, c.if-turns-most.false) in
    let small = within_plain c.loop-round.turns (c.loop-round.turns + given.result.turns) c.loop-round.tally was.small given.result.turns given.result.counted (omega arith) given.ensures.few _ c.after_plain-tally.ensures in
    (omega (arith, small.0, few, most), omega (arith, small.1, few, most), omega (arith, small.2, few, most), omega (arith, small.3, few, most))

pub loop-round-preserved : goal.loop-round-preserved
loop-round-preserved g c =
    let Begins = BeginsOn g.C.ThreadCode.state g.C.ThreadCode.saved g.C.ThreadCode.code in
    let e = c.in_ok-came.ensures in
    let came = c.in_ok-came.came in
    let was = c.loop-round.invariant in
    let given = c.run_free-given in
    let setups = ap setup_in (given.ensures.table ∙ was.table) in
    let come = come_in_slice g.C.ThreadCode.state g.C.ThreadCode.saved g.C.ThreadCode.code c.args.table.now c.args.seated _ given.new.thread _ _ _ _ _ given.result.turns given.result.counted _ (ap setup_in was.table) was.come
    given.ensures.stands given.ensures.begot given.ensures.took given.ensures.counted c.after_plain-tally.ensures in
    let took = took_in_setup g.C.ThreadCode.state g.C.ThreadCode.saved g.C.ThreadCode.code _ _ (ap setup_in was.table) c.args.pace c.loop-round.turns given.result.turns given.ensures.pace _ _ _ _ _ _ was.took given.ensures.took in
    let small = within_plain c.loop-round.turns (c.loop-round.turns + given.result.turns) c.loop-round.tally was.small given.result.turns given.result.counted (omega arith) given.ensures.few _ c.after_plain-tally.ensures in
    let child = subst (λ t. IfSome came.child (Begins t)) (given.ensures.table ∙ was.table) e.child in
    let all = c.keep.ensures.stand c.args.table.now (subst (All (Begins c.args.table.now)) (sym c.reserve.ensures.items) come.begin) child in
    let parts = c.keep.ensures.parts ∙ ap (λ xs. parts_of_threads xs ++ parts_of_child came.child) c.reserve.ensures.items in
    let stands = moved g.C.ThreadCode.state g.C.ThreadCode.saved g.C.ThreadCode.code _ _ setups _ _ refl _ _ refl e.stands in
    let kind = kind_made (next_move g.C.ThreadCode.code (setup_bounds (port_setup given.new.port)) (thread_of g.C.ThreadCode.state g.C.ThreadCode.saved given.new.thread)) in
    let more = took_in g.C.ThreadCode.state g.C.ThreadCode.saved g.C.ThreadCode.code _ _ setups (CameTo c.args.pace kind came.goes_on came.tally) (λ turn. goes_on c.args.pace turn ≡ true)
    (λ turn so. sym so.0 ∙ c.if-not-came.false) _ _ _ _ refl _ _ refl e.took in
    let counted = took_in g.C.ThreadCode.state g.C.ThreadCode.saved g.C.ThreadCode.code _ _ setups (CameTo c.args.pace kind came.goes_on came.tally) (λ turn. came.tally ≡ tally_of_turn turn kind)
    (λ turn so. so.1) _ _ _ _ refl _ _ refl e.took in
    record {
      table = e.table ∙ given.ensures.table ∙ was.table;
      come = came_one g.C.ThreadCode.state g.C.ThreadCode.saved g.C.ThreadCode.code c.args.table.now c.args.seated _ _ _ _ _ _ came.child _ came.tally _ come stands e.begot all parts
          (λ turn. came.tally ≡ tally_of_turn turn kind) counted (λ turn so. so ∙ ap (λ k. tally_of_turn turn (kind_made (next_move g.C.ThreadCode.code (setup_bounds k) (thread_of g.C.ThreadCode.state g.C.ThreadCode.saved given.new.thread)))) setups) c.after-tally.ensures;
      took = one_more g.C.ThreadCode.state g.C.ThreadCode.saved g.C.ThreadCode.code _ (λ turn. goes_on c.args.pace turn ≡ true) _ _ _ _ _ _ _ took more;
      rounds = omega (arith, was.rounds);
      within = omega (arith, was.within, given.ensures.most, c.if-turns-most.false);
      small = within_more (c.loop-round.turns + given.result.turns) _ (omega arith) c.after_plain-tally.result came.tally small e.small _ c.after-tally.ensures;
    }

pub returns : goal.returns
returns g c =
    let Begins = BeginsOn g.C.ThreadCode.state g.C.ThreadCode.saved g.C.ThreadCode.code in
    let was = c.loop-round.invariant in
    let seat = ap parts_of_seat c.into_seat-seat.ensures in
    let own = ap (λ s. s.seat.table_id) c.into_seat-seat.ensures ∙ c.loop-round-test.port.seated in
    elim c.loop-round-test.branch [
      | else-loop-round-test w ↦
          come_to g.C.ThreadCode.state g.C.ThreadCode.saved g.C.ThreadCode.code c.args.table.now c.args.seated c.args.pace c.args.most _ _ _ _ was.come
          (record { turns = c.loop-round.turns; within = was.within; last = _; parts = _; took = was.took; ends = inl (refl, refl, inl (omega (arith, was.rounds, was.within, w.loop-round-test.false))) })
          _ w.thread-is (seat ∙ ap port_view w.port-is) (ap (λ v. v.items) w.born-is) w.tally-is
          (own ∙ ap (λ p. p.table.now.table.shared.table_id) w.port-is ∙ ap (λ t. t.table.shared.table_id) was.table)
      | then-loop-round-test+then-turns-most w ↦
          let given = w.run_free-given in
          let come = come_in_slice g.C.ThreadCode.state g.C.ThreadCode.saved g.C.ThreadCode.code c.args.table.now c.args.seated _ given.new.thread _ _ _ _ _ given.result.turns given.result.counted _ (ap setup_in was.table) was.come
          given.ensures.stands given.ensures.begot given.ensures.took given.ensures.counted w.after_plain-tally.ensures in
          let took = took_in_setup g.C.ThreadCode.state g.C.ThreadCode.saved g.C.ThreadCode.code _ _ (ap setup_in was.table) c.args.pace c.loop-round.turns given.result.turns given.ensures.pace _ _ _ _ _ _ was.took given.ensures.took in
          let within : c.loop-round.turns + given.result.turns ≤ c.args.most = omega (arith, was.within, given.ensures.most) in
          let ends : (c.loop-round.turns + given.result.turns ≡ c.args.most) ⊎ ((thread_of g.C.ThreadCode.state g.C.ThreadCode.saved given.new.thread).over ≡ true) =
          elim w.then-turns-most.branch [
            | then-turns-most-via-then-turns-most v ↦ inl (omega (arith, v.if-turns-most.true))
            | then-turns-most-via-else-turns-most+then-is_over v ↦ inr (ap (λ t. t.own.over) (sym v.thread-else-turns-most.ensures) ∙ sym v.is_over.ensures ∙ v.if-is_over.true)
          ] in
          come_to g.C.ThreadCode.state g.C.ThreadCode.saved g.C.ThreadCode.code c.args.table.now c.args.seated c.args.pace c.args.most _ _ _ _ come
          (record { turns = c.loop-round.turns + given.result.turns; within = within; last = _; parts = _; took = took; ends = inl (refl, refl, ends) })
          _ w.thread-is (seat ∙ ap port_view w.port-is) (ap (λ v. v.items) w.born-is) w.tally-is
          (own ∙ ap (λ p. p.table.now.table.shared.table_id) w.port-is ∙ ap (λ t. t.table.shared.table_id) (given.ensures.table ∙ was.table))
      | then-loop-round-test+else-turns-most+else-is_over+in_ok-reserve+in_ok-came+then-not-came w ↦
          let e = w.in_ok-came.ensures in
          let came = w.in_ok-came.came in
          let given = w.run_free-given in
          let setups = ap setup_in (given.ensures.table ∙ was.table) in
          let before = come_in_slice g.C.ThreadCode.state g.C.ThreadCode.saved g.C.ThreadCode.code c.args.table.now c.args.seated _ given.new.thread _ _ _ _ _ given.result.turns given.result.counted _ (ap setup_in was.table) was.come
          given.ensures.stands given.ensures.begot given.ensures.took given.ensures.counted w.after_plain-tally.ensures in
          let took = took_in_setup g.C.ThreadCode.state g.C.ThreadCode.saved g.C.ThreadCode.code _ _ (ap setup_in was.table) c.args.pace c.loop-round.turns given.result.turns given.ensures.pace _ _ _ _ _ _ was.took given.ensures.took in
          let few : c.loop-round.turns + given.result.turns < c.args.most = omega (arith, was.within, given.ensures.most, w.if-turns-most.false) in
          let within : c.loop-round.turns + given.result.turns ≤ c.args.most = omega (arith, was.within, given.ensures.most) in
          let child = subst (λ t. IfSome came.child (Begins t)) (given.ensures.table ∙ was.table) e.child in
          let all = w.keep.ensures.stand c.args.table.now (subst (All (Begins c.args.table.now)) (sym w.reserve.ensures.items) before.begin) child in
          let parts = w.keep.ensures.parts ∙ ap (λ xs. parts_of_threads xs ++ parts_of_child came.child) w.reserve.ensures.items in
          let stands = moved g.C.ThreadCode.state g.C.ThreadCode.saved g.C.ThreadCode.code _ _ setups _ _ refl _ _ refl e.stands in
          let kind = kind_made (next_move g.C.ThreadCode.code (setup_bounds (port_setup given.new.port)) (thread_of g.C.ThreadCode.state g.C.ThreadCode.saved given.new.thread)) in
          let none = took_in g.C.ThreadCode.state g.C.ThreadCode.saved g.C.ThreadCode.code _ _ setups (CameTo c.args.pace kind came.goes_on came.tally) (λ turn. goes_on c.args.pace turn ≡ false)
          (λ turn so. sym so.0 ∙ w.if-not-came.true) _ _ _ _ refl _ _ refl e.took in
          let counted = took_in g.C.ThreadCode.state g.C.ThreadCode.saved g.C.ThreadCode.code _ _ setups (CameTo c.args.pace kind came.goes_on came.tally) (λ turn. came.tally ≡ tally_of_turn turn kind)
          (λ turn so. so.1) _ _ _ _ refl _ _ refl e.took in
          let come = came_one g.C.ThreadCode.state g.C.ThreadCode.saved g.C.ThreadCode.code c.args.table.now c.args.seated _ _ _ _ _ _ came.child _ came.tally _ before stands e.begot all parts
          (λ turn. came.tally ≡ tally_of_turn turn kind) counted (λ turn so. so ∙ ap (λ k. tally_of_turn turn (kind_made (next_move g.C.ThreadCode.code (setup_bounds k) (thread_of g.C.ThreadCode.state g.C.ThreadCode.saved given.new.thread)))) setups) w.after-tally.ensures in
          come_to g.C.ThreadCode.state g.C.ThreadCode.saved g.C.ThreadCode.code c.args.table.now c.args.seated c.args.pace c.args.most _ _ _ _ come
          (record { turns = c.loop-round.turns + given.result.turns; within = within; last = _; parts = _; took = took; ends = inr (few, none) })
          _ w.thread-is (seat ∙ ap port_view w.port-is) (ap (λ v. v.items) w.born-is) w.tally-is
          (own ∙ ap (λ p. p.table.now.table.shared.table_id) w.port-is ∙ ap (λ t. t.table.shared.table_id) (e.table ∙ given.ensures.table ∙ was.table))
    ]
