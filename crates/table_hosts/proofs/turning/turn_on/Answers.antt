use Rattle.std.proofs.Common.{ap, sym, subst, ◌∙◌}
use Rattle.thread_automaton.specs.declared.Bounds.{Bounds}
use Rattle.thread_automaton.specs.declared.Move.TheVariants.{Make}
use Rattle.thread_automaton.specs.NextMove.{next_move}
use Rattle.thread_moves.specs.Thread.{thread_of}
use Rattle.section_laws.specs.NextSteps.{step_made}
use Rattle.table_words.specs.Views.{first_after, FirstIsInRun}
use Rattle.table_words.specs.Plays.{SeatMayMake}
use Rattle.table_words.specs.Ports.{port_setup, port_view, HandedAt}
use Rattle.table_hosts.specs.Families.{Begot}
use Rattle.table_hosts.specs.Seated.{parts_born}
use Rattle.table_hosts.proofs.Turns.{can_now, names_in, allowed}
use Rattle.table_hosts.proofs.Standing.{if_ok, goes, bears}
use Rattle.table_hosts.proofs.Taking.{takes}
use Rattle.table_hosts.proofs.Begetting.{turn_begot}
use Rattle.table_hosts.proofs.turning.turn_on.Goals as goal

pub turn-requires-clause-range : goal.turn-requires-clause-range
turn-requires-clause-range g c =
    let st = c.requires.stands in
    (can_now g.C.ThreadCode.state g.C.ThreadCode.code (port_setup c.args.port.now) st.part _ st.after st.in_run c.requires.can c.requires.going).asked

pub turn-requires-clause-allows : goal.turn-requires-clause-allows
turn-requires-clause-allows g c = λ step makes.
    let k = port_setup c.args.port.now in
    let st = c.requires.stands in
    let th = thread_of g.C.ThreadCode.state g.C.ThreadCode.saved c.args.thread.now in
    let move = ap (λ (b : Bounds). next_move g.C.ThreadCode.code b th) (sym st.bounds) ∙ makes in
    subst (λ v. SeatMayMake g.C.ThreadCode.state g.C.ThreadCode.code k v step) (sym st.one)
    (allowed g.C.ThreadCode.state g.C.ThreadCode.code k st.part th st.after st.in_run c.requires.can c.requires.going step move)

pub turn-requires-clause-names : goal.turn-requires-clause-names
turn-requires-clause-names g c = λ step a y makes stepped.
    let k = port_setup c.args.port.now in
    let st = c.requires.stands in
    let th = thread_of g.C.ThreadCode.state g.C.ThreadCode.saved c.args.thread.now in
    let move = ap (λ (b : Bounds). next_move g.C.ThreadCode.code b th) (sym st.bounds) ∙ makes in
    names_in g.C.ThreadCode.state g.C.ThreadCode.code k st.part th st.after c.requires.can c.requires.going step a move
    (subst (FirstIsInRun g.C.ThreadCode.state g.C.ThreadCode.code k) (stepped.grown ∙ ap (λ v. first_after v (step_made step a)) st.one) stepped.in_run)

pub returns-clause-stands : goal.returns-clause-stands
returns-clause-stands g c =
    let k = port_setup c.args.port.now in
    let st = c.requires.stands in
    let th = thread_of g.C.ThreadCode.state g.C.ThreadCode.saved c.args.thread.now in
    let next = thread_of g.C.ThreadCode.state g.C.ThreadCode.saved c.turn.new.ready in
    if_ok (λ r turned.
    let to = goes g.C.ThreadCode.state g.C.ThreadCode.saved g.C.ThreadCode.code k st.part th st.in_run st.after next (port_view c.turn.new.port) _ _ _ _
    (λ step a stepped. (stepped.grown ∙ ap (λ v. first_after v (step_made step a)) st.one, stepped.in_run))
    (λ still. ap (λ p. port_view p) still ∙ st.one) c.args.thread.now.own.bounds st.bounds r turned in
    record { part = to.part; one = to.one; in_run = to.in_run; after = to.stands; bounds = c.turn.ensures.bounds ∙ st.bounds }) c.turn.result c.turn.ensures.turned

pub returns-clause-born : goal.returns-clause-born
returns-clause-born g c =
    let k = port_setup c.args.port.now in
    let st = c.requires.stands in
    let th = thread_of g.C.ThreadCode.state g.C.ThreadCode.saved c.args.thread.now in
    let next = thread_of g.C.ThreadCode.state g.C.ThreadCode.saved c.turn.new.ready in
    if_ok (λ r turned.
    bears g.C.ThreadCode.state g.C.ThreadCode.saved g.C.ThreadCode.code c.args.port.now.table.now th
    (λ step pass. HandedAt g.C.ThreadCode.state g.C.ThreadCode.code c.args.port.now step c.turn.new.port pass) (λ step pass h. (h.seat, h.child, h.in_run)) next _ _
    (λ step makes n r q is. (can_now g.C.ThreadCode.state g.C.ThreadCode.code k st.part th st.after st.in_run c.requires.can c.requires.going).child n r q (makes ∙ ap Make is))
    c.args.thread.now.own.bounds st.bounds r turned) c.turn.result c.turn.ensures.turned

pub returns-clause-begot : goal.returns-clause-begot
returns-clause-begot g c =
    let k = port_setup c.args.port.now in
    let st = c.requires.stands in
    let th = thread_of g.C.ThreadCode.state g.C.ThreadCode.saved c.args.thread.now in
    let next = thread_of g.C.ThreadCode.state g.C.ThreadCode.saved c.turn.new.ready in
    if_ok (λ r turned.
    subst (λ v. Begot v (port_view c.turn.new.port) (parts_born r)) (sym st.one)
    (turn_begot (thread_of g.C.ThreadCode.state g.C.ThreadCode.saved) g.C.ThreadCode.code c.args.thread.now.own.bounds k th st.part
    (λ step pass. HandedAt g.C.ThreadCode.state g.C.ThreadCode.code c.args.port.now step c.turn.new.port pass) (λ step pass h. h.child) next _ _ (port_view c.turn.new.port) r _ turned
    (λ step a stepped. stepped.grown ∙ ap (λ v. first_after v (step_made step a)) st.one)
    (λ still. ap (λ p. port_view p) still ∙ st.one))) c.turn.result c.turn.ensures.turned

pub returns-clause-takes : goal.returns-clause-takes
returns-clause-takes g c =
    let k = port_setup c.args.port.now in
    let st = c.requires.stands in
    let th = thread_of g.C.ThreadCode.state g.C.ThreadCode.saved c.args.thread.now in
    let next = thread_of g.C.ThreadCode.state g.C.ThreadCode.saved c.turn.new.ready in
    if_ok (λ r turned.
    takes g.C.ThreadCode.state g.C.ThreadCode.saved g.C.ThreadCode.code k th (port_view c.args.port.now) next (port_view c.turn.new.port)
    _ _ _ (λ step a stepped. stepped.grown) (λ still. ap (λ p. port_view p) still) c.args.thread.now.own.bounds st.bounds r turned) c.turn.result c.turn.ensures.turned
