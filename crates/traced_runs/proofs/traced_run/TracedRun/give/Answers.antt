use Rattle.std.proofs.Common.{sym, ◌∙◌, ap, subst}
use Rattle.std.specs.Prelude.{if◌then◌else◌}
use Rattle.journal_rows.specs.Told.{after_row_calls}
use Rattle.journal_rows.specs.Rows.{AreRowsTold}
use Rattle.word_machine.specs.ToldTurn.{TellsTurn}
use Rattle.traced_runs.specs.Calls.{calls_of_turn}
use Rattle.thread_moves.specs.Thread.{thread_of}
use Rattle.sched_core.proofs.RunLemmas.{turn_now}
use Rattle.traced_runs.proofs.PlaceLemmas.{turn_leads, undone_low}
use Rattle.traced_runs.proofs.traced_run.TracedRun.give.Goals as goal

pub turn_told-requires-clause-ready : goal.turn_told-requires-clause-ready
turn_told-requires-clause-ready g c = λ x here. turn_now g.C.ThreadCode.code c.args.self.now.machine.bounds c.args.self.now.machine.words (thread_of g.C.ThreadCode.state g.C.ThreadCode.saved x) (c.requires.ready.ready c.args.thread x here)

pub tell_turn-requires : goal.tell_turn-requires
tell_turn-requires g c = λ is.
    let reached = c.requires.reached in
    let told = c.in_ok-turn.ensures.tells reached.place reached.now in
    undone_low g.C.ThreadCode.code c.args.self.now.machine.bounds reached.core reached.begins reached.place reached.acts c.args.thread c.in_ok-turn.turn told.3 is

pub returns-then-is_act-clause-gives : goal.returns-then-is_act-clause-gives
returns-then-is_act-clause-gives g c = λ core begins r are place.
    let meant = thread_of g.C.ThreadCode.state g.C.ThreadCode.saved in
    let counted = c.count.new.self in
    turn_leads g.C.ThreadCode.code meant c.args.self.now.machine.bounds c.args.self.now (record counted { last = c.args.thread }) c.args.thread c.in_ok-turn.turn
    (λ s told. subst (λ rows. AreRowsTold rows (after_row_calls (calls_of_turn c.args.thread c.in_ok-turn.turn) s)) (sym c.count.ensures.rows) (c.in_ok-tell_turn.ensures s told))
    (sym (ap (λ acts. if acts then c.args.thread else c.args.self.now.last) (sym c.is_act.ensures ∙ c.if-is_act.true)))
    core begins r are place
    (subst (λ m. TellsTurn g.C.ThreadCode.code meant c.args.self.now.machine.bounds c.args.self.now.machine.words c.args.self.now.machine.seats.places.items c.args.thread c.in_ok-turn.turn m.words m.seats.places.items)
    (sym c.count.ensures.machine) c.in_ok-turn.ensures.tells)
    c.in_ok-count.ensures.opened c.in_ok-count.ensures.undone

pub returns-else-is_act-clause-gives : goal.returns-else-is_act-clause-gives
returns-else-is_act-clause-gives g c = λ core begins r are place.
    let meant = thread_of g.C.ThreadCode.state g.C.ThreadCode.saved in
    let counted = c.count.new.self in
    turn_leads g.C.ThreadCode.code meant c.args.self.now.machine.bounds c.args.self.now counted c.args.thread c.in_ok-turn.turn
    (λ s told. subst (λ rows. AreRowsTold rows (after_row_calls (calls_of_turn c.args.thread c.in_ok-turn.turn) s)) (sym c.count.ensures.rows) (c.in_ok-tell_turn.ensures s told))
    (c.count.ensures.last ∙ sym (ap (λ acts. if acts then c.args.thread else c.args.self.now.last) (sym c.is_act.ensures ∙ c.if-is_act.false)))
    core begins r are place
    (subst (λ m. TellsTurn g.C.ThreadCode.code meant c.args.self.now.machine.bounds c.args.self.now.machine.words c.args.self.now.machine.seats.places.items c.args.thread c.in_ok-turn.turn m.words m.seats.places.items)
    (sym c.count.ensures.machine) c.in_ok-turn.ensures.tells)
    c.in_ok-count.ensures.opened c.in_ok-count.ensures.undone
