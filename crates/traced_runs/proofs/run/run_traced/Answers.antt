use Rattle.std.proofs.Common.{refl, sym, ◌∙◌, ap, subst}
use Rattle.plain_words.specs.Table.{words_in}
use Rattle.plain_words.specs.Opening.{areas_of}
use Rattle.thread_moves.specs.Thread.{thread_of}
use Rattle.word_machine.specs.Machine.{threads_in}
use Rattle.opening_cores.specs.Openings.{opening_core}
use Rattle.sched_core.specs.Outcome.{bounds_of, rest_of}
use Rattle.sched_core.proofs.RunLemmas.{ok_gives}
use Rattle.traced_runs.specs.TracedRun.{GoesTraced}
use Rattle.traced_runs.proofs.CoreLemmas.{opening_begins}
use Rattle.traced_runs.proofs.RunLemmas.{come_first, come_ready, come_reached, come_further, come_to_end}
use Rattle.traced_runs.proofs.run.run_traced.Goals as goal

pub loop-turn-init : goal.loop-turn-init
loop-turn-init g c = come_first g.C.ThreadCode.code g.C.ThreadCode.state g.C.ThreadCode.saved (bounds_of c.args.opening.now c.args.limits.now) (areas_of c.args.opening.now c.args.limits.now)
    (opening_core c.args.opening.now (g.C.ThreadCode.state c.args.code)) (rest_of c.args.schedule.now) c.in_ok-begun.begun c.first-main.result (g.C.ThreadCode.state c.args.code)
    (ap (λ m. m.bounds) c.in_ok-begun.ensures.machine ∙ c.in_ok-machine.ensures.bounds ∙ c.first-main.ensures.bounds)
    (ap (λ m. m.words.areas) c.in_ok-begun.ensures.machine ∙ ap (λ w. w.areas) c.in_ok-machine.ensures.words ∙ c.in_ok-words.ensures.areas)
    (sym (ap (λ m. words_in m.words) c.in_ok-begun.ensures.machine ∙ ap words_in c.in_ok-machine.ensures.words ∙ c.in_ok-words.ensures.words))
    (ap (λ m. threads_in (thread_of g.C.ThreadCode.state g.C.ThreadCode.saved) m.seats.places.items) c.in_ok-begun.ensures.machine ∙ c.in_ok-machine.ensures.threads)
    c.first-main.ensures.thread refl (sym c.in_ok-begun.ensures.rest) c.in_ok-begun.ensures.rows c.in_ok-begun.ensures.last c.in_ok-begun.ensures.opened c.in_ok-begun.ensures.undone

pub go_on-requires-clause-ready : goal.go_on-requires-clause-ready
go_on-requires-clause-ready g c = come_ready g.C.ThreadCode.code g.C.ThreadCode.state g.C.ThreadCode.saved (bounds_of c.args.opening.now c.args.limits.now) (areas_of c.args.opening.now c.args.limits.now)
    (opening_core c.args.opening.now (g.C.ThreadCode.state c.args.code)) (rest_of c.args.schedule.now) c.loop-turn.run c.requires.well c.loop-turn.invariant

pub go_on-requires-clause-reached : goal.go_on-requires-clause-reached
go_on-requires-clause-reached g c = come_reached g.C.ThreadCode.code g.C.ThreadCode.state g.C.ThreadCode.saved (bounds_of c.args.opening.now c.args.limits.now) (areas_of c.args.opening.now c.args.limits.now)
    (opening_core c.args.opening.now (g.C.ThreadCode.state c.args.code)) (rest_of c.args.schedule.now) c.loop-turn.run (opening_begins c.args.opening.now (g.C.ThreadCode.state c.args.code)) c.loop-turn.invariant

pub returns-in-Some : goal.returns-in-Some
returns-in-Some g c = ok_gives c.outcome_of.result
    (λ outcome says. come_to_end g.C.ThreadCode.code g.C.ThreadCode.state g.C.ThreadCode.saved (bounds_of c.args.opening.now c.args.limits.now) (areas_of c.args.opening.now c.args.limits.now)
    (opening_core c.args.opening.now (g.C.ThreadCode.state c.args.code)) (rest_of c.args.schedule.now) c.loop-turn.run c.go_on.new.self c.in-Some.how c.args.schedule.now outcome refl
    (opening_begins c.args.opening.now (g.C.ThreadCode.state c.args.code)) c.requires.well c.loop-turn.invariant
    (subst (λ how. GoesTraced g.C.ThreadCode.code (thread_of g.C.ThreadCode.state g.C.ThreadCode.saved) c.loop-turn.run.machine.bounds c.loop-turn.run how c.go_on.new.self) c.in-Some.is c.in_ok-how.ensures.goes) says)
    c.outcome_of.ensures

pub loop-turn-preserved : goal.loop-turn-preserved
loop-turn-preserved g c = come_further g.C.ThreadCode.code g.C.ThreadCode.state g.C.ThreadCode.saved (bounds_of c.args.opening.now c.args.limits.now) (areas_of c.args.opening.now c.args.limits.now)
    (opening_core c.args.opening.now (g.C.ThreadCode.state c.args.code)) (rest_of c.args.schedule.now) c.loop-turn.run c.go_on.new.self (opening_begins c.args.opening.now (g.C.ThreadCode.state c.args.code)) c.loop-turn.invariant
    c.go_on.ensures.bounds c.go_on.ensures.areas
    (subst (λ how. GoesTraced g.C.ThreadCode.code (thread_of g.C.ThreadCode.state g.C.ThreadCode.saved) c.loop-turn.run.machine.bounds c.loop-turn.run how c.go_on.new.self) c.in_default.is c.in_ok-how.ensures.goes)
