use Rattle.std.proofs.Common.{refl, sym, ◌∙◌, ap}
use Rattle.plain_words.specs.Table.{words_in}
use Rattle.plain_words.specs.Opening.{areas_of}
use Rattle.thread_moves.specs.Thread.{thread_of}
use Rattle.word_machine.specs.Machine.{threads_in}
use Rattle.opening_cores.specs.Openings.{opening_core}
use Rattle.sched_core.specs.Outcome.{bounds_of, rest_of}
use Rattle.sched_core.proofs.StartLemmas.{way_begins}
use Rattle.sched_core.proofs.schedule_run.begin_run.Goals as goal

pub returns-clause-way : goal.returns-clause-way
returns-clause-way g c = way_begins g.C.ThreadCode.code (bounds_of c.args.opening.now c.args.limits.now) g.C.ThreadCode.state g.C.ThreadCode.saved (areas_of c.args.opening.now c.args.limits.now)
    (opening_core c.args.opening.now (g.C.ThreadCode.state c.args.code)) (rest_of c.args.schedule.now) c.new.result c.first-main.result (g.C.ThreadCode.state c.args.code) c.requires.well
    (ap (λ m. m.bounds) c.new.ensures.machine ∙ c.in_ok-machine.ensures.bounds ∙ c.first-main.ensures.bounds)
    (ap (λ m. m.words.areas) c.new.ensures.machine ∙ ap (λ w. w.areas) c.in_ok-machine.ensures.words ∙ c.in_ok-words.ensures.areas)
    (sym (ap (λ m. words_in m.words) c.new.ensures.machine ∙ ap words_in c.in_ok-machine.ensures.words ∙ c.in_ok-words.ensures.words))
    (ap (λ m. threads_in (thread_of g.C.ThreadCode.state g.C.ThreadCode.saved) m.seats.places.items) c.new.ensures.machine ∙ c.in_ok-machine.ensures.threads)
    c.first-main.ensures.thread refl c.new.ensures.rest c.new.ensures.opened c.new.ensures.undone
