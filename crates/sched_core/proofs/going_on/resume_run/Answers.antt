use Rattle.std.proofs.Common.{refl, sym, ◌∙◌, ap, subst}
use Rattle.thread_moves.specs.Thread.{thread_of}
use Rattle.word_machine.specs.Machine.{IsCoreOf}
use Rattle.sched_core.proofs.StartLemmas.{way_goes}
use Rattle.sched_core.proofs.going_on.resume_run.Goals as goal

pub returns-clause-way : goal.returns-clause-way
returns-clause-way g c = λ place is. way_goes g.C.ThreadCode.code c.args.bounds (thread_of g.C.ThreadCode.state g.C.ThreadCode.saved) c.args.words c.args.going place _ is
    (ap (λ m. m.bounds) c.new-run.ensures.machine ∙ c.in_ok-machine.ensures.bounds) (ap (λ m. m.words) c.new-run.ensures.machine ∙ c.in_ok-machine.ensures.words)
    (λ core words are. subst (λ m. IsCoreOf (thread_of g.C.ThreadCode.state g.C.ThreadCode.saved) m.words m.seats.places.items core) (sym c.new-run.ensures.machine) (c.in_ok-machine.ensures.core core words are))
    (c.new-run.ensures.rest ∙ c.requires.none) refl refl
