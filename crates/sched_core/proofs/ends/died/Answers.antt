use Rattle.std.proofs.Common.{sym, ◌∙◌, subst}
use Rattle.thread_moves.specs.Thread.{thread_of}
use Rattle.word_runs.specs.WordTurns.{EndedBy}
use Rattle.word_machine.specs.Machine.{threads_in}
use Rattle.sched_core.proofs.EndLemmas.{ends_so, has_class}
use Rattle.sched_core.proofs.ends.died.Goals as goal

pub returns-in-Some-clause-some : goal.returns-in-Some-clause-some
returns-in-Some-clause-some g c = λ is.
    let (x, class_is) = has_class c.in-Some.end.class (sym c.is_some.ensures ∙ is) in
    let so = ends_so g.C.ThreadCode.code c.args.number (threads_in (thread_of g.C.ThreadCode.state g.C.ThreadCode.saved) c.args.machine.now.seats.places.items c.args.number) c.in-Some.end (sym c.end_of.ensures ∙ c.in-Some.is) in
    (x, subst (λ class. EndedBy g.C.ThreadCode.code class (threads_in (thread_of g.C.ThreadCode.state g.C.ThreadCode.saved) c.args.machine.now.seats.places.items c.args.number)) class_is so.ended)
