use Rattle.std.proofs.Common.{Some, refl, sym, subst}
use Rattle.thread_moves.specs.Thread.{thread_of}
use Rattle.word_machine.specs.Usual.{UsualAt}
use Rattle.word_machine.proofs.usual.run_usual_at.Goals as goal

pub returns-in-Some-clause-usual : goal.returns-in-Some-clause-usual
returns-in-Some-clause-usual g c =
    subst (λ place. UsualAt g.C.ThreadCode.code (thread_of g.C.ThreadCode.state g.C.ThreadCode.saved) c.args.words.now place c.run_usual.result c.run_usual.new.port (Some c.run_usual.new.ready)) (sym c.in-Some.is)
    (c.run_usual.new.ready, refl, c.run_usual.ensures.bounds, c.run_usual.ensures.usual)
