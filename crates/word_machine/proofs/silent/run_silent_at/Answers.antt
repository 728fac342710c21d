use Rattle.std.proofs.Common.{Some, refl, sym, subst}
use Rattle.thread_moves.specs.Thread.{thread_of}
use Rattle.word_machine.specs.Silent.{QuietAt}
use Rattle.word_machine.proofs.silent.run_silent_at.Goals as goal

pub returns-in-Some-clause-made : goal.returns-in-Some-clause-made
returns-in-Some-clause-made g c =
    subst (λ place. QuietAt g.C.ThreadCode.code (thread_of g.C.ThreadCode.state g.C.ThreadCode.saved) c.run_silent.result place (Some c.run_silent.new.self)) (sym c.in-Some.is)
    (c.run_silent.new.self, c.run_silent.ensures.turns, c.run_silent.ensures.bounds, refl)
