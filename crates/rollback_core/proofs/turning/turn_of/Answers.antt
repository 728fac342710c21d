use Rattle.thread_moves.specs.Thread.{thread_of}
use Rattle.rollback_core.proofs.TurnLemmas.{turn_fits, turn_counts, undoing_is_ok}
use Rattle.rollback_core.proofs.turning.turn_of.Goals as goal

pub returns-clause-fits : goal.returns-clause-fits
returns-clause-fits g c = turn_fits _ _ _ _ _ _ _ _ c.requires.fits _ c.make_turn.ensures.turned c.make_turn.ensures.err

pub returns-clause-counts : goal.returns-clause-counts
returns-clause-counts g c = turn_counts _ _ _ _ _ _ _ _ c.requires.fits c.requires.counts _ c.make_turn.ensures.turned c.make_turn.ensures.err

pub returns-clause-undo : goal.returns-clause-undo
returns-clause-undo g c = λ w undoing.
    undoing_is_ok g.C.ThreadCode.code c.args.thread.now.own.bounds (thread_of g.C.ThreadCode.state g.C.ThreadCode.saved c.args.thread.now) w undoing
    c.make_turn.result c.make_turn.ensures.memory
