use Rattle.std.proofs.Common.{rules, ◌<◌, length, sym, ap, ◌∙◌}
use Rattle.java_rows.specs.Thread.{settled}
use Rattle.interp_plans.specs.Uses.{end_of}
use Rattle.interp_calls.specs.Local.{waiting_below}
use Rattle.interp_calls.proofs.AgainLemmas.{ends_resumed}
use Rattle.interp_calls.proofs.ending.end.Goals as goal

pub returns-clause-state : goal.returns-clause-state
returns-clause-state g c =
    let us = g.P.Constants.units c.args.program.now in
    let me = c.args.thread in
    let s = c.args.frames.now in
    let new = c.pop.new.self in
    let some : 0 < length s.below = search rules in
    c.apply.ensures.state
    ∙ ap (λ p. settled us me p (waiting_below us me new.below)) (sym c.resumed-reached.ensures)
    ∙ sym (ends_resumed us me s new (end_of c.args.outcome) some c.pop.ensures)
