use Rattle.std.proofs.Common.{◌≤◌, ap, arith}
use Rattle.thread_moves.specs.Thread.{thread_of}
use Rattle.thread_moves.specs.declared.thread.JThread.{JThread}
use Rattle.rollback_core.proofs.QuietLemmas.{turns_made, turns_fit, turns_count, fewer_quiet}
use Rattle.rollback_core.proofs.silent.run_silent.Goals as goal

pub returns-clause-turns : goal.returns-clause-turns
returns-clause-turns g c =
    let x : JThread _ = c.args.thread.now in
    let made = c.run_silent-made.ensures.most in
    let least = c.min-most.ensures in
    let fewer : c.run_silent-made.result ≤ c.most_silent.result = omega (arith, made, least) in
    turns_made g.C.ThreadCode.state g.C.ThreadCode.saved g.C.ThreadCode.code x c.run_silent-made.new.self c.run_silent-made.result _
    (ap (λ own. record { code = c.run_silent-made.new.self; own = own }) c.count_silent.ensures) c.requires.settled
    (fewer_quiet x.own.bounds (thread_of g.C.ThreadCode.state g.C.ThreadCode.saved x) c.run_silent-made.result c.most_silent.result fewer c.most_silent.ensures.may)
    c.run_silent-made.ensures.steps c.run_silent-made.ensures.stays c.run_silent-made.ensures.saved

pub returns-clause-fits : goal.returns-clause-fits
returns-clause-fits g c = turns_fit g.C.ThreadCode.code c.args.thread.now.own.bounds (thread_of g.C.ThreadCode.state g.C.ThreadCode.saved c.args.thread.now) c.requires.fits c.run_silent-made.result _ (returns-clause-turns g c)

pub returns-clause-counts : goal.returns-clause-counts
returns-clause-counts g c = turns_count g.C.ThreadCode.code c.args.thread.now.own.bounds (thread_of g.C.ThreadCode.state g.C.ThreadCode.saved c.args.thread.now) c.requires.counts c.run_silent-made.result _ (returns-clause-turns g c)
