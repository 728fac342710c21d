use Rattle.std.proofs.Common.{refl}
use Rattle.table_hosts.proofs.PlainTurns.{can_run, ran_plainly}
use Rattle.table_hosts.proofs.turning.run_free.Goals as goal

pub run_plain-turns-requires : goal.run_plain-turns-requires
run_plain-turns-requires g c =
    can_run g.C.ThreadCode.state g.C.ThreadCode.saved g.C.ThreadCode.code _ c.requires.can c.args.thread.now c.args.port.now refl c.requires.stands

pub returns-in-WhileFree-clause-table : goal.returns-in-WhileFree-clause-table
returns-in-WhileFree-clause-table g c =
    let turns = c.run_plain-turns in
    (ran_plainly g.C.ThreadCode.state g.C.ThreadCode.saved g.C.ThreadCode.code _ c.args.thread.now turns.new.ready c.args.port.now turns.new.port _ turns.result _ refl c.requires.stands turns.ensures.bounds turns.ensures.plain).same

pub returns-in-WhileFree-clause-stands : goal.returns-in-WhileFree-clause-stands
returns-in-WhileFree-clause-stands g c =
    let turns = c.run_plain-turns in
    (ran_plainly g.C.ThreadCode.state g.C.ThreadCode.saved g.C.ThreadCode.code _ c.args.thread.now turns.new.ready c.args.port.now turns.new.port _ turns.result _ refl c.requires.stands turns.ensures.bounds turns.ensures.plain).stands

pub returns-in-WhileFree-clause-begot : goal.returns-in-WhileFree-clause-begot
returns-in-WhileFree-clause-begot g c =
    let turns = c.run_plain-turns in
    (ran_plainly g.C.ThreadCode.state g.C.ThreadCode.saved g.C.ThreadCode.code _ c.args.thread.now turns.new.ready c.args.port.now turns.new.port _ turns.result _ refl c.requires.stands turns.ensures.bounds turns.ensures.plain).begot

pub returns-in-WhileFree-clause-took : goal.returns-in-WhileFree-clause-took
returns-in-WhileFree-clause-took g c =
    let turns = c.run_plain-turns in
    (ran_plainly g.C.ThreadCode.state g.C.ThreadCode.saved g.C.ThreadCode.code _ c.args.thread.now turns.new.ready c.args.port.now turns.new.port _ turns.result _ refl c.requires.stands turns.ensures.bounds turns.ensures.plain).took
