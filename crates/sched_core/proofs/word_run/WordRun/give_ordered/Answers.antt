use Rattle.std.proofs.Common.{is_some, refl, ◌∙◌, ap, subst}
use Rattle.thread_moves.specs.Thread.{thread_of}
use Rattle.word_runs.specs.WordTurns.{is_live}
use Rattle.sched_core.specs.declared.word_run.WordRun.{WordRun}
use Rattle.sched_core.specs.ScheduledRun.{GivesNext}
use Rattle.sched_core.proofs.RunLemmas.{ok_gives, live_there, still_ready, turn_now, item_goes}
use Rattle.sched_core.proofs.StretchLemmas.{silent_same, item_stretch}
use Rattle.sched_core.proofs.word_run.WordRun.give_ordered.Goals as goal

pub returns-then-made-gt0-clause-goes : goal.returns-then-made-gt0-clause-goes
returns-then-made-gt0-clause-goes g c =
    let silent = c.run_silent-made.ensures in
    item_stretch g.C.ThreadCode.code (thread_of g.C.ThreadCode.state g.C.ThreadCode.saved) c.args.self.now.machine.bounds c.args.thread c.run_silent-made.result c.args.self.now _ c.if-made-gt0.true
    (record { made = silent.made; others = silent.others; words = silent.words; opened = refl; undone = refl })
    c.first.result c.most_turns-most.result c.first.ensures c.most_turns-most.ensures silent.most c.requires.first c.requires.lives c.end_turns.ensures

pub give_next-requires-clause-there : goal.give_next-requires-clause-there
give_next-requires-clause-there g c =
    let silent = c.run_silent-made.ensures in
    let same = silent_same g.C.ThreadCode.code (thread_of g.C.ThreadCode.state g.C.ThreadCode.saved) c.args.thread c.run_silent-made.result c.args.self.now c.run_silent-made.new.self
    c.if-made-gt0.false silent.bounds silent.words silent.made silent.others in
    let seat = live_there g.C.ThreadCode.state g.C.ThreadCode.saved _ (ap (λ f. is_live (f c.args.thread)) same.threads ∙ c.requires.lives) in
    ap is_some seat.1

pub give_next-requires-clause-ready : goal.give_next-requires-clause-ready
give_next-requires-clause-ready g c = λ x here.
    let silent = c.run_silent-made.ensures in
    let same = silent_same g.C.ThreadCode.code (thread_of g.C.ThreadCode.state g.C.ThreadCode.saved) c.args.thread c.run_silent-made.result c.args.self.now c.run_silent-made.new.self
    c.if-made-gt0.false silent.bounds silent.words silent.made silent.others in
    turn_now g.C.ThreadCode.code c.run_silent-made.new.self.bounds c.run_silent-made.new.self.words (thread_of g.C.ThreadCode.state g.C.ThreadCode.saved x)
    ((still_ready g.C.ThreadCode.code g.C.ThreadCode.state g.C.ThreadCode.saved c.args.self.now (record c.args.self.now { machine = c.run_silent-made.new.self }) same c.requires.ready).ready c.args.thread x here)

pub returns-clause-goes : goal.returns-clause-goes
returns-clause-goes g c =
    let silent = c.run_silent-made.ensures in
    let same = silent_same g.C.ThreadCode.code (thread_of g.C.ThreadCode.state g.C.ThreadCode.saved) c.args.thread c.run_silent-made.result c.args.self.now c.run_silent-made.new.self
    c.if-made-gt0.false silent.bounds silent.words silent.made silent.others in
    let mid : WordRun _ _ = record c.args.self.now { machine = c.run_silent-made.new.self } in
    ok_gives c.give_next.result
    (λ how gives. item_goes g.C.ThreadCode.code g.C.ThreadCode.state g.C.ThreadCode.saved c.args.self.now.machine.bounds c.args.self.now mid c.give_next.new.self c.args.thread how same refl c.requires.first
    (subst (λ b. GivesNext g.C.ThreadCode.code (thread_of g.C.ThreadCode.state g.C.ThreadCode.saved) b mid c.args.thread how c.give_next.new.self) silent.bounds gives))
    c.give_next.ensures.gives
