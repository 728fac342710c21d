use Rattle.std.proofs.Common.{◌≡◌, ◌+◌, ℕ, arith}
use Rattle.thread_moves.specs.Thread.{thread_of}
use Rattle.schedules.specs.declared.order.TurnEnd.TheVariants as ends
use Rattle.sched_core.proofs.GiveLemmas.{still_there, silent_turn, still_can_turn, given_from, placed_from}
use Rattle.sched_core.proofs.RunLemmas.{gives_place, ok_gives}
use Rattle.sched_core.proofs.StretchLemmas.{silent_same}
use Rattle.sched_core.proofs.word_run.WordRun.give_quickly.Goals as goal

none_more : (n : ℕ) → n ≡ n + 0
none_more n = omega arith

pub returns-then-made-gt0-clause-turn : goal.returns-then-made-gt0-clause-turn
returns-then-made-gt0-clause-turn g c =
    let silent = c.run_silent-made.ensures in
    silent_turn g.C.ThreadCode.code (thread_of g.C.ThreadCode.state g.C.ThreadCode.saved) c.args.self.now.machine.bounds c.args.self.now.machine.words c.run_silent-made.new.self.words
    c.args.self.now.machine.seats.places.items c.run_silent-made.new.self.seats.places.items c.args.thread c.run_silent-made.result c.if-made-gt0.true silent.most silent.words silent.made silent.others

pub returns-then-made-gt0-clause-gives : goal.returns-then-made-gt0-clause-gives
returns-then-made-gt0-clause-gives g c =
    let silent = c.run_silent-made.ensures in
    gives_place g.C.ThreadCode.code (thread_of g.C.ThreadCode.state g.C.ThreadCode.saved) c.args.self.now.machine.bounds c.args.self.now _ c.args.thread ends.Other
    (silent_turn g.C.ThreadCode.code (thread_of g.C.ThreadCode.state g.C.ThreadCode.saved) c.args.self.now.machine.bounds c.args.self.now.machine.words c.run_silent-made.new.self.words
    c.args.self.now.machine.seats.places.items c.run_silent-made.new.self.seats.places.items c.args.thread c.run_silent-made.result c.if-made-gt0.true silent.most silent.words silent.made silent.others)
    (none_more c.args.self.now.opened) (none_more c.args.self.now.undone)

pub give-requires-clause-there : goal.give-requires-clause-there
give-requires-clause-there g c =
    let silent = c.run_silent-made.ensures in
    let same = silent_same g.C.ThreadCode.code (thread_of g.C.ThreadCode.state g.C.ThreadCode.saved) c.args.thread c.run_silent-made.result c.args.self.now c.run_silent-made.new.self
    c.if-made-gt0.false silent.bounds silent.words silent.made silent.others in
    still_there (thread_of g.C.ThreadCode.state g.C.ThreadCode.saved) c.args.self.now.machine.seats.places.items c.run_silent-made.new.self.seats.places.items c.args.thread same.threads c.requires.there

pub give-requires-clause-ready : goal.give-requires-clause-ready
give-requires-clause-ready g c = λ x here.
    let silent = c.run_silent-made.ensures in
    let same = silent_same g.C.ThreadCode.code (thread_of g.C.ThreadCode.state g.C.ThreadCode.saved) c.args.thread c.run_silent-made.result c.args.self.now c.run_silent-made.new.self
    c.if-made-gt0.false silent.bounds silent.words silent.made silent.others in
    still_can_turn g.C.ThreadCode.code g.C.ThreadCode.state g.C.ThreadCode.saved c.args.self.now.machine c.run_silent-made.new.self c.args.thread
    silent.bounds silent.words same.threads c.requires.ready x here

pub returns-clause-turn : goal.returns-clause-turn
returns-clause-turn g c =
    let silent = c.run_silent-made.ensures in
    let same = silent_same g.C.ThreadCode.code (thread_of g.C.ThreadCode.state g.C.ThreadCode.saved) c.args.thread c.run_silent-made.result c.args.self.now c.run_silent-made.new.self
    c.if-made-gt0.false silent.bounds silent.words silent.made silent.others in
    ok_gives c.give.result
    (λ comes gives. given_from g.C.ThreadCode.code (thread_of g.C.ThreadCode.state g.C.ThreadCode.saved) c.args.self.now.machine c.run_silent-made.new.self c.give.new.self.machine c.args.thread comes
    silent.bounds silent.words same.threads gives)
    c.give.ensures.turn

pub returns-clause-gives : goal.returns-clause-gives
returns-clause-gives g c =
    let silent = c.run_silent-made.ensures in
    let same = silent_same g.C.ThreadCode.code (thread_of g.C.ThreadCode.state g.C.ThreadCode.saved) c.args.thread c.run_silent-made.result c.args.self.now c.run_silent-made.new.self
    c.if-made-gt0.false silent.bounds silent.words silent.made silent.others in
    ok_gives c.give.result
    (λ comes gives. placed_from g.C.ThreadCode.code (thread_of g.C.ThreadCode.state g.C.ThreadCode.saved) c.args.self.now (record c.args.self.now { machine = c.run_silent-made.new.self }) c.give.new.self
    c.args.thread comes same gives)
    c.give.ensures.gives
