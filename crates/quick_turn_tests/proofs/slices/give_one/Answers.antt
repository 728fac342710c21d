use Rattle.quick_turn_tests.proofs.ReadyLemmas.{toy_asks}
use Rattle.quick_turn_tests.proofs.slices.give_one.Goals as goal

pub turn-requires-clause-range : goal.turn-requires-clause-range
turn-requires-clause-range g c =
    toy_asks (record { scripts = c.args.ready.now.code.scripts.now; steps = c.args.ready.now.code.steps.now; place = c.args.ready.now.code.place }) c.requires
