use Rattle.std.proofs.Common.{refl}
use Rattle.quick_turn_tests.proofs.ReadyLemmas.{toys_ready, saves_have}
use Rattle.quick_turn_tests.proofs.slices.give_usual.Goals as goal

pub run_usual-requires : goal.run_usual-requires
run_usual-requires g c =
    toys_ready c.args.ready.now.own.bounds _ (λ x step a y made. made.0) _ c.args.port.now c.requires
    (saves_have c.args.ready.now.code.steps.now _ (λ p. refl) c.args.ready.now.own.opening c.args.ready.now.code.saves)
