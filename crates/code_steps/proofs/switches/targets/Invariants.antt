use Rattle.std.proofs.Common.{◌≡◌, ◌-◌}
use Rattle.class_walk.specs.Reading.{items_at}
use Rattle.code_steps.specs.Reading.{target_at}
use Rattle.class_walk.proofs.Loop.{with_front}
use Rattle.code_steps.proofs.switches.targets.Given as goal

abbrev pub invariant-loop : goal.invariant-loop
invariant-loop l = with_front l.targets (items_at (target_at l.at) (l.count - l.counter) l.cursor) ≡ items_at (target_at l.at) l.count l.fn.cursor
