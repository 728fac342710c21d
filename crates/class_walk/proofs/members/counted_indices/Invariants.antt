use Rattle.std.proofs.Common.{◌≡◌, ◌-◌}
use Rattle.class_walk.specs.Reading.{items_at, number_at}
use Rattle.class_walk.proofs.Loop.{with_front}
use Rattle.class_walk.proofs.members.counted_indices.Given as goal

abbrev pub invariant-loop : goal.invariant-loop
invariant-loop l = with_front l.indices (items_at (number_at 2) (l.count - l.counter) l.cursor) ≡ items_at (number_at 2) l.count l.fn.cursor
