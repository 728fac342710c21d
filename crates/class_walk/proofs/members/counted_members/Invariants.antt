use Rattle.std.proofs.Common.{◌≡◌, ◌-◌}
use Rattle.class_walk.specs.Reading.{items_at, member_at}
use Rattle.class_walk.proofs.Loop.{with_front}
use Rattle.class_walk.proofs.members.counted_members.Given as goal

abbrev pub invariant-loop : goal.invariant-loop
invariant-loop l = with_front l.members (items_at member_at (l.count - l.counter) l.cursor) ≡ items_at member_at l.count l.fn.cursor
