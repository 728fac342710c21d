use Rattle.std.proofs.Common.{◌≡◌, ◌-◌}
use Rattle.code_frames.specs.Reading.{items_at}
use Rattle.code_frames.proofs.Loop.{with_front}
use Rattle.code_frames.proofs.item.items.Given as goal

abbrev pub invariant-loop : goal.invariant-loop
invariant-loop l = with_front l.items (items_at l.pool l.steps (l.count - l.counter) l.cursor) ≡ items_at l.pool l.steps l.count l.fn.cursor
