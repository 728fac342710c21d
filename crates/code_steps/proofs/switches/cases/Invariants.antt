use Rattle.std.proofs.Common.{◌≡◌, ◌-◌}
use Rattle.class_walk.specs.Reading.{items_at}
use Rattle.code_steps.specs.Reading.{case_at}
use Rattle.class_walk.proofs.Loop.{with_front}
use Rattle.code_steps.proofs.switches.cases.Given as goal

abbrev pub invariant-loop : goal.invariant-loop
invariant-loop l = with_front l.cases (items_at (case_at l.at) (l.count - l.counter) l.cursor) ≡ items_at (case_at l.at) l.count l.fn.cursor
