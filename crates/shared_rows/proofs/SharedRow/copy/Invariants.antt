use Rattle.std.proofs.Common.{◌≡◌, map, take}
use Rattle.std.specs.Arc.{arc_value}
use Rattle.shared_rows.proofs.SharedRow.copy.Given as goal

-- the pages so far are those of the row
abbrev pub invariant-loop-page : goal.invariant-loop-page
invariant-loop-page l = map arc_value l.pages.items ≡ map arc_value (take l.page-index l.self.pages.items)
