use Rattle.std.proofs.Common.{◌≡◌, ℕ, Option, Some, length, slice_get}
use Rattle.link_rules.specs.Classes.{classes_of, reference_at}
use Rattle.use_rules.specs.declared.members.MemberFacts.{MemberFacts}
use Rattle.use_rules.specs.Facts.{AreFactsOf}
use Rattle.use_rules.proofs.members.member_table.Given as goal

abbrev pub invariant-loop-index : goal.invariant-loop-index
invariant-loop-index l =
    (length l.table.items ≡ l.index)
    × ((i : ℕ) (x : Option MemberFacts) → slice_get l.table.items i ≡ Some x → AreFactsOf (classes_of l.lookup.units) l.place (reference_at l.unit.file.pool i) x)
