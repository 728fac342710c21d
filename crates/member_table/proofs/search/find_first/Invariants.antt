use Rattle.std.proofs.Common.{◌≡◌, take}
use Rattle.member_table.specs.Search.{first_found, of_class}
use Rattle.member_table.proofs.SearchLaws.{rank_of}
use Rattle.member_table.proofs.search.find_first.Given as goal

abbrev pub invariant-loop-member : goal.invariant-loop-member
invariant-loop-member l = record {
  first : l.first ≡ first_found (of_class (take l.member-index l.members)) l.order;
  least : l.least ≡ rank_of l.order l.first;
}
