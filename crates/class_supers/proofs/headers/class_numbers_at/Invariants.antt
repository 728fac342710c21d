use Rattle.std.proofs.Common.{◌≡◌, map, take}
use Rattle.link_rules.specs.Classes.{class_name_at}
use Rattle.class_supers.specs.Numbers.{number_named}
use Rattle.class_supers.proofs.headers.class_numbers_at.Given as goal

abbrev pub invariant-loop-index : goal.invariant-loop-index
invariant-loop-index l = l.named.items ≡ map (λ at. number_named l.numbers (class_name_at l.pool at)) (take l.index-index l.indices)
