use Rattle.std.proofs.Common.{◌≡◌, map, take}
use Rattle.link_rules.specs.Classes.{classes_of}
use Rattle.member_lookup.specs.Found.{holder_named}
use Rattle.member_lookup.proofs.lookup.holders.Given as goal

abbrev pub invariant-loop-name : goal.invariant-loop-name
invariant-loop-name l = l.holders.items ≡ map (λ t. holder_named (classes_of l.supers) t.now) (take l.name-index l.name-items)
