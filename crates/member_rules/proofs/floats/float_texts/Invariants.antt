use Rattle.std.proofs.Common.{◌≡◌, map, take}
use Rattle.link_rules.specs.Descriptors.{has_float}
use Rattle.member_rules.proofs.floats.float_texts.Given as goal

abbrev pub invariant-loop-text : goal.invariant-loop-text
invariant-loop-text l = l.floats.items ≡ map (λ t. has_float t.now) (take l.text-index l.text-items)
