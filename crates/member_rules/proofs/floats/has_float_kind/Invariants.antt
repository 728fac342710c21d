use Rattle.std.proofs.Common.{◌≡◌}
use Rattle.std.specs.List.{list_any}
use Rattle.link_rules.specs.Descriptors.{innermost, is_float_base}
use Rattle.member_rules.proofs.floats.has_float_kind.Given as goal

abbrev pub invariant-loop-shape : goal.invariant-loop-shape
invariant-loop-shape l = list_any (λ kind. is_float_base (innermost kind)) l.fn.kinds ≡ list_any (λ kind. is_float_base (innermost kind)) l.shape-iterator
