use Rattle.std.proofs.Common.{◌≡◌, map, take}
use Rattle.builtin_world.specs.BuiltinClass.{shown_method}
use Rattle.link_rules.specs.Classes.{library_method}
use Rattle.link_implementations.specs.Implementations.{abstract_candidates}
use Rattle.link_implementations.proofs.candidates.builtin_candidates.Given as goal

abbrev pub invariant-loop-method : goal.invariant-loop-method
invariant-loop-method l = l.candidates.items ≡ abstract_candidates l.lookup (map library_method (map shown_method (take l.method-index l.methods)))
