use Rattle.std.proofs.Common.{◌≡◌, Some, map, take, slice_get}
use Rattle.code_decode.specs.declared.code.ClassUnit.{ClassUnit}
use Rattle.link_rules.specs.Classes.{member_of_file}
use Rattle.link_implementations.specs.Implementations.{abstract_candidates}
use Rattle.link_implementations.proofs.candidates.file_candidates.Given as goal

abbrev pub invariant-loop-method : goal.invariant-loop-method
invariant-loop-method l = (u : ClassUnit) → slice_get l.lookup.units l.file ≡ Some u → l.candidates.items ≡ abstract_candidates l.lookup (map (member_of_file u.file.pool) (take l.method-index l.methods))
