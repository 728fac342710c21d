use Rattle.std.proofs.Common.{◌≡◌, ◌++◌, take}
use Rattle.std.specs.List.{flat_map}
use Rattle.code_write.specs.Frame.{type_bytes}
use Rattle.code_write.proofs.frames.put_each_type.Given as goal

abbrev pub invariant-loop-kind : goal.invariant-loop-kind
invariant-loop-kind l = l.out.items ≡ l.fn.out.items ++ flat_map type_bytes (take l.kind-index l.types)
