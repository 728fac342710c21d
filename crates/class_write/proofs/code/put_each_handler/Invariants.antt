use Rattle.std.proofs.Common.{◌≡◌, ◌++◌, take}
use Rattle.std.specs.List.{flat_map}
use Rattle.class_walk.specs.Layout.{handler}
use Rattle.class_write.proofs.code.put_each_handler.Given as goal

abbrev pub invariant-loop-handler : goal.invariant-loop-handler
invariant-loop-handler l = l.out.items ≡ l.fn.out.items ++ flat_map handler (take l.handler-index l.handlers)
