use Rattle.std.proofs.Common.{◌≡◌, take, None}
use Rattle.std.specs.List.{position_from}
use Rattle.link_rules.specs.Classes.{classes_of}
use Rattle.linker.specs.Names.{has_name}
use Rattle.linker.proofs.world.World.class_named.Given as goal

abbrev pub invariant-loop-place : goal.invariant-loop-place
invariant-loop-place l = position_from (has_name l.name) 0 (take l.place (classes_of l.self)) ≡ None
