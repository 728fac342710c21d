use Rattle.std.proofs.Common.{◌≡◌, ◌==◌, ◌&&◌, not, false, take}
use Rattle.std.specs.List.{list_any}
use Rattle.access_flags.specs.Flags.{has}
use Rattle.search_orders.specs.Orders.{rank}
use Rattle.member_lookup.proofs.lookup.any_final.Given as goal

abbrev pub invariant-loop-method : goal.invariant-loop-method
invariant-loop-method l = list_any (λ m. has m.flags 16 && not (rank l.order m.class == 0)) (take l.method-index l.methods) ≡ false
