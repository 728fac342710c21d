use Rattle.link_rules.specs.Classes.{classes_of}
use Rattle.class_orders.proofs.OrderLaws.{HaveOrders}
use Rattle.class_orders.proofs.orders.all_orders.Given as goal

abbrev pub invariant-loop-class : goal.invariant-loop-class
invariant-loop-class l = HaveOrders (classes_of l.supers) l.class-items l.class-index l.orders.items
