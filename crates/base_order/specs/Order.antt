-- The types of innermost elements of a program and their places.
use Rattle.std.specs.Prelude.{◌≡◌, ◌+◌, List, length}
use Rattle.code_decode.specs.declared.code.ClassUnit.{ClassUnit}
use Rattle.link_rules.specs.Classes.{classes_of}
use Rattle.base_order.specs.declared.order.BaseOrder.{BaseOrder}
use Rattle.base_order.specs.Bases.{AreBasesOf}
use Rattle.base_order.specs.Places.{ArePlaces}

pub record IsOrderOf (us : List ClassUnit) (order : BaseOrder) : Type 0 where
  pub bases : AreBasesOf us order.bases.items
  pub count : length order.places.items ≡ 9 + length (classes_of us)
  pub places : ArePlaces order.bases.items (length order.bases.items) order.places.items
