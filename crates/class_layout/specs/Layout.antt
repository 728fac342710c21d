-- The tables of a program's words.
use Rattle.std.specs.Prelude.{◌<◌, ◌^◌, List, length}
use Rattle.code_decode.specs.declared.code.ClassUnit.{ClassUnit}
use Rattle.link_rules.specs.Classes.{classes_of}
use Rattle.class_layout.specs.declared.layout.ClassLayout.{ClassLayout}
use Rattle.class_layout.specs.Rows.{AreRowsOf}
use Rattle.class_layout.specs.Objects.{ArePlacesOf}

-- the layout of the classes of a program
pub record IsLayoutOf (us : List ClassUnit) (layout : ClassLayout) : Type 0 where
  pub few : length (classes_of us) < 2 ^ 11
  pub rows : AreRowsOf (classes_of us) layout.rows.items
  pub objects : ArePlacesOf layout.rows.items layout.places
