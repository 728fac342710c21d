-- The tables of a program's methods.
use Rattle.std.specs.Prelude.{◌≡◌, ℕ, List}
use Rattle.code_decode.specs.declared.code.ClassUnit.{ClassUnit}
use Rattle.link_types.specs.declared.operands.MethodId.{MethodId}
use Rattle.link_rules.specs.Classes.{classes_of}
use Rattle.link_rules.specs.Methods.{initializer}
use Rattle.method_table.specs.declared.table.MethodTable.{MethodTable}
use Rattle.method_table.specs.Called.{called, called_in, initializer_in}

-- a table has the methods of a program
pub record AreMethodsOf (us : List ClassUnit) (table : MethodTable) : Type 0 where
  pub methods : (id : MethodId) → called_in table.classes.items table.kinds.items id ≡ called us id
  pub initializers : (c : ℕ) → initializer_in table.classes.items c ≡ initializer (classes_of us) c
