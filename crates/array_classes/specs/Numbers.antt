-- The array types of a linked program and their numbers.
use Rattle.std.specs.Prelude.{◌≡◌, ℕ, suc, ◌+◌, ◌<◌, ◌^◌, Option, None, Some, List, length}
use Rattle.class_names.specs.Names.{IsClassName}
use Rattle.code_decode.specs.declared.code.ClassUnit.{ClassUnit}
use Rattle.link_types.specs.declared.types.ElementType.TheVariants.{Class}
use Rattle.link_rules.specs.Classes.{NamedClass, classes_of}
use Rattle.link_rules.specs.Laws.{NamesHaveOneNumber}
use Rattle.base_order.specs.Bases.{name_of, IsBase}
use Rattle.base_order.specs.Order.{IsOrderOf}
use Rattle.array_table.specs.Table.{IsTableOf}
use Rattle.array_kinds.specs.declared.kind.ArrayKind.{ArrayKind}
use Rattle.array_uses.specs.Most.{IsArrayIn, IsMost, program_arrays}
use Rattle.array_classes.specs.declared.arrays.ArrayNumbers.{ArrayNumbers}

-- the names of classes are class names (JVMS 4.2.1)
abbrev pub AreNamed : List NamedClass → Type 0
AreNamed cs = (c : ℕ) → IsBase cs (Class c) → IsClassName (name_of cs c)

-- the array types that a program uses, with those of their elements, are numbered after its classes
pub record AreNumbersOf (us : List ClassUnit) (numbers : ArrayNumbers) : Type 0 where
  pub order_is : IsOrderOf us numbers.order
  pub most : List ℕ
  pub most_is : IsMost us numbers.order (program_arrays us) most
  pub table_is : IsTableOf most numbers.table
  pub few : length most < 2 ^ 12
  pub small : length (classes_of us) < 2 ^ 12
  pub first_is : numbers.first ≡ suc (length (classes_of us))
  pub count_is : suc numbers.count ≡ numbers.first + numbers.table.count
  pub names : NamesHaveOneNumber (classes_of us)
  pub named : AreNamed (classes_of us)

-- an array type is that of a descriptor, where there is one
abbrev pub IsKindOf : List NamedClass → Option ArrayKind → Option (List ℕ) → Type 0
IsKindOf cs None text = text ≡ None
IsKindOf cs (Some a) text = (descriptor : List ℕ) × (text ≡ Some descriptor) × IsArrayIn cs a descriptor
