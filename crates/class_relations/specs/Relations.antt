-- What classes are to each other, as it is kept.
use Rattle.std.specs.Prelude.{◌≡◌, ℕ, suc, ◌<◌, ◌≤◌, Bool, false, List, length, slice_index, slice_index_or}
use Rattle.transitive_closure.specs.Relation.{relates}
use Rattle.access_flags.specs.declared.TheConstants.{INTERFACE}
use Rattle.code_decode.specs.declared.code.ClassUnit.{ClassUnit}
use Rattle.link_rules.specs.Classes.{NamedClass, classes_of, class_has, superclass_of}
use Rattle.link_rules.specs.Supers.{superclasses, method_order}
use Rattle.search_orders.specs.Orders.{has_number}
use Rattle.class_relations.specs.declared.relations.ClassRelations.{ClassRelations}

-- each of the classes below a number is related to those of its order
pub record IsMarked (cs : List NamedClass) (order : ℕ → List ℕ) (n : ℕ) (rows : List (List Bool)) : Type 0 where
  pub size : length rows ≡ suc (length cs)
  pub each : (c d : ℕ) → c < n → relates rows c d ≡ has_number (order c) d
  pub others : (c d : ℕ) → n ≤ c → relates rows c d ≡ false

-- the superclasses, the interfaces and what is above each class of a program, by number
pub record AreRelationsOf (us : List ClassUnit) (r : ClassRelations) : Type 0 where
  pub count : r.count ≡ length (classes_of us)
  pub supers_are : (c : ℕ) → slice_index r.superclasses.items c ≡ superclass_of (classes_of us) c
  pub interfaces_are : (c : ℕ) → slice_index_or r.interfaces.items c false ≡ class_has (classes_of us) c INTERFACE
  pub above : IsMarked (classes_of us) (method_order (classes_of us)) (suc (length (classes_of us))) r.above
  pub upward : IsMarked (classes_of us) (superclasses (classes_of us)) (suc (length (classes_of us))) r.upward
