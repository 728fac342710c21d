-- Tables of the classes of a program.
use Rattle.std.specs.Prelude.{◌≡◌, ◌↔◌, ℕ, suc, ◌≤◌, Bool, List, length, map}
use Rattle.code_decode.specs.declared.code.ClassUnit.{ClassUnit}
use Rattle.link_rules.specs.Classes.{classes_of, class_number}
use Rattle.link_rules.specs.Supers.{IsAbove}
use Rattle.transitive_closure.specs.Relation.{Relates}
use Rattle.class_supers.specs.Numbers.{number_named, AreNumbersOf}
use Rattle.class_supers.specs.Headers.{header_by}
use Rattle.class_supers.specs.declared.headers.ClassHeader.{ClassHeader}
use Rattle.class_supers.specs.declared.numbers.ClassNumbers.{ClassNumbers}

-- the numbers of the names, what each class names, and what is above what
pub record IsHierarchy (us : List ClassUnit) (numbers : ClassNumbers) (headers : List ClassHeader) (above : List (List Bool)) : Type 0 where
  pub few : length us ≤ 1024
  pub numbered : AreNumbersOf (number_named numbers) (classes_of us)
  pub named : headers ≡ map (header_by (class_number (classes_of us))) (classes_of us)
  pub size : length above ≡ suc (length (classes_of us))
  pub related : (c d : ℕ) → Relates above c d ↔ IsAbove (classes_of us) c d
