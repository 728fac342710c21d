-- A linked program.
use Rattle.std.specs.Prelude.{ℕ, ◌≢◌, ◌≤◌, List, length}
use Rattle.code_decode.specs.declared.code.ClassUnit.{ClassUnit}
use Rattle.link_rules.specs.Classes.{NamedClass, classes_of}
use Rattle.link_rules.specs.Supers.{PutsSupersFirst}
use Rattle.link_rules.specs.LinkRules.{link_rules}

-- the rules of linking hold, and in an order of the classes each one comes after those above it
pub record IsLinked (us : List ClassUnit) (upward : List ℕ) : Type 0 where
  pub rules : (link_rules us).Hold
  pub order : PutsSupersFirst (classes_of us) upward

-- the number of a class that is no array class
pub record IsClassNumber (cs : List NamedClass) (c : ℕ) : Type 0 where
  pub some : c ≢ 0
  pub within : c ≤ length cs
