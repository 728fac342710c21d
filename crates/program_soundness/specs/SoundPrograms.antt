-- Programs that were decoded, linked and verified.
use Rattle.std.specs.Prelude.{ℕ, List}
use Rattle.code_decode.specs.declared.code.ClassUnit.{ClassUnit}
use Rattle.link_rules.specs.Linked.{IsLinked}
use Rattle.link_rules.specs.Units.{AreUnits}
use Rattle.type_rules.specs.VerifyRules.{verify_rules}

-- the classes are those of files, keep the rules of linking in an order of them, and each method is type safe
pub record IsSound (us : List ClassUnit) (order : List ℕ) : Type 0 where
  pub units : AreUnits us
  pub linked : IsLinked us order
  pub verified : (verify_rules us).Hold
