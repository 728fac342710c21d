-- What the constants of a file stand for.
use Rattle.std.specs.Prelude.{◌≡◌, ◌<◌, ◌^◌, Some, List, slice_get}
use Rattle.code_decode.specs.declared.code.ClassUnit.{ClassUnit}
use Rattle.link_rules.specs.Names.{program_names}
use Rattle.link_rules.specs.FixedObjects.{string_object}
use Rattle.string_literals.specs.Literals.{IsLiteralsOf}
use Rattle.start_objects.specs.declared.constants.FileConstants.{FileConstants}

-- the constants of the file at a place, with the literals of the program and the reference of the first of them
pub record AreConstantsOf (us : List ClassUnit) (u : ClassUnit) (constants : FileConstants) : Type 0 where
  pub literals : IsLiteralsOf us constants.literals.now
  pub unit : slice_get us constants.file ≡ Some u
  pub pool : constants.pool.now ≡ u.file.pool
  pub first : constants.first_string ≡ string_object (program_names us) 0
  pub small : constants.first_string < 2 ^ 31
