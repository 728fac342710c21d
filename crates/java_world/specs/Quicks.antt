-- The quick forms of the instructions of a program, by the files of its classes and the places of methods there.
use Rattle.std.specs.Prelude.{◌≡◌, ℕ, ◌-◌, suc, nat_le, Option, None, List, [], map, slice_get, if◌then◌else◌}
use Rattle.std.specs.Option.{option_map_or}
use Rattle.builtin_world.specs.declared.number.TheConstants.{COUNT}
use Rattle.code_decode.specs.declared.code.ClassUnit.{ClassUnit}
use Rattle.code_decode.specs.declared.code.Code.{Code}
use Rattle.link_types.specs.declared.operands.MethodId.{MethodId}
use Rattle.interp_local.specs.declared.quick.Quick.{Quick}
use Rattle.interp_local.specs.Quick.{quicks_of}

abbrev pub quicks_of_code : Option Code → List Quick
quicks_of_code code = option_map_or (λ (c : Code). quicks_of c.steps) code []

abbrev pub quicks_of_unit : ClassUnit → List (List Quick)
quicks_of_unit u = map quicks_of_code u.codes

-- those of the method at a place of a file
abbrev pub quicks_in : List (List Quick) → ℕ → List Quick
quicks_in methods place = option_map_or (λ (quicks : List Quick). quicks) (slice_get methods place) []

-- those of a method
abbrev pub quicks_of_id : List (List (List Quick)) → MethodId → List Quick
quicks_of_id files id =
    option_map_or (λ (methods : List (List Quick)). quicks_in methods id.method)
    (if nat_le id.class COUNT then None else slice_get files (id.class - suc COUNT)) []

pub record AreQuicksOf (us : List ClassUnit) (files : List (List (List Quick))) : Type 0 where
  pub are : files ≡ map quicks_of_unit us
