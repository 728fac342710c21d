-- Operands of what look-up finds.
use Rattle.std.specs.Prelude.{ℕ, ◌==◌, Option, if◌then◌else◌}
use Rattle.std.specs.Option.{option_map_or}
use Rattle.access_flags.specs.declared.TheConstants.{STATIC}
use Rattle.access_flags.specs.Flags.{has}
use Rattle.builtin_world.specs.declared.number.TheConstants.{SYSTEM}
use Rattle.link_types.specs.declared.operands.FieldOperand.{FieldOperand}
use Rattle.link_types.specs.declared.operands.MethodId.{MethodId}
use Rattle.link_types.specs.declared.operands.Operand.{Operand}
use Rattle.link_types.specs.declared.operands.Operand.TheVariants.{Nothing, Out, Field}
use Rattle.link_types.specs.declared.types.ObjectType.{ObjectType}
use Rattle.link_types.specs.declared.types.ValueType.{ValueType}
use Rattle.member_lookup.specs.declared.found.Found.{Found}

-- a field that was found, in an object of the named type where it isn't static
abbrev pub field_operand_of : ObjectType → ValueType → ℕ → Found → FieldOperand
field_operand_of named kind place f = record {
  named = named;
  owner = f.class;
  is_static = has f.flags STATIC;
  kind = kind;
  place = place;
}

-- the operand of a field that was found, if it has a type
abbrev pub operand_of_field : ObjectType → Option ValueType → ℕ → Found → Operand
operand_of_field named kind place f =
    if f.class == SYSTEM then Out else option_map_or (λ k. Field (field_operand_of named k place f)) kind Nothing

abbrev pub id_of : Found → MethodId
id_of f = record { class = f.class; method = f.place }
