-- What a method is to its callers (JVMS 4.3.3, 4.6), by the files of a program and by tables.
use Rattle.std.specs.Prelude.{ℕ, zero, suc, Option, None, List, slice_get, option_map}
use Rattle.std.specs.Option.{option_and_then}
use Rattle.code_decode.specs.declared.code.ClassUnit.{ClassUnit}
use Rattle.link_types.specs.declared.methods.Method.{Method}
use Rattle.link_types.specs.declared.methods.MethodBody.{MethodBody}
use Rattle.link_types.specs.declared.methods.MethodType.{MethodType}
use Rattle.link_types.specs.declared.operands.MethodId.{MethodId}
use Rattle.link_rules.specs.Classes.{NamedMember, classes_of}
use Rattle.link_rules.specs.Names.{ProgramNames, program_names}
use Rattle.link_rules.specs.Methods.{method_named, body_of_member}
use Rattle.named_types.specs.Methods.{method_type}
use Rattle.method_table.specs.declared.rows_of.MethodRow.{MethodRow}
use Rattle.method_table.specs.declared.classes.ClassMethods.{ClassMethods}

pub record CalledMethod : Type 0 where
  pub flags : ℕ
  pub kind : MethodType
  pub body : MethodBody

abbrev pub called_member : ProgramNames → MethodId → NamedMember → CalledMethod
called_member p id m = record { flags = m.flags; kind = method_type p m.descriptor; body = body_of_member id m }

-- the method of a number in a program
abbrev pub called : List ClassUnit → MethodId → Option CalledMethod
called us id = option_map (called_member (program_names us) id) (method_named (classes_of us) id)

-- what a caller sees in the fields of a `Method`
abbrev pub shown : Method → CalledMethod
shown m = record { flags = m.flags; kind = m.kind.now; body = m.body }

-- the row of a method in the table of classes, and the type of a text's number in that of types
abbrev pub row_in : List ClassMethods → MethodId → Option MethodRow
row_in classes id = option_and_then (λ (k : ClassMethods). slice_get k.rows id.method) (slice_get classes id.class)

abbrev pub kind_in : List MethodType → ℕ → Option MethodType
kind_in kinds zero = None
kind_in kinds (suc i) = slice_get kinds i

abbrev pub called_row : List MethodType → MethodRow → Option CalledMethod
called_row kinds row =
    option_map (λ (k : MethodType). record { flags = row.flags; kind = k; body = row.body }) (kind_in kinds row.kind)

abbrev pub called_in : List ClassMethods → List MethodType → MethodId → Option CalledMethod
called_in classes kinds id = option_and_then (called_row kinds) (row_in classes id)

abbrev pub initializer_in : List ClassMethods → ℕ → Option MethodId
initializer_in classes c = option_and_then (λ (k : ClassMethods). k.initializer) (slice_get classes c)
