-- The rows of methods, by what look-up knows of them.
use Rattle.std.specs.Prelude.{ℕ, ◌&&◌, Bool, map, if◌then◌else◌}
use Rattle.std.specs.Option.{option_map_or}
use Rattle.access_flags.specs.declared.TheConstants.{STATIC, ABSTRACT}
use Rattle.access_flags.specs.Flags.{has}
use Rattle.class_texts.specs.Texts.{ProgramTexts}
use Rattle.link_types.specs.declared.methods.MethodBody.{MethodBody}
use Rattle.link_types.specs.declared.methods.MethodBody.TheVariants as bodies
use Rattle.link_rules.specs.Classes.{classes_of, methods_of}
use Rattle.link_rules.specs.Methods.{native_of, initializer}
use Rattle.member_table.specs.declared.table.MemberRow.{MemberRow}
use Rattle.member_table.specs.Members.{has_signature}
use Rattle.member_lookup.specs.Rows.{class_rows, id_of_row}
use Rattle.method_table.specs.declared.rows_of.MethodRow.{MethodRow}
use Rattle.method_table.specs.declared.classes.ClassMethods.{ClassMethods}

abbrev pub body_of_row : MemberRow → MethodBody
body_of_row m =
    if has m.flags ABSTRACT then bodies.Abstract else option_map_or (λ n. bodies.Native n) (native_of (id_of_row m)) bodies.Code

abbrev pub method_row : MemberRow → MethodRow
method_row m = record { flags = m.flags; kind = m.descriptor; body = body_of_row m }

-- a static method of a name and a descriptor
abbrev pub initializes : ℕ → ℕ → MemberRow → Bool
initializes name descriptor m = has_signature name descriptor m && has m.flags STATIC

-- the methods of a class
abbrev pub class_methods : ProgramTexts → ℕ → ClassMethods
class_methods p c = record {
  rows = map method_row (class_rows p.texts (methods_of (classes_of p.units)) c);
  initializer = initializer (classes_of p.units) c;
}
