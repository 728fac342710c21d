-- Where classes are declared.
use Rattle.std.specs.Prelude.{◌≡◌, ℕ, List, [], Some, map, slice_get}
use Rattle.builtin_world.specs.BuiltinClass.{shown_field, shown_method}
use Rattle.code_decode.specs.declared.code.ClassUnit.{ClassUnit}
use Rattle.link_rules.specs.Classes.{classes_of, library_field, library_method, member_of_file, fields_of, methods_of}
use Rattle.member_lookup.specs.declared.source.ClassSource.{ClassSource}
use Rattle.member_lookup.specs.declared.source.ClassSource.TheVariants.{Builtin, File, Nothing}

-- a class has these fields and methods
abbrev pub IsSource : List ClassUnit → ℕ → ClassSource → Type 0
IsSource us c (Builtin b) =
    (fields_of (classes_of us) c ≡ map (λ f. library_field (shown_field f)) b.now.fields.now)
    × (methods_of (classes_of us) c ≡ map (λ m. library_method (shown_method m)) b.now.methods.now)
IsSource us c (File k u) =
    (slice_get us k ≡ Some u.now)
    × (fields_of (classes_of us) c ≡ map (member_of_file u.now.file.pool) u.now.file.fields)
    × (methods_of (classes_of us) c ≡ map (member_of_file u.now.file.pool) u.now.file.methods)
IsSource us c Nothing = (fields_of (classes_of us) c ≡ []) × (methods_of (classes_of us) c ≡ [])
