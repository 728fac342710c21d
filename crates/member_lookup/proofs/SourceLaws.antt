-- Where classes are declared.
use Rattle.std.proofs.Common.{◌≡◌, ℕ, suc, ◌+◌, ◌<◌, List, [], ◌++◌, length, map, slice_get, Option, None, Some, ◌∙◌, ap, arith}
use Rattle.std.specs.Option.{option_map, option_map_or}
use Rattle.std.proofs.lemmas.List.{length-map}
use Rattle.std.proofs.lemmas.Simd.{map-map}
use Rattle.std.proofs.lemmas.Option.{slice_get-map, slice_get_within}
use Rattle.builtin_world.specs.Library.{library}
use Rattle.builtin_world.specs.BuiltinClass.{ClassRow, rows, shown_class, shown_field, shown_method}
use Rattle.builtin_world.specs.declared.BuiltinClass.{BuiltinClass}
use Rattle.code_decode.specs.declared.code.ClassUnit.{ClassUnit}
use Rattle.link_rules.specs.Classes.{NamedClass, NamedMember, classes_of, class_numbered, class_of_unit, library_class, library_field, library_method, member_of_file, fields_of, methods_of, number_of_file}
use Rattle.link_rules.proofs.Numbers.{file_class}
use Rattle.link_rules.proofs.Lists.{slice_get-behind, before_at}
use Rattle.class_supers.proofs.ClassLaws.{Shows, shows}

abbrev fields_in : Option NamedClass → List NamedMember
fields_in o = option_map_or (λ (k : NamedClass). k.fields) o []

abbrev methods_in : Option NamedClass → List NamedMember
methods_in o = option_map_or (λ (k : NamedClass). k.methods) o []

pub library_at : (us : List ClassUnit) (bs : List BuiltinClass) (i : ℕ) (b : BuiltinClass) (all : map shown_class bs ≡ rows) (at : slice_get bs i ≡ Some b)
    → class_numbered (classes_of us) (suc i) ≡ Some (library_class (shows bs i b all at).row)
library_at us bs i b all at =
    let s : Shows i b = shows bs i b all at in
    let lt : i < length library = slice_get_within library i s.row s.there in
    before_at (map library_class library) (map class_of_unit us) i (omega (arith, length-map library library_class))
    ∙ slice_get-map library_class library i ∙ ap (option_map library_class) s.there

pub builtin_fields : (us : List ClassUnit) (bs : List BuiltinClass) (i : ℕ) (b : BuiltinClass) → map shown_class bs ≡ rows → slice_get bs i ≡ Some b
    → fields_of (classes_of us) (suc i) ≡ map (λ f. library_field (shown_field f)) b.fields.now
builtin_fields us bs i b all at =
    let s : Shows i b = shows bs i b all at in
    ap fields_in (library_at us bs i b all at) ∙ ap (λ (r : ClassRow). map library_field r.fields) s.shown ∙ map-map library_field shown_field b.fields.now

pub builtin_methods : (us : List ClassUnit) (bs : List BuiltinClass) (i : ℕ) (b : BuiltinClass) → map shown_class bs ≡ rows → slice_get bs i ≡ Some b
    → methods_of (classes_of us) (suc i) ≡ map (λ m. library_method (shown_method m)) b.methods.now
builtin_methods us bs i b all at =
    let s : Shows i b = shows bs i b all at in
    ap methods_in (library_at us bs i b all at) ∙ ap (λ (r : ClassRow). map library_method r.methods) s.shown ∙ map-map library_method shown_method b.methods.now

pub file_methods : (us : List ClassUnit) (k : ℕ) (u : ClassUnit) → slice_get us k ≡ Some u → methods_of (classes_of us) (number_of_file k) ≡ map (member_of_file u.file.pool) u.file.methods
file_methods us k u at = ap methods_in (file_class us k u at)

pub no_class : (us : List ClassUnit) (k : ℕ) → slice_get us k ≡ None → class_numbered (classes_of us) (number_of_file k) ≡ None
unfolding library
no_class us k none =
    let behind : slice_get (map library_class library ++ map class_of_unit us) (28 + k) ≡ slice_get (map class_of_unit us) k = slice_get-behind (map library_class library) (map class_of_unit us) k in
    behind ∙ slice_get-map class_of_unit us k ∙ ap (option_map class_of_unit) none

pub no_fields : (us : List ClassUnit) (c : ℕ) → class_numbered (classes_of us) c ≡ None → fields_of (classes_of us) c ≡ []
no_fields us c none = ap fields_in none

pub no_methods : (us : List ClassUnit) (c : ℕ) → class_numbered (classes_of us) c ≡ None → methods_of (classes_of us) c ≡ []
no_methods us c none = ap methods_in none
