-- Operands of fields that are found.
use Rattle.std.proofs.Common.{◌≡◌, ◌≢◌, ◌-◌, ℕ, zero, suc, List, map, slice_get, Some, refl, sym, ◌∙◌, ap, arith}
use Rattle.std.proofs.lemmas.Option.{slice_get-map}
use Rattle.text_numbers.specs.Numbers.{number_of}
use Rattle.text_numbers.proofs.NumberLaws.{text_of_number}
use Rattle.std.specs.Option.{option_map, option_map_or}
use Rattle.class_pool.specs.Pool.{Reference}
use Rattle.code_decode.specs.declared.code.ClassUnit.{ClassUnit}
use Rattle.link_types.specs.declared.types.ObjectType.{ObjectType}
use Rattle.link_rules.specs.Classes.{NamedClass, classes_of}
use Rattle.link_rules.specs.Members.{Declared, found_field}
use Rattle.link_rules.specs.Names.{program_names, type_named}
use Rattle.link_rules.specs.Layout.{field_place}
use Rattle.link_rules.specs.Operands.{field_named}
use Rattle.link_rules.proofs.Looked.{field_fits}
use Rattle.class_layout.specs.Rows.{place_numbered}
use Rattle.member_lookup.specs.Found.{found_of}
use Rattle.operand_table.specs.FieldTypes.{field_type}
use Rattle.operand_table.specs.Found.{operand_of_field}

pub field_is : (us : List ClassUnit) (r : Reference) (d : Declared) → found_field (classes_of us) r ≡ Some d
    → operand_of_field (type_named (program_names us) r.class) (field_type us r.descriptor) (place_numbered (classes_of us) d.class d.place) (found_of d)
    ≡ field_named (program_names us) r (Some d)
field_is us r d e =
    let cs : List NamedClass = classes_of us in
    let named : ObjectType = type_named (program_names us) r.class in
    let found = (field_fits cs r d e).found in
    ap (λ o. operand_of_field named (field_type us r.descriptor) (option_map_or (field_place cs d.class d.place) o 0) (found_of d)) found.there
    ∙ ap (λ t. operand_of_field named (field_type us t) (field_place cs d.class d.place d.member) (found_of d)) (sym found.descriptor)

-- what is made of a text is at the text's number, counted from 1
pub at_number : {A : Type 0} (f : List ℕ → A) (texts : List (List ℕ)) (text : List ℕ) (n : ℕ) → n ≡ number_of texts text → n ≢ 0 → slice_get (map f texts) (n - 1) ≡ Some (f text)
at_number f texts text zero is some = absurd (some refl)
at_number f texts text (suc i) is some =
    let place : suc i - 1 ≡ i = omega arith in
    ap (slice_get (map f texts)) place ∙ slice_get-map f texts i ∙ ap (option_map f) (text_of_number texts text i (sym is))
