-- Fields that indices of constant pools stand for.
use Rattle.std.proofs.Common.{◌≡◌, ◌≢◌, ℕ, ◌+◌, ◌*◌, ◌^◌, ◌<◌, ◌≤◌, Bool, true, false, cond, nat_le, List, [], length, map, take, slice_get, Option, None, Some, inl, inr, refl, sym, ap, subst, ◌∙◌, arith}
use Rattle.std.specs.List.{range_with_len}
use Rattle.std.specs.Option.{option_map_or}
use Rattle.std.proofs.lemmas.Bool.{cases_lt, leb-true}
use Rattle.std.proofs.lemmas.List.{length-map, length-take}
use Rattle.std.proofs.lemmas.Option.{slice_get_within, none-some}
use Rattle.access_flags.specs.declared.TheConstants.{STATIC}
use Rattle.access_flags.specs.Flags.{has}
use Rattle.builtin_world.specs.Library.{library}
use Rattle.class_layout.proofs.FieldLaws.{own_few}
use Rattle.class_layout.proofs.RowLaws.{super_is_small}
use Rattle.code_decode.specs.declared.code.ClassUnit.{ClassUnit}
use Rattle.code_laws.proofs.FileLaws.{small}
use Rattle.link_types.specs.declared.operands.FieldOperand.{FieldOperand}
use Rattle.link_rules.specs.Classes.{NamedClass, NamedMember, class_numbered, classes_of, fields_of, member_of_file, superclass_of}
use Rattle.link_rules.specs.Layout.{field_place, instance_words, own_words}
use Rattle.link_rules.specs.Names.{program_names, is_class_number}
use Rattle.link_rules.specs.Supers.{PutsSupersFirst}
use Rattle.link_rules.specs.Units.{AreUnits}
use Rattle.link_rules.proofs.Numbers.{in_library, is_file}
use Rattle.link_rules.proofs.Objects.{fields_of_file}
use Rattle.link_rules.proofs.Named.{class_within}
use Rattle.java_world.proofs.ClassLaws.{counts}
use Rattle.java_world.proofs.OperandLaws.{IsFieldOf}

-- ---- the owner

class_there : (cs : List NamedClass) (c i : ℕ) (m : NamedMember) → slice_get (fields_of cs c) i ≡ Some m → (c ≢ 0) × (c ≤ length cs)
class_there cs c i m there = go (class_numbered cs c) refl there
  where
    go : (o : Option NamedClass) → class_numbered cs c ≡ o → slice_get (option_map_or (λ (k : NamedClass). k.fields) o []) i ≡ Some m → (c ≢ 0) × (c ≤ length cs)
    go None at e = absurd (none-some m e)
    go (Some k) at e = class_within cs c k at

pub owner_counts : (us : List ClassUnit) (f : FieldOperand) → IsFieldOf (classes_of us) f → is_class_number (program_names us) f.owner ≡ true
owner_counts us f is =
    let owner = class_there (classes_of us) f.owner is.index is.member is.there in
    let within : f.owner ≤ length (classes_of us) = owner.1 in
    counts (program_names us) f.owner owner.0 (omega (arith, within))

-- ---- the place

library_fields : (us : List ClassUnit) → map (λ c. nat_le (length (fields_of (classes_of us) c)) 1) (range_with_len 0 29) ≡ map (λ _. true) (range_with_len 0 29)
unfolding library
library_fields us = refl

fields_few : (us : List ClassUnit) (c : ℕ) → AreUnits us → c ≤ length (classes_of us) → length (fields_of (classes_of us) c) < 2 ^ 16
fields_few us c decoded within = elim (cases_lt 28 c) [
  | inl high ↦
      let f = is_file us c high within in
      let few : length f.1.file.fields < 2 ^ 16 = (small f.1.file (decoded f.0 f.1 f.2).file).fields in
      let fields : fields_of (classes_of us) c ≡ map (member_of_file f.1.file.pool) f.1.file.fields = ap (fields_of (classes_of us)) f.3 ∙ fields_of_file us f.0 f.1 f.2 in
      let many : length (fields_of (classes_of us) c) ≡ length f.1.file.fields = ap length fields ∙ length-map f.1.file.fields (member_of_file f.1.file.pool) in
      omega (arith, few, many)
  | inr low ↦
      let one : length (fields_of (classes_of us) c) ≤ 1 =
      leb-true (length (fields_of (classes_of us) c)) 1 (in_library 0 29 (λ c. nat_le (length (fields_of (classes_of us) c)) 1) (λ _. true) (library_fields us) c (omega arith) (omega arith)) in
      omega (arith, one)
]

place_few : (cs : List NamedClass) (c i : ℕ) (m : NamedMember) → slice_get (fields_of cs c) i ≡ Some m → length (fields_of cs c) < 2 ^ 16 → instance_words cs (superclass_of cs c) < 2 ^ 30
    → field_place cs c i m + 1 < 2 ^ 32
place_few cs c i m there few above = go (has m.flags STATIC)
  where
    own : (static : Bool) → own_words static (take i (fields_of cs c)) ≤ 2 ^ 17
    own static =
        let most : own_words static (take i (fields_of cs c)) ≤ 2 * length (take i (fields_of cs c)) = own_few static (take i (fields_of cs c)) in
        let lt : i < length (fields_of cs c) = slice_get_within (fields_of cs c) i m there in
        omega (arith, most, lt, few, length-take i (fields_of cs c))

    go : (b : Bool) → cond b (own_words true (take i (fields_of cs c))) (instance_words cs (superclass_of cs c) + own_words false (take i (fields_of cs c))) + 1 < 2 ^ 32
    go true = omega (arith, own true)
    go false = omega (arith, own false, above)

pub place_small : (us : List ClassUnit) (order : List ℕ) (f : FieldOperand) → AreUnits us → length us ≤ 1024 → PutsSupersFirst (classes_of us) order
    → IsFieldOf (classes_of us) f → f.place + 1 < 2 ^ 32
place_small us order f decoded few first is =
    let cs : List NamedClass = classes_of us in
    let owner = class_there cs f.owner is.index is.member is.there in
    let ordered = first.whole f.owner owner.0 owner.1 in
    let above : instance_words cs (superclass_of cs f.owner) < 2 ^ 30 = super_is_small us order ordered.0 f.owner decoded few first ordered.1 in
    subst (λ n. n + 1 < 2 ^ 32) (sym is.place) (place_few cs f.owner is.index is.member is.there (fields_few us f.owner decoded owner.1) above)
