-- Numbers of classes, and class objects.
use Rattle.std.proofs.Common.{◌≡◌, ◌≢◌, ℕ, suc, ◌+◌, ◌≤◌, ◌<◌, ◌==◌, ◌&&◌, Bool, true, false, cond, nat_le, List, [], length, slice_get, bytes_eq, Option, None, Some, refl, ap, ◌∙◌, arith}
use Rattle.std.specs.List.{position_from}
use Rattle.std.specs.Option.{option_map, option_map_or}
use Rattle.std.proofs.lemmas.Bool.{le-leb, eqb-false, false≢true}
use Rattle.std.proofs.lemmas.Option.{slice_get_within, same_Some, none-some}
use Rattle.access_flags.specs.Flags.{has}
use Rattle.code_decode.specs.declared.code.ClassUnit.{ClassUnit}
use Rattle.link_types.specs.declared.operands.MethodId.{MethodId}
use Rattle.link_rules.specs.Classes.{NamedClass, NamedMember, class_number, class_numbered, classes_of, is_array_name}
use Rattle.link_rules.specs.FixedObjects.{class_object}
use Rattle.link_rules.specs.Names.{ProgramNames, program_names, array_number, class_count, is_class_number, number_named}
use Rattle.link_rules.specs.Readers.{layout}
use Rattle.link_rules.proofs.Lists.{Found, found_at}
use Rattle.link_rules.proofs.Numbers.{class_number_within}
use Rattle.link_rules.proofs.Named.{class_within}
use Rattle.java_rows.specs.Program.{method_has}

pub counts : (p : ProgramNames) (c : ℕ) → c ≢ 0 → c ≤ class_count p → is_class_number p c ≡ true
counts p c some within =
    ap (λ b. b && nat_le c (class_count p)) (le-leb 1 c (omega (arith, some))) ∙ le-leb c (class_count p) within

pub object_of : (p : ProgramNames) (c : ℕ) → is_class_number p c ≡ true → (layout p c).object ≡ class_object p c
object_of p c is = ap (λ b. cond b (class_object p c) 0) is

-- ---- classes that are there

-- a method that has a flag is a method of a class
pub flag_counts : (us : List ClassUnit) (id : MethodId) (flag : ℕ) → method_has us id flag ≡ true → is_class_number (program_names us) id.class ≡ true
flag_counts us id flag e = go (class_numbered (classes_of us) id.class) refl e
  where
    go : (o : Option NamedClass) → class_numbered (classes_of us) id.class ≡ o
        → option_map_or (λ (m : NamedMember). has m.flags flag) (slice_get (option_map_or (λ (k : NamedClass). k.methods) o []) id.method) false ≡ true
        → is_class_number (program_names us) id.class ≡ true
    go None at e = absurd (false≢true e)
    go (Some k) at e =
        let there = class_within (classes_of us) id.class k at in
        let within : id.class ≤ length (classes_of us) = there.1 in
        counts (program_names us) id.class there.0 (omega (arith, within))

-- ---- classes by their names

array_counts : (p : ProgramNames) (name : List ℕ) (n : ℕ) → array_number p name ≡ Some n → is_class_number p n ≡ true
array_counts p name n e = go (position_from (bytes_eq name) 0 p.arrays) refl e
  where
    go : (o : Option ℕ) → position_from (bytes_eq name) 0 p.arrays ≡ o → option_map (λ i. suc (length p.classes + i)) o ≡ Some n → is_class_number p n ≡ true
    go None at e = absurd (none-some n e)
    go (Some i) at e =
        let f : Found (bytes_eq name) p.arrays i = found_at (bytes_eq name) p.arrays i at in
        let lt : i < length p.arrays = slice_get_within p.arrays i f.item f.there in
        let same : suc (length p.classes + i) ≡ n = same_Some (suc (length p.classes + i)) n e in
        counts p n (λ z. omega (arith, same, z)) (omega (arith, same, lt))

-- the number of a name is that of a class
pub named_counts : (p : ProgramNames) (name : List ℕ) (n : ℕ) → number_named p name ≡ Some n → is_class_number p n ≡ true
named_counts p name n e = go (is_array_name name) e
  where
    class : (b : Bool) → (class_number p.classes name == 0) ≡ b → cond b None (Some (class_number p.classes name)) ≡ Some n → is_class_number p n ≡ true
    class true is e = absurd (none-some n e)
    class false is e =
        let same : class_number p.classes name ≡ n = same_Some (class_number p.classes name) n e in
        let within : class_number p.classes name ≤ length p.classes = class_number_within p.classes name in
        counts p n (λ z. eqb-false (class_number p.classes name) 0 is (same ∙ z)) (omega (arith, same, within))

    go : (b : Bool) → cond b (array_number p name) (cond (class_number p.classes name == 0) None (Some (class_number p.classes name))) ≡ Some n → is_class_number p n ≡ true
    go true e = array_counts p name n e
    go false e = class (class_number p.classes name == 0) refl e
