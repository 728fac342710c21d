-- What entries of a decoded pool name.
use Rattle.std.proofs.Common.{◌≡◌, ◌==◌, inl, inr, ℕ, Bool, true, false, cond, List, slice_get, Option, None, Some, refl, sym, ◌∙◌, ap, arith}
use Rattle.class_names.specs.Descriptor.{base_text}
use Rattle.class_walk.specs.declared.class.Constant.{Constant}
use Rattle.class_walk.specs.declared.class.Constant.TheVariants.{Class as class_entry}
use Rattle.class_pool.specs.PoolRules.{IsArrayName}
use Rattle.class_pool.specs.Lookup.{class_name_of}
use Rattle.class_pool.proofs.LookupLaws.{class_again}
use Rattle.code_decode.specs.declared.code.ClassUnit.{ClassUnit}
use Rattle.code_laws.specs.File.{IsClassOrArray}
use Rattle.code_laws.proofs.FileLaws.{entries}
use Rattle.link_types.specs.declared.types.ElementType.{ElementType}
use Rattle.link_types.specs.declared.types.ObjectType.{ObjectType}
use Rattle.link_types.specs.declared.types.ObjectType.TheVariants as objects
use Rattle.link_rules.specs.Units.{AreUnits}
use Rattle.link_rules.specs.Classes.{class_number, is_array_name}
use Rattle.link_rules.specs.Names.{ProgramNames, element_type_of, number_named, array_number, class_type, type_named, kind_object, other_number}
use Rattle.array_kinds.proofs.Names.{brackets, class_no_array, class_kind, names_kind, array_begins}

-- the name of a Class entry
pub record NamesClass (pool : List Constant) (i : ℕ) : Type 0 where
  pub name : List ℕ
  pub is : class_name_of pool (slice_get pool i) ≡ Some name
  pub right : IsClassOrArray name

pub names_class : (us : List ClassUnit) (k i n : ℕ) (u : ClassUnit) → AreUnits us → slice_get us k ≡ Some u → slice_get u.file.pool i ≡ Some (class_entry n) → NamesClass u.file.pool i
names_class us k i n u units there at =
    let e = entries u.file (units k u there).file i (class_entry n) at in
    record { name = e.0; is = class_again u.file.pool i e.0 e.1; right = e.2 }

-- the class that a class name stands for
class_typed : (p : ProgramNames) (name : List ℕ) → is_array_name name ≡ false → type_named p name ≡ class_type p name
class_typed p name other = ap (kind_object p name) (class_kind name other)

-- the number of the class of a type
abbrev pub number_of_class : ObjectType → Option ℕ → Option ℕ
number_of_class (objects.Class c) array = Some c
number_of_class (objects.Other n) array = None
number_of_class (objects.Array d base) array = array

class_case : (n other : ℕ) (array : Option ℕ) → cond (n == 0) None (Some n) ≡ number_of_class (cond (n == 0) (objects.Other other) (objects.Class n)) array
class_case n other array = elim (n == 0) as (λ b. cond b None (Some n) ≡ number_of_class (cond b (objects.Other other) (objects.Class n)) array) [ true ↦ refl | false ↦ refl ]

array_named : (name : List ℕ) → IsArrayName name → is_array_name name ≡ true
array_named name array =
    ap is_array_name (array.2.spelled ∙ brackets array.0 (base_text array.1)) ∙ array_begins array.0 (base_text array.1) (omega (arith, array.2.good.0))

pub number_is : (p : ProgramNames) (name : List ℕ) → IsClassOrArray name → number_named p name ≡ number_of_class (type_named p name) (array_number p name)
number_is p name (inl class) =
    let other : is_array_name name ≡ false = class_no_array name class in
    ap (λ b. cond b (array_number p name) (cond (class_number p.classes name == 0) None (Some (class_number p.classes name)))) other
    ∙ class_case (class_number p.classes name) (other_number p name) (array_number p name)
    ∙ ap (λ t. number_of_class t (array_number p name)) (sym (class_typed p name other))
number_is p name (inr array) =
    let typed : type_named p name ≡ objects.Array array.0 (element_type_of p array.1) = ap (kind_object p name) (names_kind name array.0 array.1 array.2) in
    ap (λ b. cond b (array_number p name) (cond (class_number p.classes name == 0) None (Some (class_number p.classes name)))) (array_named name array)
    ∙ ap (λ t. number_of_class t (array_number p name)) (sym typed)
