-- The numbers of classes that a pool names.
use Rattle.std.proofs.Common.{◌≡◌, ◌≢◌, ◌<◌, ◌≤◌, ◌+◌, ◌-◌, ◌==◌, ℕ, suc, Bool, true, false, not, cond, nat_eq, nat_le, nat_lt, Option, None, Some, List, [], ◌∷◌, length, slice_get, bytes_eq, refl, sym, ap, subst, ◌∙◌, arith, if◌then◌else◌}
use Rattle.std.specs.Prelude.{unwrap_or, option_map, option_and_then, IsSomeAnd}
use Rattle.std.specs.List.{position_from, prefix_len}
use Rattle.std.specs.Option.{option_map_or}
use Rattle.std.proofs.lemmas.Bool.{le-leb, lt-leb, eqb-false}
use Rattle.std.proofs.lemmas.Option.{same_Some, none-some, slice_get_within}
use Rattle.std.proofs.lemmas.Slice.Eq.{bytes_eq-Decides}
use Rattle.array_kinds.specs.declared.kind.ArrayKind.{ArrayKind}
use Rattle.array_kinds.specs.Kinds.{array_kind, array_of_type, SpellKind, primitive_kind}
use Rattle.array_kinds.proofs.Names.{class_kind, made_spells, spells_type, primitive_spells}
use Rattle.class_names.specs.Reading.{is_bracket}
use Rattle.class_walk.specs.declared.class.Constant.{Constant}
use Rattle.class_walk.specs.declared.class.Constant.TheVariants as constants
use Rattle.class_pool.specs.Pool.{Reference}
use Rattle.code_decode.specs.declared.code.ClassUnit.{ClassUnit}
use Rattle.code_laws.specs.File.{IsClassOrArray}
use Rattle.code_steps.specs.Operands.{has_dimensions}
use Rattle.instructions.specs.declared.operation.PrimitiveType.{PrimitiveType}
use Rattle.instructions.specs.declared.operation.PrimitiveType.TheVariants as primitives
use Rattle.link_types.specs.declared.operands.ClassOperand.{ClassOperand}
use Rattle.link_types.specs.declared.operands.Operand.{Operand}
use Rattle.link_types.specs.declared.operands.Operand.TheVariants as operands
use Rattle.link_types.specs.declared.types.ObjectType.{ObjectType}
use Rattle.link_types.specs.declared.types.ObjectType.TheVariants.{Class, Other, Array}
use Rattle.link_rules.specs.Arrays.{array_of, primitive_array}
use Rattle.link_rules.specs.Classes.{classes_of, class_number, class_name_at, reference_at, is_array_name, unit_numbered}
use Rattle.link_rules.specs.Laws.{HasNumber}
use Rattle.link_rules.specs.Members.{Declared, found_field, found_method}
use Rattle.link_rules.specs.Names.{ProgramNames, program_names, array_number, array_numbered, class_count, number_named, other_number, kind_object, type_named, type_numbered, is_class_number, value_type}
use Rattle.link_rules.specs.Operands.{operand, operand_of, class_operand, field_named, method_found}
use Rattle.link_rules.proofs.Lists.{Found, found_at}
use Rattle.link_rules.proofs.Numbers.{class_number_within}
use Rattle.link_types.specs.declared.types.ValueType.{ValueType}
use Rattle.type_rules.specs.FrameAfter.{array_type_of, primitive_element}
use Rattle.type_rules.specs.MapFrames.{object_type}
use Rattle.java_rows.specs.Program.{class_at, class_operand_of}
use Rattle.program_soundness.proofs.Methods.{from_map, both_true}

-- a name that begins with no bracket is that of no array class
pub no_array : (name : List ℕ) → has_dimensions 1 name ≡ false → is_array_name name ≡ false
no_array [] plain = refl
no_array (b ∷ name) plain = ap (λ t. not (nat_eq (cond t (1 + prefix_len is_bracket name) 0) 0)) (first b plain)
  where
    first : (b : ℕ) → has_dimensions 1 (b ∷ name) ≡ false → is_bracket b ≡ false
    first b e = grind arith

module _ (p : ProgramNames) where
  -- ---- the number of an array class

  pub record IsArrayNumber (name : List ℕ) (n : ℕ) : Type 0 where
    pub above : length p.classes < n
    pub class : is_class_number p n ≡ true
    pub type : type_numbered p n ≡ type_named p name

  pub array_number_is : (name : List ℕ) (n : ℕ) → array_number p name ≡ Some n → IsArrayNumber name n
  array_number_is name n e =
      let (i, found, same) = from_map (λ i. suc (length p.classes + i)) (position_from (bytes_eq name) 0 p.arrays) n e in
      let f : Found (bytes_eq name) p.arrays i = found_at (bytes_eq name) p.arrays i found in
      let there : slice_get p.arrays i ≡ Some name = f.there ∙ ap (λ x. Some x) (sym ((bytes_eq-Decides name f.item).0 f.passes)) in
      let within : i < length p.arrays = slice_get_within p.arrays i name there in
      let place : n - suc (length p.classes) ≡ i = omega (arith, same) in
      let numbered : array_numbered p n ≡ Some name =
      ap (λ b. cond b None (slice_get p.arrays (n - suc (length p.classes)))) (lt-leb n (length p.classes) (omega (arith, same))) ∙ ap (slice_get p.arrays) place ∙ there in
      record {
        above = omega (arith, same);
        class = both_true (nat_le 1 n) (nat_le n (class_count p)) (le-leb 1 n (omega (arith, same))) (le-leb n (class_count p) (omega (arith, same, within)));
        type = ap (λ o. unwrap_or (option_map (type_named p) o) (Class n)) numbered;
      }

  -- ---- the number of a class

  pub class_is_numbered : (c : ℕ) → c ≢ 0 → c ≤ length p.classes → is_class_number p c ≡ true
  class_is_numbered c some within = both_true (nat_le 1 c) (nat_le c (class_count p)) (le-leb 1 c (omega (arith, some))) (le-leb c (class_count p) (omega (arith, within)))

  pub type_of_class : (c : ℕ) → c ≤ length p.classes → type_numbered p c ≡ Class c
  type_of_class c within = ap (λ b. unwrap_or (option_map (type_named p) (cond b None (slice_get p.arrays (c - suc (length p.classes))))) (Class c)) (le-leb c (length p.classes) within)

  type_named_class : (name : List ℕ) → is_array_name name ≡ false → nat_eq (class_number p.classes name) 0 ≡ false → type_named p name ≡ Class (class_number p.classes name)
  type_named_class name plain some =
      ap (kind_object p name) (class_kind name plain) ∙ ap (λ b. cond b (Other (other_number p name)) (Class (class_number p.classes name))) some

  pub record IsNumbered (name : List ℕ) (d : ℕ) : Type 0 where
    pub class : is_class_number p d ≡ true
    pub type : type_named p name ≡ type_numbered p d

  pub named_is : (name : List ℕ) (d : ℕ) → number_named p name ≡ Some d → IsNumbered name d
  named_is name d e = by_array (is_array_name name) refl e
    where
      by_class : (b : Bool) → is_array_name name ≡ false → nat_eq (class_number p.classes name) 0 ≡ b → cond b None (Some (class_number p.classes name)) ≡ Some d → IsNumbered name d
      by_class true plain zero is = absurd (none-some d is)
      by_class false plain some is =
          let same : class_number p.classes name ≡ d = same_Some (class_number p.classes name) d is in
          let within : class_number p.classes name ≤ length p.classes = class_number_within p.classes name in
          subst (λ x. IsNumbered name x) same (record {
            class = class_is_numbered (class_number p.classes name) (eqb-false (class_number p.classes name) 0 some) within;
            type = type_named_class name plain some ∙ sym (type_of_class (class_number p.classes name) within);
          })

      by_array : (b : Bool) → is_array_name name ≡ b → cond b (array_number p name) (cond (nat_eq (class_number p.classes name) 0) None (Some (class_number p.classes name))) ≡ Some d → IsNumbered name d
      by_array true array is = let n = array_number_is name d is in record { class = n.class; type = sym n.type }
      by_array false plain is = by_class (nat_eq (class_number p.classes name) 0) plain refl is

module _ (us : List ClassUnit) where
  p : ProgramNames
  p = program_names us

  -- ---- a Class operand is that of a name

  field_no_class : (r : Reference) (found : Option Declared) (o : ClassOperand) → field_named (program_names us) r found ≡ operands.Class o → ⊥
  field_no_class r None o e = cc
  field_no_class r (Some d) o e = by_system (d.class == Rattle.builtin_world.specs.declared.number.TheConstants.SYSTEM) (option_and_then (value_type (program_names us)) (Rattle.class_names.specs.Kinds.field_kind d.member.descriptor)) e
    where
      by_system : (b : Bool) (kind : Option ValueType) → (if b then operands.Out else option_map_or (λ kind. operands.Field (Rattle.link_rules.specs.Operands.field_operand (program_names us) r d kind)) kind operands.Nothing) ≡ operands.Class o → ⊥
      by_system true kind is = cc
      by_system false None is = cc
      by_system false (Some kind) is = cc

  method_no_class : (this : ℕ) (r : Reference) (found : Option Declared) (o : ClassOperand) → method_found (program_names us) this r found ≡ operands.Class o → ⊥
  method_no_class this r None o e = cc
  method_no_class this r (Some d) o e = cc

  same_operand : (a b : ClassOperand) → ◌≡◌ {A = Operand} (operands.Class a) (operands.Class b) → a ≡ b
  same_operand a b e = cc

  class_entry : (this : ℕ) (pool : List Constant) (index : ℕ) (c : Option Constant) (o : ClassOperand) → operand_of (program_names us) this pool index c ≡ operands.Class o
      → (name : List ℕ) × (o ≡ class_operand (program_names us) name)
  class_entry this pool index (Some (constants.Class n)) o e = (class_name_at pool index, sym (same_operand (class_operand (program_names us) (class_name_at pool index)) o e))
  class_entry this pool index (Some (constants.Field a b)) o e = absurd (field_no_class (reference_at pool index) (found_field (classes_of us) (reference_at pool index)) o e)
  class_entry this pool index (Some (constants.Method a b)) o e = absurd (method_no_class this (reference_at pool index) (found_method (classes_of us) (reference_at pool index)) o e)
  class_entry this pool index (Some (constants.IfaceMethod a b)) o e = absurd (method_no_class this (reference_at pool index) (found_method (classes_of us) (reference_at pool index)) o e)
  class_entry this pool index _ o e = cc

  class_named : (this index : ℕ) (o : ClassOperand) → operand us this index ≡ operands.Class o → (name : List ℕ) × (o ≡ class_operand (program_names us) name)
  class_named this index o e = by_unit (unit_numbered us this) e
    where
      by_unit : (u : Option ClassUnit) → option_map_or (λ (u : ClassUnit). operand_of (program_names us) this u.file.pool index (slice_get u.file.pool index)) u operands.Nothing ≡ operands.Class o
          → (name : List ℕ) × (o ≡ class_operand (program_names us) name)
      by_unit None is = cc
      by_unit (Some u) is = class_entry this u.file.pool index (slice_get u.file.pool index) o is

  -- the class that an index names has a number, and its type is that of its number
  numbered_at : (this index d : ℕ) → class_at us this index ≡ Some d → (is_class_number (program_names us) d ≡ true) × (object_type (operand us this index) ≡ type_numbered (program_names us) d)
  numbered_at this index d e = by_operand (operand us this index) refl e
    where
      by_operand : (o : Operand) → operand us this index ≡ o → option_and_then (λ (k : ClassOperand). k.number) (class_operand_of o) ≡ Some d → (is_class_number (program_names us) d ≡ true) × (object_type o ≡ type_numbered (program_names us) d)
      by_operand (operands.Class o) same number =
          let (name, is) = class_named this index o same in
          let numbered = named_is (program_names us) name d (ap (λ (k : ClassOperand). k.number) (sym is) ∙ number) in
          (numbered.class, ap (λ (k : ClassOperand). k.kind) is ∙ numbered.type)
      by_operand o same number = cc

  pub numbers_are : (this index d : ℕ) → class_at us this index ≡ Some d → is_class_number (program_names us) d ≡ true
  numbers_are this index d e = (numbered_at this index d e).0

  pub classes_are : (this index d : ℕ) → class_at us this index ≡ Some d → object_type (operand us this index) ≡ type_numbered (program_names us) d
  classes_are this index d e = (numbered_at this index d e).1

  -- ---- arrays

  array_type : (t : ObjectType) (a : ArrayKind) → array_of_type t ≡ Some a → array_type_of t ≡ Array a.dimensions a.base
  array_type (Class c) a e = ap (λ (x : ArrayKind). Array x.dimensions x.base) (same_Some _ a e)
  array_type (Other m) a e = ap (λ (x : ArrayKind). Array x.dimensions x.base) (same_Some _ a e)
  array_type (Array d x) a e = by_test (nat_lt d 255) e
    where
      by_test : (b : Bool) → cond b (Some (array_kind (suc d) x)) None ≡ Some a → array_type_of (Array d x) ≡ Array a.dimensions a.base
      by_test true is = let more : d + 1 ≡ suc d = omega arith in ap (λ n. Array n x) more ∙ ap (λ (k : ArrayKind). Array k.dimensions k.base) (same_Some (array_kind (suc d) x) a is)
      by_test false is = absurd (none-some a is)

  pub array_made : (name : List ℕ) (n : ℕ) → IsClassOrArray name → has_dimensions 255 name ≡ false → array_number (program_names us) (array_of name) ≡ Some n
      → (length (classes_of us) < n) × (is_class_number (program_names us) n ≡ true) × (type_numbered (program_names us) n ≡ array_type_of (type_named (program_names us) name))
  array_made name n is less number =
      let numbered = array_number_is (program_names us) (array_of name) n number in
      (numbered.above, numbered.class, numbered.type ∙ by_kind (array_of_type (type_named (program_names us) name)) refl (made_spells (program_names us) name is less))
    where
      first : (a b : List ℕ) → ◌≡◌ {A = List (List ℕ)} (a ∷ []) (b ∷ []) → a ≡ b
      first a b e = cc

      by_kind : (o : Option ArrayKind) → array_of_type (type_named (program_names us) name) ≡ o → SpellKind (program_names us) o (array_of name ∷ []) → type_named (program_names us) (array_of name) ≡ array_type_of (type_named (program_names us) name)
      by_kind (Some a) same (text, texts, spells) =
          ap (type_named (program_names us)) (first (array_of name) text texts) ∙ (spells_type (program_names us) a text spells ∙ sym (array_type (type_named (program_names us) name) a same))
      by_kind None same texts = cc

  primitive_type : (kind : PrimitiveType) → type_named (program_names us) (primitive_array kind) ≡ Array 1 (primitive_element kind)
  primitive_type primitives.Boolean = spells_type (program_names us) (primitive_kind primitives.Boolean) (primitive_array primitives.Boolean) (primitive_spells (program_names us) primitives.Boolean)
  primitive_type primitives.Char = spells_type (program_names us) (primitive_kind primitives.Char) (primitive_array primitives.Char) (primitive_spells (program_names us) primitives.Char)
  primitive_type primitives.Byte = spells_type (program_names us) (primitive_kind primitives.Byte) (primitive_array primitives.Byte) (primitive_spells (program_names us) primitives.Byte)
  primitive_type primitives.Short = spells_type (program_names us) (primitive_kind primitives.Short) (primitive_array primitives.Short) (primitive_spells (program_names us) primitives.Short)
  primitive_type primitives.Int = spells_type (program_names us) (primitive_kind primitives.Int) (primitive_array primitives.Int) (primitive_spells (program_names us) primitives.Int)
  primitive_type primitives.Long = spells_type (program_names us) (primitive_kind primitives.Long) (primitive_array primitives.Long) (primitive_spells (program_names us) primitives.Long)

  pub primitive_made : (kind : PrimitiveType) → HasNumber (program_names us) (primitive_array kind)
      → (n : ℕ) × (array_number (program_names us) (primitive_array kind) ≡ Some n) × (length (classes_of us) < n) × (is_class_number (program_names us) n ≡ true) × (type_numbered (program_names us) n ≡ Array 1 (primitive_element kind))
  primitive_made kind has = by_number (array_number (program_names us) (primitive_array kind)) refl has
    where
      by_number : (o : Option ℕ) → array_number (program_names us) (primitive_array kind) ≡ o → IsSomeAnd o (λ c. array_numbered (program_names us) c ≡ Some (primitive_array kind))
          → (n : ℕ) × (o ≡ Some n) × (length (classes_of us) < n) × (is_class_number (program_names us) n ≡ true) × (type_numbered (program_names us) n ≡ Array 1 (primitive_element kind))
      by_number (Some n) same is = let numbered = array_number_is (program_names us) (primitive_array kind) n same in (n, refl, numbered.above, numbered.class, numbered.type ∙ primitive_type kind)
      by_number None same is = absurd is
