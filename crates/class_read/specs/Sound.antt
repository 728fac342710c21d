-- What a class is that JVMS chapter 4 allows, part by part, whatever is looked at first.
use Rattle.std.specs.Prelude.{◌≡◌, ℕ, Bool, false, List, Some, slice_get, is_some, codes, IsTrue}
use Rattle.access_flags.specs.declared.TheConstants.{INTERFACE}
use Rattle.access_flags.specs.Flags.{has}
use Rattle.class_walk.specs.declared.class.Constant.{Constant}
use Rattle.class_walk.specs.declared.class.Constant.TheVariants.{Utf8}
use Rattle.class_walk.specs.declared.class.RawAttribute.{RawAttribute}
use Rattle.class_walk.specs.declared.class.RawMember.{RawMember}
use Rattle.class_walk.specs.declared.class.RawClass.{RawClass}
use Rattle.class_walk.specs.declared.class.RawCode.{RawCode}
use Rattle.class_walk.specs.Reading.{code_of}
use Rattle.class_names.specs.Names.{IsMemberName, IsMethodName}
use Rattle.class_names.specs.ModifiedUtf8.{IsModifiedUtf8}
use Rattle.class_pool.specs.PoolRules.{IsText, IsUsedRightly, RefersRightly, IsFieldType}
use Rattle.class_read.specs.AttributeRules.{is_named, named, is_earlier, IsConstantValue}
use Rattle.class_read.specs.MemberRules.{IsTextAt, IsTypeOfMethod, are_field_flags, are_method_flags, wants_code}
use Rattle.class_read.specs.Repeats.{IsRepeated}
use Rattle.class_read.specs.ClassRules.{IsNamedClass, IsSuperclass, are_class_flags}

-- each item of a list
abbrev pub Each : {X : Type 0} → (ℕ → X → Type 0) → List X → Type 0
Each {X} Is xs = (i : ℕ) (x : X) → slice_get xs i ≡ Some x → Is i x

-- a text is modified UTF-8 and fits its uses; another entry refers to entries of the right kinds (JVMS 4.4)
abbrev pub IsSoundEntry : List Constant → ℕ → Constant → Type 0
IsSoundEntry pool i (Utf8 text) = IsModifiedUtf8 text × IsUsedRightly pool i text
IsSoundEntry pool i c = RefersRightly pool c

-- an attribute has a name (JVMS 4.7)
abbrev pub HasName : List Constant → RawAttribute → Type 0
HasName pool a = IsText pool a.name

-- where an attribute has this name, no earlier one has it, and its content is such a one
abbrev pub IsOnlyOne : List Constant → List ℕ → (RawAttribute → Type 0) → List RawAttribute → ℕ → RawAttribute → Type 0
IsOnlyOne pool name IsRight attributes i a =
    IsTrue (is_named pool name a) → (is_earlier pool name attributes i ≡ false) × IsRight a

-- JVMS 4.5
pub record IsSoundField (pool : List Constant) (interface : Bool) (m : RawMember) : Type 0 where
  pub name : IsTextAt IsMemberName pool m.name
  pub descriptor : IsTextAt IsFieldType pool m.descriptor
  pub flags : IsTrue (are_field_flags interface m.flags)
  pub names : Each (λ i a. HasName pool a) m.attributes
  pub constants : Each (IsOnlyOne pool (codes "ConstantValue") (λ a. IsConstantValue pool m a.content) m.attributes) m.attributes

-- the content of a Code (JVMS 4.7.3)
pub record IsSoundCode (pool : List Constant) (content : List ℕ) : Type 0 where
  pub code : RawCode
  pub spelled : code_of content ≡ Some code
  pub names : Each (λ i a. HasName pool a) code.attributes
  pub maps : Each (IsOnlyOne pool (codes "StackMapTable") (λ a. Unit {0}) code.attributes) code.attributes

-- JVMS 4.6
pub record IsSoundMethod (pool : List Constant) (m : RawMember) : Type 0 where
  pub name : IsTextAt IsMethodName pool m.name
  pub descriptor : IsTextAt (IsTypeOfMethod m.flags) pool m.descriptor
  pub flags : IsTrue (are_method_flags m.flags)
  pub names : Each (λ i a. HasName pool a) m.attributes
  pub codes_of : Each (IsOnlyOne pool (codes "Code") (λ a. IsSoundCode pool a.content) m.attributes) m.attributes
  pub has_code : is_some (named pool (codes "Code") m.attributes) ≡ wants_code m.flags

-- no two members of a kind have one name and descriptor
abbrev pub IsDistinct : List Constant → List RawMember → Type 0
IsDistinct pool members = Each (λ i m. ¬ IsRepeated pool members i m) members

-- JVMS 4.1
pub record IsSound (c : RawClass) : Type 0 where
  pub pool : Each (IsSoundEntry c.pool) c.pool
  pub this_class : IsNamedClass c.pool c.this_class
  pub super_class : IsSuperclass c.pool c
  pub interfaces : Each (λ i index. IsNamedClass c.pool index) c.interfaces
  pub flags : IsTrue (are_class_flags c.flags)
  pub fields : Each (λ i m. IsSoundField c.pool (has c.flags INTERFACE) m) c.fields
  pub methods : Each (λ i m. IsSoundMethod c.pool m) c.methods
  pub distinct_fields : IsDistinct c.pool c.fields
  pub distinct_methods : IsDistinct c.pool c.methods
  pub attributes : Each (λ i a. HasName c.pool a) c.attributes
