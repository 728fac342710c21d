-- What holds of a class file that was read (JVMS SE 8, 4.1 to 4.7).
use Rattle.std.specs.Prelude.{◌≡◌, ℕ, ◌<◌, ◌^◌, ◌⊎◌, Bool, List, Some, None, is_some, slice_get, length, codes, IsTrue}
use Rattle.access_flags.specs.declared.TheConstants.{STATIC}
use Rattle.access_flags.specs.Flags.{has}
use Rattle.class_walk.specs.declared.class.Constant.{Constant}
use Rattle.class_walk.specs.declared.class.Constant.TheVariants.{Utf8, Class, Str, Field, Method, IfaceMethod, Pair}
use Rattle.class_names.specs.Names.{IsClassName, IsMemberName, IsMethodName}
use Rattle.class_names.specs.ModifiedUtf8.{IsModifiedUtf8}
use Rattle.class_pool.specs.Pool.{Reference, IsUtf8At, IsClassAt, IsPairAt}
use Rattle.class_pool.specs.PoolRules.{IsArrayName, IsFieldType, IsMethodType}
use Rattle.class_pool.specs.Lookup.{reference_in}
use Rattle.class_read.specs.declared.class_file.ClassFile.{ClassFile}
use Rattle.class_read.specs.declared.class_file.Member.{Member}
use Rattle.class_read.specs.AttributeRules.{IsConstantAt}
use Rattle.class_read.specs.ClassRules.{IsNamedClass, are_class_flags}
use Rattle.class_read.specs.MemberRules.{IsTextAt, IsTypeOfMethod, are_field_flags, are_method_flags, wants_code}
use Rattle.class_read.specs.Repeats.{IsSameText}
use Rattle.class_read.specs.Sound.{Each}

-- ---- entries of the constant pool (JVMS 4.4)

-- a class, or an array class by its descriptor
abbrev pub IsClassOrArray : List ℕ → Type 0
IsClassOrArray name = IsClassName name ⊎ IsArrayName name

abbrev pub NamesClass : List Constant → ℕ → Type 0
NamesClass pool index = (name : List ℕ) × IsClassAt pool index name × IsClassOrArray name

abbrev pub HoldsText : List Constant → ℕ → Type 0
HoldsText pool index = (text : List ℕ) × IsUtf8At pool index text × IsModifiedUtf8 text

-- the name and the type of a field or a method
abbrev pub NamesMember : List Constant → ℕ → Type 0
NamesMember pool index =
    (name descriptor : List ℕ) × IsPairAt pool index name descriptor × IsMemberName name × (IsFieldType descriptor ⊎ IsMethodType descriptor)

-- a class or an array class, and a member of it
pub record IsRightReference (r : Reference) : Type 0 where
  pub class : IsClassOrArray r.class
  pub name : IsMemberName r.name
  pub descriptor : IsFieldType r.descriptor ⊎ IsMethodType r.descriptor

abbrev pub NamesReference : List Constant → ℕ → Type 0
NamesReference pool index = (r : Reference) × (reference_in pool (slice_get pool index) ≡ Some r) × IsRightReference r

-- what an entry names is there, and is what it is named as
abbrev pub IsRightEntry : List Constant → ℕ → Constant → Type 0
IsRightEntry pool index (Utf8 text) = IsModifiedUtf8 text
IsRightEntry pool index (Class name) = NamesClass pool index
IsRightEntry pool index (Str text) = HoldsText pool text
IsRightEntry pool index (Pair name descriptor) = NamesMember pool index
IsRightEntry pool index (Field class pair) = NamesReference pool index
IsRightEntry pool index (Method class pair) = NamesReference pool index
IsRightEntry pool index (IfaceMethod class pair) = NamesReference pool index
IsRightEntry pool index _ = Unit {0}

-- ---- members

-- there is a constant there that a static field of this type may begin with (JVMS 4.7.2)
abbrev pub BeginsWithConstant : List Constant → Member → ℕ → Type 0
BeginsWithConstant pool m index = IsTrue (has m.flags STATIC) × IsConstantAt pool m.descriptor index

-- JVMS 4.5
pub record IsRightField (pool : List Constant) (interface : Bool) (m : Member) : Type 0 where
  pub name : IsTextAt IsMemberName pool m.name
  pub descriptor : IsTextAt IsFieldType pool m.descriptor
  pub flags : IsTrue (are_field_flags interface m.flags)
  pub constant : (index : ℕ) → m.constant ≡ Some index → BeginsWithConstant pool m index
  pub code : m.code ≡ None

-- JVMS 4.6
pub record IsRightMethod (pool : List Constant) (m : Member) : Type 0 where
  pub name : IsTextAt IsMethodName pool m.name
  pub descriptor : IsTextAt (IsTypeOfMethod m.flags) pool m.descriptor
  pub flags : IsTrue (are_method_flags m.flags)
  pub constant : m.constant ≡ None
  pub code : is_some m.code ≡ wants_code m.flags

-- members of one name and one descriptor are one member
abbrev pub AreDistinct : List Constant → List Member → Type 0
AreDistinct pool members =
    (i j : ℕ) (x y : Member) → slice_get members i ≡ Some x → slice_get members j ≡ Some y
    → IsSameText pool x.name y.name → IsSameText pool x.descriptor y.descriptor → i ≡ j

-- ---- the class

-- a superclass, or none at java/lang/Object (JVMS 4.1)
abbrev pub HasSuperclass : ClassFile → Type 0
HasSuperclass file =
    IsNamedClass file.pool file.super_class ⊎ ((file.super_class ≡ 0) × IsClassAt file.pool file.this_class (codes "java/lang/Object"))

-- the class, its superclass and its interfaces are named by Class entries of class names (JVMS 4.1)
pub record HasRightHeader (file : ClassFile) : Type 0 where
  pub this_class : IsNamedClass file.pool file.this_class
  pub super_class : HasSuperclass file
  pub interfaces : Each (λ i index. IsNamedClass file.pool index) file.interfaces
  pub flags : IsTrue (are_class_flags file.flags)

-- each count has two bytes, and index 0 is no entry
pub record IsSmall (file : ClassFile) : Type 0 where
  pub some : 0 < length file.pool
  pub pool : length file.pool < 2 ^ 16
  pub interfaces : length file.interfaces < 2 ^ 16
  pub fields : length file.fields < 2 ^ 16
  pub methods : length file.methods < 2 ^ 16
