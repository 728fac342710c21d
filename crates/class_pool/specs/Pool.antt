-- What is at an index of the constant pool (JVMS SE 8, 4.4).
use Rattle.std.specs.Prelude.{◌≡◌, ℕ, List, Some, slice_get}
use Rattle.class_walk.specs.declared.class.Constant.{Constant}
use Rattle.class_walk.specs.declared.class.Constant.TheVariants.{Utf8, Class, Field, Method, Pair}

-- a Utf8 entry of these bytes
abbrev pub IsUtf8At : List Constant → ℕ → List ℕ → Type 0
IsUtf8At pool index text = slice_get pool index ≡ Some (Utf8 text)

-- a Class entry of this name
abbrev pub IsClassAt : List Constant → ℕ → List ℕ → Type 0
IsClassAt pool index name = (n : ℕ) × (slice_get pool index ≡ Some (Class n)) × IsUtf8At pool n name

-- a NameAndType entry of this name and descriptor
abbrev pub IsPairAt : List Constant → ℕ → List ℕ → List ℕ → Type 0
IsPairAt pool index name descriptor =
    (n d : ℕ) × (slice_get pool index ≡ Some (Pair n d)) × IsUtf8At pool n name × IsUtf8At pool d descriptor

-- the class, the name and the descriptor of a member
pub record Reference : Type 0 where
  pub class : List ℕ
  pub name : List ℕ
  pub descriptor : List ℕ

abbrev pub reference_of : List ℕ → List ℕ → List ℕ → Reference
reference_of class name descriptor = record { class = class; name = name; descriptor = descriptor }

abbrev pub IsFieldAt : List Constant → ℕ → Reference → Type 0
IsFieldAt pool index r =
    (c p : ℕ) × (slice_get pool index ≡ Some (Field c p)) × IsClassAt pool c r.class × IsPairAt pool p r.name r.descriptor

abbrev pub IsMethodAt : List Constant → ℕ → Reference → Type 0
IsMethodAt pool index r =
    (c p : ℕ) × (slice_get pool index ≡ Some (Method c p)) × IsClassAt pool c r.class × IsPairAt pool p r.name r.descriptor
