-- What a class names by an index of its pool (JVMS SE 8, 4.4).
use Rattle.std.specs.Prelude.{◌≡◌, ℕ, ℤ, List, Some, slice_get}
use Rattle.class_walk.specs.declared.class.Constant.{Constant}
use Rattle.class_walk.specs.declared.class.Constant.TheVariants.{Utf8, Integer, Long, Str, IfaceMethod}
use Rattle.class_pool.specs.Pool.{IsUtf8At, IsClassAt, IsPairAt, IsFieldAt, IsMethodAt, reference_of}
use Rattle.class_names.specs.ShortestForms.{encoded}
use Rattle.assembler_pool.specs.Uses.{Use, entry, class_entry, string_entry, field_entry, method_entry, interface_method_entry}

pub data Item : Type 0 where
  -- a text by its bytes
  text : List ℕ → Item
  integer : ℤ → Item
  long : ℤ → Item
  -- a class by its name
  class_named : List ℕ → Item
  -- a string literal by its code units
  string : List ℕ → Item
  -- members by class, name and descriptor
  field : List ℕ → List ℕ → List ℕ → Item
  method : List ℕ → List ℕ → List ℕ → Item
  interface_method : List ℕ → List ℕ → List ℕ → Item

-- the use of it
abbrev pub use_of : Item → Use
use_of (text bytes) = entry (Utf8 bytes)
use_of (integer value) = entry (Integer value)
use_of (long value) = entry (Long value)
use_of (class_named name) = class_entry name
use_of (string units) = string_entry units
use_of (field class name descriptor) = field_entry class name descriptor
use_of (method class name descriptor) = method_entry class name descriptor
use_of (interface_method class name descriptor) = interface_method_entry class name descriptor

-- it is at an index, and each of its parts is at the index that it names
abbrev pub IsItemAt : List Constant → ℕ → Item → Type 0
IsItemAt pool index (text bytes) = IsUtf8At pool index bytes
IsItemAt pool index (integer value) = slice_get pool index ≡ Some (Integer value)
IsItemAt pool index (long value) = slice_get pool index ≡ Some (Long value)
IsItemAt pool index (class_named name) = IsClassAt pool index name
IsItemAt pool index (string units) = (t : ℕ) × (slice_get pool index ≡ Some (Str t)) × IsUtf8At pool t (encoded units)
IsItemAt pool index (field class name descriptor) = IsFieldAt pool index (reference_of class name descriptor)
IsItemAt pool index (method class name descriptor) = IsMethodAt pool index (reference_of class name descriptor)
IsItemAt pool index (interface_method class name descriptor) =
    (c p : ℕ) × (slice_get pool index ≡ Some (IfaceMethod c p)) × IsClassAt pool c class × IsPairAt pool p name descriptor
