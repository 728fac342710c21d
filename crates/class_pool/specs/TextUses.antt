-- What the texts of the constant pool may be used as.
use Rattle.std.specs.Prelude.{◌≡◌, ◌↔◌, ℕ, List, Option, Some, length, slice_get, IsTrue}
use Rattle.class_walk.specs.declared.class.Constant.{Constant}
use Rattle.class_walk.specs.declared.class.Constant.TheVariants.{Utf8}
use Rattle.class_names.specs.Names.{IsClassName, IsMemberName, IsMethodName}
use Rattle.class_names.specs.Descriptor.{IsMethodDescriptor, size_of}
use Rattle.class_names.specs.declared.kind.Kind.{Kind}
use Rattle.class_names.specs.declared.kind.ParameterSize.{ParameterSize}
use Rattle.class_pool.specs.declared.text_uses.TextUse.{TextUse}
use Rattle.class_pool.specs.Pool.{IsUtf8At}
use Rattle.class_pool.specs.PoolRules.{IsFieldType}

-- the descriptor of a method whose parameters have this size
abbrev pub HasParameters : List ℕ → ParameterSize → Type 0
HasParameters text size =
    (parameters : List Kind) × (returned : Option Kind) × IsMethodDescriptor text parameters returned × (size ≡ size_of parameters)

pub record IsUseOf (text : List ℕ) (u : TextUse) : Type 0 where
  pub class_name : IsTrue u.is_class_name ↔ IsClassName text
  pub member_name : IsTrue u.is_member_name ↔ IsMemberName text
  pub method_name : IsTrue u.is_method_name ↔ IsMethodName text
  pub field_type : IsTrue u.is_field_type ↔ IsFieldType text
  pub parameters : (size : ParameterSize) → u.parameters ≡ Some size → HasParameters text size
  pub only : (size : ParameterSize) → HasParameters text size → u.parameters ≡ Some size

-- of the text at this index
abbrev pub IsUseAt : List Constant → ℕ → TextUse → Type 0
IsUseAt pool index u = (text : List ℕ) × IsUtf8At pool index text × IsUseOf text u

-- entry by entry, where the entry is a text
pub record AreUsesOf (pool : List Constant) (uses : List TextUse) : Type 0 where
  pub count : length uses ≡ length pool
  pub each : (k : ℕ) (text : List ℕ) (u : TextUse) → slice_get pool k ≡ Some (Utf8 text) → slice_get uses k ≡ Some u → IsUseOf text u
