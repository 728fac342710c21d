-- Descriptors (JVMS 4.3).
use Rattle.std.specs.Prelude.{◌≡◌, ℕ, zero, suc, ◌≤◌, List, [], ◌∷◌, ◌++◌, length, replicate, flat_map, sum_by, Option, Some, None, IfSome}
use Rattle.std.specs.List.{AllByRecursion}
use Rattle.class_names.specs.Names.{IsClassName}
use Rattle.class_names.specs.declared.kind.BaseKind.{BaseKind}
use Rattle.class_names.specs.declared.kind.BaseKind.TheVariants.{Int, Byte, Char, Short, Boolean, Long, Float, Double, Class}
use Rattle.class_names.specs.declared.kind.Kind.{Kind}
use Rattle.class_names.specs.declared.kind.Kind.TheVariants.{Base, Array}
use Rattle.class_names.specs.declared.kind.ParameterSize.{ParameterSize}
use Rattle.class_names.specs.declared.kind.Descriptor.{Descriptor}
use Rattle.class_names.specs.declared.kind.Descriptor.TheVariants.{Field, Method}

-- The letter of a primitive type, or L, the class name and ; (JVMS 4.3.2, table 4.3-A).
abbrev pub base_text : BaseKind → List ℕ
base_text Int = 73 ∷ []
base_text Byte = 66 ∷ []
base_text Char = 67 ∷ []
base_text Short = 83 ∷ []
base_text Boolean = 90 ∷ []
base_text Long = 74 ∷ []
base_text Float = 70 ∷ []
base_text Double = 68 ∷ []
base_text (Class name) = 76 ∷ (name ++ 59 ∷ [])

-- A [ for each dimension comes before the rest.
abbrev pub kind_text : Kind → List ℕ
kind_text (Base base) = base_text base
kind_text (Array dimensions base) = replicate dimensions 91 ++ base_text base

abbrev pub IsBaseKind : BaseKind → Type 0
IsBaseKind (Class name) = IsClassName name
IsBaseKind Int = Unit {0}
IsBaseKind Byte = Unit {0}
IsBaseKind Char = Unit {0}
IsBaseKind Short = Unit {0}
IsBaseKind Boolean = Unit {0}
IsBaseKind Long = Unit {0}
IsBaseKind Float = Unit {0}
IsBaseKind Double = Unit {0}

-- An array has 1 to 255 dimensions (JVMS 4.3.2).
abbrev pub IsKind : Kind → Type 0
IsKind (Base base) = IsBaseKind base
IsKind (Array dimensions base) = (1 ≤ dimensions) × (dimensions ≤ 255) × IsBaseKind base

-- the kind that n dimensions make of a base; without dimensions it is the base
abbrev pub kind_of_dimensions : ℕ → BaseKind → Kind
kind_of_dimensions zero base = Base base
kind_of_dimensions (suc n) base = Array (suc n) base

-- A long or a double takes two words, each other value one (JVMS 4.3.3).
abbrev pub words_of : Kind → ℕ
words_of (Base Long) = 2
words_of (Base Double) = 2
words_of _ = 1

abbrev pub parameter_words_of : List Kind → ℕ
parameter_words_of parameters = sum_by words_of parameters

abbrev pub size_of : List Kind → ParameterSize
size_of parameters = record { count = length parameters; words = parameter_words_of parameters }

-- The kind of what is returned, or V where nothing is (JVMS 4.3.3).
abbrev pub return_text : Option Kind → List ℕ
return_text None = 86 ∷ []
return_text (Some kind) = kind_text kind

-- The parameters in parentheses, and what is returned (JVMS 4.3.3).
abbrev pub method_text : List Kind → Option Kind → List ℕ
method_text parameters returned = 40 ∷ (flat_map kind_text parameters ++ 41 ∷ return_text returned)

-- The parameters take at most 255 words.
pub record AreMethodKinds (parameters : List Kind) (returned : Option Kind) : Type 0 where
  pub each : AllByRecursion IsKind parameters
  pub words : parameter_words_of parameters ≤ 255
  pub result : IfSome returned IsKind

-- The bytes are the descriptor of a kind.
pub record IsFieldDescriptor (bytes : List ℕ) (kind : Kind) : Type 0 where
  pub good : IsKind kind
  pub spelled : bytes ≡ kind_text kind

-- The bytes are the descriptor of a method of these parameters and this result.
pub record IsMethodDescriptor (bytes : List ℕ) (parameters : List Kind) (returned : Option Kind) : Type 0 where
  pub good : AreMethodKinds parameters returned
  pub spelled : bytes ≡ method_text parameters returned

abbrev pub IsDescriptorOf : List ℕ → Descriptor → Type 0
IsDescriptorOf bytes (Field kind) = IsFieldDescriptor bytes kind
IsDescriptorOf bytes (Method parameters returned) = IsMethodDescriptor bytes parameters returned

-- Kinds are at the front of the bytes, one after another.
pub record KindsAt (bytes : List ℕ) (kinds : List Kind) (rest : List ℕ) : Type 0 where
  pub each : AllByRecursion IsKind kinds
  pub spelled : bytes ≡ flat_map kind_text kinds ++ rest

-- Parameters are at the front of the bytes, up to their ). They take at most 255 words.
pub record ParametersAt (bytes : List ℕ) (parameters : List Kind) (rest : List ℕ) : Type 0 where
  pub each : AllByRecursion IsKind parameters
  pub words : parameter_words_of parameters ≤ 255
  pub spelled : bytes ≡ flat_map kind_text parameters ++ 41 ∷ rest

-- The bytes say what is returned.
pub record IsReturn (bytes : List ℕ) (returned : Option Kind) : Type 0 where
  pub good : IfSome returned IsKind
  pub spelled : bytes ≡ return_text returned
