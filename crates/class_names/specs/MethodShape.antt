-- What a method descriptor is, when its class names are elsewhere.
use Rattle.std.specs.Prelude.{◌≡◌, ℕ, List, Option, option_map}
use Rattle.class_names.specs.declared.kind.Kind.{Kind}
use Rattle.class_names.specs.declared.descriptor.MethodShape.{MethodShape}
use Rattle.class_names.specs.Descriptor.{IsMethodDescriptor, size_of}
use Rattle.class_names.specs.Shape.{kind_of}

-- the kinds of the parameters and of the result
abbrev pub kinds_of : MethodShape → List Kind × Option Kind
kinds_of shape = (shape.parameters, option_map kind_of shape.returned)

-- The shape is of the bytes, which are a method descriptor.
pub record IsMethodShape (bytes : List ℕ) (shape : MethodShape) : Type 0 where
  pub descriptor : IsMethodDescriptor bytes shape.parameters (option_map kind_of shape.returned)
  pub size : shape.size ≡ size_of shape.parameters
