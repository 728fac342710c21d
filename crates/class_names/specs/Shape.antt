-- What a kind is, when its class name is elsewhere.
use Rattle.class_names.specs.declared.kind.BaseKind.{BaseKind}
use Rattle.class_names.specs.declared.kind.BaseKind.TheVariants as kinds
use Rattle.class_names.specs.declared.kind.Kind.{Kind}
use Rattle.class_names.specs.declared.shape.BaseShape.{BaseShape}
use Rattle.class_names.specs.declared.shape.BaseShape.TheVariants.{Int, Byte, Char, Short, Boolean, Long, Float, Double, Class}
use Rattle.class_names.specs.declared.shape.KindShape.{KindShape}
use Rattle.class_names.specs.Descriptor.{kind_of_dimensions}

abbrev pub base_of : BaseShape → BaseKind
base_of Int = kinds.Int
base_of Byte = kinds.Byte
base_of Char = kinds.Char
base_of Short = kinds.Short
base_of Boolean = kinds.Boolean
base_of Long = kinds.Long
base_of Float = kinds.Float
base_of Double = kinds.Double
base_of (Class name) = kinds.Class name.now

abbrev pub kind_of : KindShape → Kind
kind_of shape = kind_of_dimensions shape.dimensions (base_of shape.base)
