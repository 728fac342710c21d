-- Arrays of arrays have at most 255 dimensions (JVMS 4.9.1, anewarray).
use Rattle.std.specs.Prelude.{ℕ, ◌<◌}
use Rattle.instructions.specs.declared.operation.ClassUse.{ClassUse}
use Rattle.instructions.specs.declared.operation.ClassUse.TheVariants as uses
use Rattle.instructions.specs.declared.what.What.{What}
use Rattle.instructions.specs.declared.what.What.TheVariants as whats
use Rattle.instructions.specs.declared.what.Target.{Target}
use Rattle.link_types.specs.declared.types.ObjectType.{ObjectType}
use Rattle.link_types.specs.declared.types.ObjectType.TheVariants.{Array}
use Rattle.link_types.specs.declared.operands.Operand.{Operand}
use Rattle.link_types.specs.declared.operands.Operand.TheVariants as operands
use Rattle.type_rules.specs.Environment.{Environment}

abbrev pub dimensions_of : ObjectType → ℕ
dimensions_of (Array dimensions x) = dimensions
dimensions_of _ = 0

abbrev pub HasRoomForOne : Operand → Type 0
HasRoomForOne (operands.Class c) = dimensions_of c.kind < 255
HasRoomForOne _ = Unit {0}

abbrev pub MayMake : ClassUse → Operand → Type 0
MayMake uses.NewArray operand = HasRoomForOne operand
MayMake _ operand = Unit {0}

-- where an instruction makes an array of references, it has at most 255 dimensions
abbrev pub MakesArray : Environment → What Target → Type 0
MakesArray env (whats.Class purpose index) = MayMake purpose (env.operand index)
MakesArray env _ = Unit {0}
