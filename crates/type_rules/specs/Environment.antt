-- A method with code, as the rules of the type checker see it (JVMS 4.10.1.1): all by numbers.
use Rattle.std.specs.Prelude.{ℕ, Bool, Option, List, [], ◌∷◌, ◌++◌, take, replicate, reverse}
use Rattle.link_types.specs.declared.types.ObjectType.{ObjectType}
use Rattle.link_types.specs.declared.types.ValueType.{ValueType}
use Rattle.link_types.specs.declared.types.ValueType.TheVariants as values
use Rattle.link_types.specs.declared.operands.Operand.{Operand}
use Rattle.link_types.specs.declared.operands.MethodId.{MethodId}
use Rattle.instructions.specs.declared.what.Instr.{Instr}
use Rattle.instructions.specs.declared.what.Target.{Target}
use Rattle.type_rules.specs.declared.types.VerificationType.{VerificationType}
use Rattle.type_rules.specs.declared.types.VerificationType.TheVariants.{Top, Int, Long, Double, Second, Object}
use Rattle.type_rules.specs.Assignable.{Hierarchy}

-- the words of a value on the stack, the top one first
abbrev pub on_stack : VerificationType → List VerificationType
on_stack Long = Second ∷ Long ∷ []
on_stack Double = Second ∷ Double ∷ []
on_stack type = type ∷ []

-- the words of a value in locals, and on the stack from its bottom
abbrev pub in_locals : VerificationType → List VerificationType
in_locals type = reverse (on_stack type)

-- boolean, byte, char and short are ints (JVMS 4.10.1.2)
abbrev pub type_of_value : ValueType → VerificationType
type_of_value values.Long = Long
type_of_value (values.Object t) = Object t
type_of_value _ = Int

-- A frame: the locals, the stack from its top, and whether the object of a constructor isn't initialized yet (JVMS
-- 4.10.1.4: flagThisUninit).
pub record TypeFrame : Type 0 where
  pub locals : List VerificationType
  pub stack : List VerificationType
  pub flag_this_uninit : Bool

-- an exception handler by numbers of instructions: it covers those from the first one on, before the end, and begins at
-- its entry with what it catches
pub record TypedHandler : Type 0 where
  pub first : ℕ
  pub end : ℕ
  pub entry : ℕ
  pub caught : ObjectType

pub record Environment : Type 0 where
  pub hierarchy : Hierarchy
  -- the class that declares the method, and its superclass
  pub class : ℕ
  pub super : ℕ
  -- an <init> that isn't static
  pub constructs : Bool
  -- the words of the receiver and the parameters, as they lie in the locals
  pub entry : List VerificationType
  pub return_type : Option ValueType
  pub max_locals : ℕ
  pub max_stack : ℕ
  pub steps : List (Instr Target)
  -- the stack map frame at an instruction, by its number, with no more locals than the file gives it
  pub map_at : ℕ → Option TypeFrame
  pub handlers : List TypedHandler
  -- by index of the constant pool
  pub operand : ℕ → Operand
  -- what the `new` at an offset makes
  pub made_at : ℕ → ObjectType
  pub parameters : MethodId → List ValueType
  pub result : MethodId → Option ValueType

-- `count` locals, which are Top past the given types
abbrev pub padded : ℕ → List VerificationType → List VerificationType
padded count types = take count (types ++ replicate count Top)

-- the frame with which the method begins (JVMS 4.10.1.6)
abbrev pub entry_frame : Environment → TypeFrame
entry_frame env = record { locals = padded env.max_locals env.entry; stack = []; flag_this_uninit = env.constructs }

abbrev pub frame_of_map : Environment → TypeFrame → TypeFrame
frame_of_map env g = record g { locals = padded env.max_locals g.locals }
