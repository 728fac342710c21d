-- Tiny methods.
use Rattle.std.specs.Prelude.{ℕ, suc, pos, ◌==◌, true, false, Option, None, Some, List, [], ◌∷◌, if◌then◌else◌}
use Rattle.instructions.specs.declared.operation.Plain.{Plain}
use Rattle.instructions.specs.declared.operation.Plain.TheVariants as plain
use Rattle.instructions.specs.declared.operation.ValueKind.TheVariants as values
use Rattle.instructions.specs.declared.operation.LocalAccess.TheVariants.{Load, Store}
use Rattle.instructions.specs.declared.operation.StackOperation.TheVariants as stack
use Rattle.instructions.specs.declared.operation.Condition.TheVariants.{Equal}
use Rattle.instructions.specs.declared.operation.Test.TheVariants as tests
use Rattle.instructions.specs.declared.what.What.{What}
use Rattle.instructions.specs.declared.what.What.TheVariants as whats
use Rattle.instructions.specs.declared.what.Instr.{Instr}
use Rattle.instructions.specs.declared.what.Target.{Target}
use Rattle.link_types.specs.declared.types.ObjectType.TheVariants.{Class}
use Rattle.link_types.specs.declared.types.ValueType.{ValueType}
use Rattle.link_types.specs.declared.types.ValueType.TheVariants as types
use Rattle.link_types.specs.declared.operands.FieldOperand.{FieldOperand}
use Rattle.link_types.specs.declared.operands.MethodOperand.{MethodOperand}
use Rattle.link_types.specs.declared.operands.Operand.{Operand}
use Rattle.link_types.specs.declared.operands.Operand.TheVariants as operands
use Rattle.type_rules.specs.declared.refusal.VerifyKind.{VerifyKind}
use Rattle.type_rules.specs.declared.types.VerificationType.{VerificationType}
use Rattle.type_rules.specs.declared.types.VerificationType.TheVariants as words
use Rattle.type_rules.specs.Assignable.{Hierarchy}
use Rattle.type_rules.specs.Environment.{Environment, TypeFrame, TypedHandler}
use Rattle.type_rules.specs.Wants.{throwable_type}
use Rattle.type_rules.specs.FrameAfter.{frame_after}
use Rattle.type_rules.specs.TypeFaults.{own_fault}
use Rattle.type_rules.specs.TypeSafe.{IsFirstTypeFault}

-- class 6 is an interface, and each class is below itself and java/lang/Object
abbrev pub tiny_hierarchy : Hierarchy
tiny_hierarchy = record { is_interface = λ c. c == 6; is_superclass = λ low high. low == high }

-- instructions of one byte each, so that the offset of each is its number
abbrev pub steps_from : ℕ → List (What Target) → List (Instr Target)
steps_from n [] = []
steps_from n (what ∷ rest) = record { at = n; next = suc n; what = what } ∷ steps_from (suc n) rest

abbrev pub target : ℕ → Target
target n = record { at = n; step = n }

abbrev pub goto : ℕ → What Target
goto n = whats.Branch tests.Always (target n)

abbrev pub plain_frame : List VerificationType → List VerificationType → TypeFrame
plain_frame locals stack = record { locals = locals; stack = stack; flag_this_uninit = false }

-- a frame of a constructor whose object isn't initialized
abbrev pub with_flag : List VerificationType → List VerificationType → TypeFrame
with_flag locals stack = record { locals = locals; stack = stack; flag_this_uninit = true }

-- a static method of class 30, which extends Object, with one local and two words of stack, without map frames
abbrev pub static_method : List VerificationType → Option ValueType → List (What Target) → Environment
static_method entry return_type code = record {
  hierarchy = tiny_hierarchy;
  class = 30;
  super = 1;
  constructs = false;
  entry = entry;
  return_type = return_type;
  max_locals = 1;
  max_stack = 2;
  steps = steps_from 0 code;
  map_at = λ k. None;
  handlers = [];
  operand = λ index. operands.Nothing;
  made_at = λ at. Class 30;
  parameters = λ id. [];
  result = λ id. None;
}

abbrev pub with_map : ℕ → TypeFrame → Environment → Environment
with_map n frame env = record env { map_at = λ k. if k == n then Some frame else None }

abbrev pub with_handler : TypedHandler → Environment → Environment
with_handler h env = record env { handlers = h ∷ [] }

-- a constructor of that class that has no parameters
abbrev pub constructor : List (What Target) → Environment
constructor code = record (static_method (words.UninitThis ∷ []) None code) { constructs = true }

-- ---- x == 0 ? 1 : x

abbrev pub choice : Environment
choice =
    with_map 4 (plain_frame (words.Int ∷ []) [])
    (static_method (words.Int ∷ []) (Some types.Int)
    (whats.Local (Load values.Int) 0
    ∷ whats.Branch (tests.Zero Equal) (target 4)
    ∷ whats.Local (Load values.Int) 0
    ∷ whats.Plain (plain.Return (Some values.Int))
    ∷ whats.Int (pos 1)
    ∷ whats.Plain (plain.Return (Some values.Int))
    ∷ []))

-- the frames of its instructions
abbrev pub choice_frames : ℕ → TypeFrame
choice_frames k = plain_frame (words.Int ∷ []) (if k == 1 then words.Int ∷ [] else if k == 3 then words.Int ∷ [] else if k == 5 then words.Int ∷ [] else [])

-- ---- a method for each kind of refusal

-- `pop` of an empty stack
abbrev pub pops_nothing : Environment
pops_nothing = static_method [] None (whats.Plain (plain.Stack stack.Pop) ∷ [])

-- an int is loaded where a String is
abbrev pub loads_wrongly : Environment
loads_wrongly = static_method (words.Object (Class 3) ∷ []) None (whats.Local (Load values.Int) 0 ∷ [])

-- a branch to an instruction without a map frame
abbrev pub leads_to_no_frame : Environment
leads_to_no_frame = static_method [] None (goto 1 ∷ whats.Plain (plain.Return None) ∷ [])

-- a branch to a frame with a word on the stack
abbrev pub leads_to_another_frame : Environment
leads_to_another_frame = with_map 1 (plain_frame [] (words.Int ∷ [])) leads_to_no_frame

-- nothing comes after `nop`
abbrev pub falls_off : Environment
falls_off = static_method [] None (whats.Plain plain.Nop ∷ [])

-- a parameter that is a long, and one local
abbrev pub has_no_room : Environment
has_no_room = static_method (words.Long ∷ words.Second ∷ []) None (whats.Plain (plain.Return None) ∷ [])

-- a constructor that returns at once
abbrev pub returns_uninitialized : Environment
returns_uninitialized = constructor (whats.Plain (plain.Return None) ∷ [])

-- a constructor with a handler over its beginning
abbrev pub covers_uninitialized : Environment
covers_uninitialized =
    with_handler (record { first = 0; end = 1; entry = 0; caught = throwable_type }) (constructor (whats.Plain plain.Nop ∷ []))

-- a method of an int that returns nothing
abbrev pub returns_nothing : Environment
returns_nothing = static_method [] (Some types.Int) (whats.Plain (plain.Return None) ∷ [])

-- the rule of this kind is the first that fails, at this instruction
abbrev pub IsRefusedAs : Environment → ℕ → VerifyKind → Type 0
IsRefusedAs env k kind = (i : Instr Target) × IsFirstTypeFault env k kind i

-- ---- one instruction, and a frame

abbrev pub at_zero : What Target → Instr Target
at_zero what = record { at = 0; next = 1; what = what }

-- a constructor of class 30, in which index 1 is a field that it declares, index 2 one that its superclass does, index 3
-- its <init>, index 4 that of its superclass, index 5 that of class 3, and index 6 class 30
abbrev pub field_operand_of : ℕ → FieldOperand
field_operand_of owner = record { named = Class 30; owner = owner; is_static = false; kind = types.Int; place = 0 }

abbrev pub init_operand_of : ℕ → MethodOperand
init_operand_of class =
    record { named = Class class; method = record { class = class; method = 0 }; special = None; constructs = true }

abbrev pub tiny_operand : ℕ → Operand
tiny_operand index =
    if index == 1 then operands.Field (field_operand_of 30)
    else if index == 2 then operands.Field (field_operand_of 1)
    else if index == 3 then operands.Method (init_operand_of 30)
    else if index == 4 then operands.Method (init_operand_of 1)
    else if index == 5 then operands.Method (init_operand_of 3)
    else operands.Class (record { kind = Class 30; number = None; array = None })

abbrev pub working : Environment
working = record (constructor []) { operand = tiny_operand; max_stack = 6 }

-- the fault of an instruction in this constructor, where the stack is this and its object is initialized
abbrev pub fault_of : What Target → List VerificationType → Option VerifyKind
fault_of what stack = own_fault working (at_zero what) (plain_frame (words.Int ∷ []) stack)

-- .. and in a method with a result
abbrev pub fault_of_return : ValueType → Plain → List VerificationType → Option VerifyKind
fault_of_return type operation stack =
    own_fault (static_method [] (Some type) []) (at_zero (whats.Plain operation)) (plain_frame [] stack)

-- a handler of a class
abbrev pub thrown_handler : ℕ → TypedHandler
thrown_handler class = record { first = 0; end = 1; entry = 0; caught = Class class }

-- a store of an int over a String in local 0, under a handler whose frame still has the String
abbrev pub stores_under_handler : Environment
stores_under_handler =
    with_map 1 (plain_frame (words.Object (Class 3) ∷ []) (words.Object throwable_type ∷ []))
    (with_handler (record { first = 0; end = 1; entry = 1; caught = throwable_type })
    (static_method (words.Object (Class 3) ∷ []) None (whats.Local (Store values.Int) 0 ∷ whats.Plain (plain.Return None) ∷ [])))

-- the frame after an instruction of the constructor, where its object isn't initialized and local 0 has it
abbrev pub behind : What Target → List VerificationType → TypeFrame
behind what stack =
    frame_after working (at_zero what) (with_flag (words.UninitThis ∷ []) stack)
