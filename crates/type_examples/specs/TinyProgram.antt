-- A tiny program: a class with a method that has a branch, and a constructor. And a table of map frames.
use Rattle.std.specs.Prelude.{Bool, ℕ, ◌+◌, ◌==◌, true, if◌then◌else◌, Option, None, Some, List, [], ◌∷◌, codes}
use Rattle.access_flags.specs.declared.TheConstants.{PUBLIC, STATIC}
use Rattle.class_walk.specs.declared.class.Constant.TheVariants as constants
use Rattle.class_read.specs.declared.class_file.ClassFile.{ClassFile}
use Rattle.class_read.specs.declared.class_file.Member.{Member}
use Rattle.instructions.specs.declared.operation.Plain.TheVariants as plain
use Rattle.instructions.specs.declared.operation.Call.TheVariants.{Special}
use Rattle.instructions.specs.declared.operation.ClassUse.TheVariants as uses
use Rattle.instructions.specs.declared.operation.ValueKind.TheVariants as values
use Rattle.instructions.specs.declared.operation.LocalAccess.TheVariants.{Load}
use Rattle.instructions.specs.declared.what.Instr.{Instr}
use Rattle.instructions.specs.declared.what.Target.{Target}
use Rattle.instructions.specs.declared.what.What.TheVariants as whats
use Rattle.code_frames.specs.declared.types.MapFrame.{MapFrame}
use Rattle.code_frames.specs.declared.types.VType.{VType}
use Rattle.code_frames.specs.declared.types.VType.TheVariants as items
use Rattle.code_frames.specs.declared.types.LocalsChange.{LocalsChange}
use Rattle.code_frames.specs.declared.types.LocalsChange.TheVariants.{Same, Append, Chop, Full}
use Rattle.code_decode.specs.declared.code.Code.{Code}
use Rattle.code_decode.specs.declared.code.ClassUnit.{ClassUnit}
use Rattle.link_types.specs.declared.types.ObjectType.TheVariants.{Class}
use Rattle.link_types.specs.declared.operands.Operand.TheVariants as operands
use Rattle.link_rules.specs.Classes.{member_of_file}
use Rattle.link_rules.specs.Names.{ProgramNames, program_names}
use Rattle.link_rules.specs.Operands.{operand}
use Rattle.type_rules.specs.declared.types.VerificationType.{VerificationType}
use Rattle.type_rules.specs.declared.types.VerificationType.TheVariants.{UninitThis, Long, Int, Object}
use Rattle.type_rules.specs.Environment.{Environment, TypeFrame}
use Rattle.type_rules.specs.MapFrames.{item_type, map_frame_at}
use Rattle.type_rules.specs.Environments.{environment, words_of_values}
use Rattle.type_examples.specs.TinyMethods.{choice, plain_frame, steps_from, with_flag}

abbrev pub method_of : ℕ → ℕ → ℕ → Member
method_of flags name descriptor = record { flags = flags; name = name; descriptor = descriptor; constant = None; code = None }

abbrev pub map_frame : ℕ → LocalsChange → List VType → MapFrame
map_frame step locals stack = record { at = step; step = step; locals = locals; stack = stack }

abbrev pub code_of : List (Instr Target) → List MapFrame → Code
code_of steps frames = record { max_stack = 2; max_locals = 1; steps = steps; handlers = []; frames = frames }

abbrev pub tiny_file : ClassFile
tiny_file = record {
  major = 52;
  flags = PUBLIC;
  this_class = 2;
  super_class = 4;
  interfaces = [];
  pool =
      constants.Gap
      ∷ constants.Utf8 (codes "Tiny") ∷ constants.Class 1
      ∷ constants.Utf8 (codes "java/lang/Object") ∷ constants.Class 3
      ∷ constants.Utf8 (codes "choose") ∷ constants.Utf8 (codes "(I)I")
      ∷ constants.Utf8 (codes "<init>") ∷ constants.Utf8 (codes "()V")
      ∷ constants.Pair 7 8 ∷ constants.Method 4 9
      ∷ [];
  fields = [];
  methods = method_of (PUBLIC + STATIC) 5 6 ∷ method_of PUBLIC 7 8 ∷ [];
}

-- aload_0, invokespecial of java/lang/Object's <init>, return
abbrev pub constructor_steps : List (Instr Target)
constructor_steps =
    steps_from 0 (whats.Local (Load values.Reference) 0 ∷ whats.Call Special 10 ∷ whats.Plain (plain.Return None) ∷ [])

abbrev pub choice_code : Code
choice_code = code_of choice.steps (map_frame 4 Same [] ∷ [])

abbrev pub constructor_code : Code
constructor_code = code_of constructor_steps []

abbrev pub tiny_unit : ClassUnit
tiny_unit = record { file = tiny_file; codes = Some choice_code ∷ Some constructor_code ∷ [] }

abbrev pub tiny_program : List ClassUnit
tiny_program = tiny_unit ∷ []

-- ---- a constructor that begins with its receiver, a long and an int, and has four frames

abbrev pub values_at_entry : List VerificationType
values_at_entry = UninitThis ∷ Long ∷ Int ∷ []

abbrev pub some_frames : List MapFrame
some_frames =
    map_frame 2 Same []
    ∷ map_frame 5 (Append (items.Double ∷ [])) []
    ∷ map_frame 7 (Chop 2) (items.Int ∷ items.Long ∷ [])
    ∷ map_frame 8 (Full (items.Top ∷ [])) []
    ∷ []

-- .. in a constructor, and in another method
abbrev pub frame_in : Bool → ℕ → Option TypeFrame
frame_in constructs k =
    map_frame_at (item_type (λ index. operands.Nothing) (words_of_values values_at_entry)) constructs values_at_entry some_frames k

abbrev pub frame_at : ℕ → Option TypeFrame
frame_at k = frame_in true k

-- a `new` of class 30 after a `nop`
abbrev pub makes : List (Instr Target)
makes = steps_from 0 (whats.Plain plain.Nop ∷ whats.Class uses.New 6 ∷ [])

-- ---- the methods as their rules see them: the class has the number 29

abbrev pub tiny_names : ProgramNames
tiny_names = program_names tiny_program

abbrev pub tiny_choice : Environment
tiny_choice = environment tiny_names (operand tiny_program 29) 29 (member_of_file tiny_file.pool (method_of (PUBLIC + STATIC) 5 6)) choice_code

abbrev pub tiny_constructor : Environment
tiny_constructor = environment tiny_names (operand tiny_program 29) 29 (member_of_file tiny_file.pool (method_of PUBLIC 7 8)) constructor_code

-- the frames of the constructor
abbrev pub constructor_frames : ℕ → TypeFrame
constructor_frames k =
    if k == 0 then with_flag (UninitThis ∷ []) []
    else if k == 1 then with_flag (UninitThis ∷ []) (UninitThis ∷ [])
    else plain_frame (Object (Class 29) ∷ []) []
