-- Programs of one class and of two, and how their threads go on.
use Rattle.std.specs.Prelude.{ℕ, ◌+◌, pos, Option, None, Some, List, [], ◌∷◌, ◌++◌, codes, map, fold, option_map}
use Rattle.access_flags.specs.declared.TheConstants.{PUBLIC, STATIC}
use Rattle.class_walk.specs.declared.class.Constant.{Constant}
use Rattle.class_walk.specs.declared.class.Constant.TheVariants.{Gap, Utf8, Class, Pair, Field, Method}
use Rattle.class_read.specs.declared.class_file.ClassFile.{ClassFile}
use Rattle.class_read.specs.declared.class_file.Member.{Member}
use Rattle.code_decode.specs.declared.code.ClassUnit.{ClassUnit}
use Rattle.code_decode.specs.declared.code.Code.{Code}
use Rattle.instructions.specs.declared.operation.Arithmetic.TheVariants.{Add}
use Rattle.instructions.specs.declared.operation.Call.TheVariants.{Virtual, Static}
use Rattle.instructions.specs.declared.operation.Conversion.TheVariants.{LongToInt}
use Rattle.instructions.specs.declared.operation.FieldAccess.TheVariants.{GetStatic}
use Rattle.instructions.specs.declared.operation.LocalAccess.TheVariants.{Load}
use Rattle.instructions.specs.declared.operation.Plain.TheVariants.{Convert, IntArithmetic, Return}
use Rattle.instructions.specs.declared.operation.ValueKind.TheVariants as kinds
use Rattle.instructions.specs.declared.what.Target.{Target}
use Rattle.instructions.specs.declared.what.What.{What}
use Rattle.instructions.specs.declared.what.What.TheVariants as whats
use Rattle.link_rules.specs.FixedObjects.{arguments_object}
use Rattle.link_rules.specs.Names.{program_names}
use Rattle.op_core.specs.declared.Next.{Next}
use Rattle.op_core.specs.declared.Reply.{Reply}
use Rattle.op_core.specs.declared.Reply.TheVariants.{Claimed, Made}
use Rattle.java_rows.specs.Thread.{first_state, child_of, java_code}
use Rattle.java_examples.specs.One.{instruction, division, main_method, initialized, Move, silent, told, moved}

-- ---- class files

abbrev pub member : ℕ → ℕ → ℕ → Member
member flags name descriptor = record { flags = flags; name = name; descriptor = descriptor; constant = None; code = None }

-- a class of this name below another one, with more entries of its pool from 7 on
abbrev pub file_of : List ℕ → List ℕ → List Constant → List Member → ClassFile
file_of name super more methods = record {
  major = 52;
  flags = PUBLIC;
  this_class = 2;
  super_class = 4;
  interfaces = [];
  pool =
      Gap
      ∷ Utf8 name ∷ Class 1
      ∷ Utf8 super ∷ Class 3
      ∷ Utf8 (codes "main") ∷ Utf8 (codes "([Ljava/lang/String;)V")
      ∷ more;
  fields = [];
  methods = methods;
}

abbrev pub main_member : Member
main_member = member (PUBLIC + STATIC) 5 6

-- code without handlers, by the words of its stack and of its locals
abbrev pub body : ℕ → ℕ → List (What Target) → Option Code
body room locals instructions = Some (record {
  max_stack = room;
  max_locals = locals;
  steps = map (instruction 0 0) instructions;
  handlers = [];
  frames = [];
})

abbrev pub unit_of : ClassFile → List (Option Code) → ClassUnit
unit_of file bodies = record { file = file; codes = bodies }

-- ---- programs

-- main calls notifyAll on the array of its arguments
abbrev pub notifier : List ClassUnit
notifier = unit_of
    (file_of (codes "One") (codes "java/lang/Object")
    (Utf8 (codes "notifyAll") ∷ Utf8 (codes "()V") ∷ Pair 7 8 ∷ Method 4 9 ∷ [])
    (main_member ∷ []))
    (body 1 1 (whats.Local (Load kinds.Reference) 0 ∷ whats.Call Virtual 10 ∷ whats.Plain (Return None) ∷ []) ∷ []) ∷ []

-- the class of main is below one whose initializer divides by 0
abbrev pub below_two : List ClassUnit
below_two =
    unit_of (file_of (codes "One") (codes "Two") [] (main_member ∷ [])) (body 0 1 (whats.Plain (Return None) ∷ []) ∷ [])
    ∷ unit_of
    (file_of (codes "Two") (codes "java/lang/Object") (Utf8 (codes "<clinit>") ∷ Utf8 (codes "()V") ∷ [])
    (member STATIC 7 8 ∷ []))
    (body 2 0 division ∷ [])
    ∷ []

-- main prints the sum of the low half of its first argument, a long, and of the second one, an int
abbrev pub adds_to_long : List ClassUnit
adds_to_long = unit_of
    (file_of (codes "One") (codes "java/lang/Object")
    (Utf8 (codes "add") ∷ Utf8 (codes "(JI)I") ∷ Pair 7 8 ∷ Method 2 9
    ∷ Utf8 (codes "java/lang/System") ∷ Class 11
    ∷ Utf8 (codes "out") ∷ Utf8 (codes "Ljava/io/PrintStream;") ∷ Pair 13 14 ∷ Field 12 15
    ∷ Utf8 (codes "java/io/PrintStream") ∷ Class 17
    ∷ Utf8 (codes "println") ∷ Utf8 (codes "(I)V") ∷ Pair 19 20 ∷ Method 18 21
    ∷ [])
    (main_member ∷ member (PUBLIC + STATIC) 7 8 ∷ []))
    (body 4 1
    (whats.Field GetStatic 16 ∷ whats.Long (pos 7) ∷ whats.Int (pos 5) ∷ whats.Call Static 10 ∷ whats.Call Virtual 22
    ∷ whats.Plain (Return None) ∷ [])
    ∷ body 2 3
    (whats.Local (Load kinds.Long) 0 ∷ whats.Plain (Convert LongToInt) ∷ whats.Local (Load kinds.Int) 2
    ∷ whats.Plain (IntArithmetic Add) ∷ whats.Plain (Return (Some kinds.Int)) ∷ [])
    ∷ []) ∷ []

-- ---- how threads go on

-- what thread 1 wants after these moves
abbrev pub main_wants : List ClassUnit → List Move → Option Next
main_wants us moves = option_map java_code.next (fold moved (Some (first_state us main_method)) moves)

-- what the thread that an object starts wants after these replies
abbrev pub child_wants : List ClassUnit → ℕ → List Reply → Option Next
child_wants us r replies =
    option_map java_code.next (fold moved (Some (child_of us r)) (map told replies))

-- main calls notifyAll on this object
abbrev pub notified : ℕ
notified = arguments_object (program_names notifier)

abbrev pub calls_notify_all : List Move
calls_notify_all = initialized ++ silent 2 ∷ []

-- both classes are claimed, the initializer divides, and its frame ends by the exception
abbrev pub initializer_throws : List Move
initializer_throws = told Claimed ∷ told Claimed ∷ silent 3 ∷ told (Made 99) ∷ silent 1 ∷ []
