-- Programs of one class, and how their first thread goes on.
use Rattle.std.specs.Prelude.{ℕ, ◌+◌, pos, Option, None, Some, List, [], ◌∷◌, codes, map, fold, option_map, option_and_then}
use Rattle.access_flags.specs.declared.TheConstants.{PUBLIC, STATIC, SYNCHRONIZED}
use Rattle.class_walk.specs.declared.class.Constant.TheVariants.{Gap, Utf8, Class, Pair, Field, Method}
use Rattle.class_read.specs.declared.class_file.ClassFile.{ClassFile}
use Rattle.code_decode.specs.declared.code.ClassUnit.{ClassUnit}
use Rattle.code_decode.specs.declared.code.Code.{Code}
use Rattle.code_decode.specs.declared.code.Handler.{Handler}
use Rattle.instructions.specs.declared.operation.Arithmetic.TheVariants.{Add, Divide}
use Rattle.instructions.specs.declared.operation.Call.TheVariants.{Virtual}
use Rattle.instructions.specs.declared.operation.FieldAccess.TheVariants.{GetStatic}
use Rattle.instructions.specs.declared.operation.Plain.TheVariants.{IntArithmetic, Return}
use Rattle.instructions.specs.declared.what.Instr.{Instr}
use Rattle.instructions.specs.declared.what.Target.{Target}
use Rattle.instructions.specs.declared.what.What.{What}
use Rattle.instructions.specs.declared.what.What.TheVariants as whats
use Rattle.link_types.specs.declared.operands.MethodId.{MethodId}
use Rattle.op_core.specs.declared.Next.{Next}
use Rattle.op_core.specs.declared.Reply.{Reply}
use Rattle.op_core.specs.declared.Reply.TheVariants.{Claimed, Done}
use Rattle.op_core.specs.ThreadCode.{quiet_steps}
use Rattle.java_rows.specs.Thread.{Local, first_state, java_code}

abbrev pub instruction : ℕ → ℕ → What Target → Instr Target
instruction at next what = record { at = at; next = next; what = what }

abbrev pub code_of : List (What Target) → List Handler → Code
code_of instructions handlers = record {
  max_stack = 3;
  max_locals = 1;
  steps = map (instruction 0 0) instructions;
  handlers = handlers;
  frames = [];
}

-- getstatic, iconst_2, iconst_3, iadd, invokevirtual, return
abbrev pub prints_sum : Code
prints_sum = code_of
    (whats.Field GetStatic 11 ∷ whats.Int (pos 2) ∷ whats.Int (pos 3) ∷ whats.Plain (IntArithmetic Add)
    ∷ whats.Call Virtual 17 ∷ whats.Plain (Return None) ∷ []) []

-- iconst_1, iconst_0, idiv, return
abbrev pub division : List (What Target)
division = whats.Int (pos 1) ∷ whats.Int (pos 0) ∷ whats.Plain (IntArithmetic Divide) ∷ whats.Plain (Return None) ∷ []

-- all up to the division is covered, and the return is the handler of everything
abbrev pub takes_all : Handler
takes_all = record { from = 0; to = 3; at = 3; kind = 0; first = 0; end = 3; entry = 3 }

-- a class whose main has these flags
abbrev pub one_file : ℕ → ClassFile
one_file flags = record {
  major = 52;
  flags = PUBLIC;
  this_class = 2;
  super_class = 4;
  interfaces = [];
  pool =
      Gap
      ∷ Utf8 (codes "One") ∷ Class 1
      ∷ Utf8 (codes "java/lang/Object") ∷ Class 3
      ∷ Utf8 (codes "main") ∷ Utf8 (codes "java/lang/System") ∷ Class 6
      ∷ Utf8 (codes "out") ∷ Utf8 (codes "Ljava/io/PrintStream;") ∷ Pair 8 9 ∷ Field 7 10
      ∷ Utf8 (codes "java/io/PrintStream") ∷ Class 12
      ∷ Utf8 (codes "println") ∷ Utf8 (codes "(I)V") ∷ Pair 14 15 ∷ Method 13 16
      ∷ Utf8 (codes "([Ljava/lang/String;)V")
      ∷ [];
  fields = [];
  methods = record { flags = flags; name = 5; descriptor = 18; constant = None; code = None } ∷ [];
}

abbrev pub one : ℕ → Code → List ClassUnit
one flags code = record { file = one_file flags; codes = Some code ∷ [] } ∷ []

abbrev pub main_method : MethodId
main_method = record { class = 29; method = 0 }

-- ---- how thread 1 goes on

-- the given number of silent steps, or the reply to what is wanted
pub data Move : Type 0 where
  silent : ℕ → Move
  told : Reply → Move

abbrev pub moved : Option Local → Move → Option Local
moved l (silent n) = option_and_then (quiet_steps java_code n) l
moved l (told reply) = option_map (λ m. java_code.reply m reply) l

abbrev pub wanted : ℕ → Code → List Move → Option Next
wanted flags code moves = option_map java_code.next (fold moved (Some (first_state (one flags code) main_method)) moves)

-- the class is claimed, and ready at once
abbrev pub initialized : List Move
initialized = told Claimed ∷ told Done ∷ []

abbrev pub plain : ℕ
plain = PUBLIC + STATIC

abbrev pub synchronized : ℕ
synchronized = PUBLIC + STATIC + SYNCHRONIZED
