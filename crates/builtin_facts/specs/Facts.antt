-- What holds of the built-in classes and their methods in every program, and in linked ones.
use Rattle.std.specs.Prelude.{◌≡◌, ◌<◌, ◌≤◌, ℕ, true, None, Some, List, [], length}
use Rattle.access_flags.specs.declared.TheConstants.{STATIC}
use Rattle.builtin_world.specs.Laws.{is_throwable}
use Rattle.builtin_world.specs.declared.Native.{Native}
use Rattle.builtin_world.specs.declared.Native.TheVariants.{ThrowableInit, ThrowableInitMessage, ThrowableGetMessage}
use Rattle.builtin_world.specs.declared.number.TheConstants.{COUNT}
use Rattle.code_decode.specs.declared.code.ClassUnit.{ClassUnit}
use Rattle.link_types.specs.declared.operands.MethodId.{MethodId}
use Rattle.instructions.specs.declared.operation.PrimitiveType.TheVariants.{Char}
use Rattle.link_rules.specs.Classes.{classes_of}
use Rattle.link_rules.specs.Linked.{IsLinked}
use Rattle.link_rules.specs.Names.{program_names, type_numbered, is_class_number}
use Rattle.link_rules.specs.Readers.{primitive_array_number}
use Rattle.java_rows.specs.Program.{method_has, thread_run, runnable_run}
use Rattle.row_soundness.specs.Natives.{FitsNative, IsNative, IsNativeOf, native_takes, native_gives, native_static}
use Rattle.row_soundness.specs.Texts.{char_array}
use Rattle.type_rules.specs.Environments.{parameters_of_method, result_of_method}

-- each built-in class is a class of the program
abbrev pub BuiltInClassesHaveNumbers : Type 0
BuiltInClassesHaveNumbers = (us : List ClassUnit) (c : ℕ) → 1 ≤ c → c ≤ COUNT → is_class_number (program_names us) c ≡ true

-- a method is declared by a class whose objects it may be called on: Throwable and those below it by their numbers
abbrev pub IsDeclaredBy : List ClassUnit → Native → ℕ → Type 0
IsDeclaredBy us ThrowableInit c = is_throwable c ≡ true
IsDeclaredBy us ThrowableInitMessage c = is_throwable c ≡ true
IsDeclaredBy us ThrowableGetMessage c = is_throwable c ≡ true
IsDeclaredBy us n c = IsNativeOf us n c

-- a method of a built-in class takes and gives what the table says
pub record FitsTable (us : List ClassUnit) (n : Native) (id : MethodId) : Type 0 where
  pub takes : parameters_of_method (program_names us) id ≡ native_takes n
  pub gives : result_of_method (program_names us) id ≡ native_gives n
  pub static : method_has us id STATIC ≡ native_static n
  pub declared : IsDeclaredBy us n id.class

abbrev pub NativesFitTheirTable : Type 0
NativesFitTheirTable = (us : List ClassUnit) (id : MethodId) (n : Native) → IsNative us id n → FitsTable us n id

-- in a linked program a method of a built-in class fits, as an accepted program has it
abbrev pub NativesFit : Type 0
NativesFit = (us : List ClassUnit) (order : List ℕ) → IsLinked us order → (id : MethodId) (n : Native) → IsNative us id n → FitsNative us n id

-- `run` of Thread and of Runnable take nothing, and that of Runnable gives nothing
pub record RunsTakeNothing (us : List ClassUnit) : Type 0 where
  pub thread : parameters_of_method (program_names us) thread_run ≡ []
  pub target : parameters_of_method (program_names us) runnable_run ≡ []
  pub void : result_of_method (program_names us) runnable_run ≡ None

-- the class of char arrays is there, above the classes that are no arrays
pub record HasCharArrays (us : List ClassUnit) : Type 0 where
  pub number : ℕ
  pub named : primitive_array_number (program_names us) Char ≡ Some number
  pub array : length (classes_of us) < number
  pub class : is_class_number (program_names us) number ≡ true
  pub type : type_numbered (program_names us) number ≡ char_array
