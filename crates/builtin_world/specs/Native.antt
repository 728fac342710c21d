-- The constructor or method of the library that each native stands for.
use Prim.Native.String.{String}
use Rattle.std.specs.Prelude.{ℕ, ◌&&◌, nat_le, nat_lt, List, Option, find, codes, bytes_eq, if◌then◌else◌}
use Rattle.std.specs.Option.{option_map, option_and_then}
use Rattle.builtin_world.specs.declared.Native.{Native}
use Rattle.builtin_world.specs.declared.Native.TheVariants.{ObjectInit, ObjectWait, ObjectNotify, ObjectNotifyAll, ObjectEquals, PrintlnEmpty, PrintlnInt, PrintlnLong, PrintlnChar, PrintlnBoolean, PrintlnString, RunnableRun, ThreadInit, ThreadInitTarget, ThreadStart, ThreadRun, ThreadJoin, ThreadSetPriority, ThreadGetPriority, ThreadCurrentThread, ThreadYield, ThrowableInit, ThrowableInitMessage, ThrowableGetMessage, StringLength, StringCharAt, StringEquals, StringConcat, BuilderInit, BuilderInitText, AppendInt, AppendLong, AppendChar, AppendBoolean, AppendString, BuilderLength, BuilderToString}
use Rattle.builtin_world.specs.Library.{Class, Method}
use Rattle.builtin_world.specs.BuiltinClass.{row_named, number_of}

-- a method by its class, name and descriptor
pub record Member : Type 0 where
  pub owner : List ℕ
  pub name : List ℕ
  pub descriptor : List ℕ

abbrev pub member : String → String → String → Member
member owner name descriptor =
    record { owner = codes owner; name = codes name; descriptor = codes descriptor }

abbrev pub member_of : Native → Member
member_of ObjectInit = member "java/lang/Object" "<init>" "()V"
member_of ObjectWait = member "java/lang/Object" "wait" "()V"
member_of ObjectNotify = member "java/lang/Object" "notify" "()V"
member_of ObjectNotifyAll = member "java/lang/Object" "notifyAll" "()V"
member_of ObjectEquals = member "java/lang/Object" "equals" "(Ljava/lang/Object;)Z"
member_of PrintlnEmpty = member "java/io/PrintStream" "println" "()V"
member_of PrintlnInt = member "java/io/PrintStream" "println" "(I)V"
member_of PrintlnLong = member "java/io/PrintStream" "println" "(J)V"
member_of PrintlnChar = member "java/io/PrintStream" "println" "(C)V"
member_of PrintlnBoolean = member "java/io/PrintStream" "println" "(Z)V"
member_of PrintlnString = member "java/io/PrintStream" "println" "(Ljava/lang/String;)V"
member_of RunnableRun = member "java/lang/Runnable" "run" "()V"
member_of ThreadInit = member "java/lang/Thread" "<init>" "()V"
member_of ThreadInitTarget = member "java/lang/Thread" "<init>" "(Ljava/lang/Runnable;)V"
member_of ThreadStart = member "java/lang/Thread" "start" "()V"
member_of ThreadRun = member "java/lang/Thread" "run" "()V"
member_of ThreadJoin = member "java/lang/Thread" "join" "()V"
member_of ThreadSetPriority = member "java/lang/Thread" "setPriority" "(I)V"
member_of ThreadGetPriority = member "java/lang/Thread" "getPriority" "()I"
member_of ThreadCurrentThread = member "java/lang/Thread" "currentThread" "()Ljava/lang/Thread;"
member_of ThreadYield = member "java/lang/Thread" "yield" "()V"
member_of ThrowableInit = member "java/lang/Throwable" "<init>" "()V"
member_of ThrowableInitMessage = member "java/lang/Throwable" "<init>" "(Ljava/lang/String;)V"
member_of ThrowableGetMessage = member "java/lang/Throwable" "getMessage" "()Ljava/lang/String;"
member_of StringLength = member "java/lang/String" "length" "()I"
member_of StringCharAt = member "java/lang/String" "charAt" "(I)C"
member_of StringEquals = member "java/lang/String" "equals" "(Ljava/lang/Object;)Z"
member_of StringConcat = member "java/lang/String" "concat" "(Ljava/lang/String;)Ljava/lang/String;"
member_of BuilderInit = member "java/lang/StringBuilder" "<init>" "()V"
member_of BuilderInitText = member "java/lang/StringBuilder" "<init>" "(Ljava/lang/String;)V"
member_of AppendInt = member "java/lang/StringBuilder" "append" "(I)Ljava/lang/StringBuilder;"
member_of AppendLong = member "java/lang/StringBuilder" "append" "(J)Ljava/lang/StringBuilder;"
member_of AppendChar = member "java/lang/StringBuilder" "append" "(C)Ljava/lang/StringBuilder;"
member_of AppendBoolean = member "java/lang/StringBuilder" "append" "(Z)Ljava/lang/StringBuilder;"
member_of AppendString = member "java/lang/StringBuilder" "append" "(Ljava/lang/String;)Ljava/lang/StringBuilder;"
member_of BuilderLength = member "java/lang/StringBuilder" "length" "()I"
member_of BuilderToString = member "java/lang/StringBuilder" "toString" "()Ljava/lang/String;"

-- the class under whose name a method of c has its native: the constructors of each class below
-- Throwable, which all come after it up to StringBuilder, do what those of Throwable do
abbrev pub owner_of : Class → List ℕ
owner_of c =
    if nat_le (number_of (codes "java/lang/Throwable")) c.number && nat_lt c.number (number_of (codes "java/lang/StringBuilder"))
    then codes "java/lang/Throwable" else c.name

-- a method of a class as a member
abbrev pub member_at : Class → Method → Member
member_at c m = record { owner = owner_of c; name = m.name; descriptor = m.descriptor }

-- the method of some methods that has a name and a descriptor
abbrev pub method_with : List Method → List ℕ → List ℕ → Option Method
method_with methods name descriptor =
    find (λ m. bytes_eq m.name name && bytes_eq m.descriptor descriptor) methods

-- the native of the row that has this member
abbrev pub native_at : Member → Option Native
native_at m =
    option_map (λ k. k.native) (option_and_then (λ r. method_with r.methods m.name m.descriptor) (row_named m.owner))
