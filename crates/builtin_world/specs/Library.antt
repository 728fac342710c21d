-- The classes that a program finds without a file, as the Java SE 8 API documentation lists them:
-- name, superclass, interfaces, modifiers, fields, constructors and methods. Names are binary names
-- in their internal form (JVMS 4.2.1), descriptors those of JVMS 4.3.
use Prim.Native.String.{String}
use Rattle.std.specs.Prelude.{ℕ, ◌+◌, List, [], ◌∷◌, codes}
use Rattle.access_flags.specs.declared.TheConstants.{PUBLIC, STATIC, FINAL, INTERFACE, ABSTRACT}
use Rattle.builtin_world.specs.declared.Native.{Native}
use Rattle.builtin_world.specs.declared.Native.TheVariants.{ObjectInit, ObjectWait, ObjectNotify, ObjectNotifyAll, ObjectEquals, PrintlnEmpty, PrintlnInt, PrintlnLong, PrintlnChar, PrintlnBoolean, PrintlnString, RunnableRun, ThreadInit, ThreadInitTarget, ThreadStart, ThreadRun, ThreadJoin, ThreadSetPriority, ThreadGetPriority, ThreadCurrentThread, ThreadYield, ThrowableInit, ThrowableInitMessage, ThrowableGetMessage, StringLength, StringCharAt, StringEquals, StringConcat, BuilderInit, BuilderInitText, AppendInt, AppendLong, AppendChar, AppendBoolean, AppendString, BuilderLength, BuilderToString}

-- a field that a class file can name
pub record Field : Type 0 where
  pub name : List ℕ
  pub descriptor : List ℕ
  pub flags : ℕ

-- a constructor or method, and what the machine does at a call of it
pub record Method : Type 0 where
  pub name : List ℕ
  pub descriptor : List ℕ
  pub flags : ℕ
  pub native : Native

-- a class or interface: `super` is empty where there is none, and `words` names the words of an
-- object, those of the superclass first
pub record Class : Type 0 where
  pub number : ℕ
  pub name : List ℕ
  pub super : List ℕ
  pub interfaces : List (List ℕ)
  pub flags : ℕ
  pub words : List (List ℕ)
  pub fields : List Field
  pub methods : List Method

abbrev pub method : ℕ → String → String → Native → Method
method flags name descriptor native =
    record { name = codes name; descriptor = codes descriptor; flags = flags; native = native }

abbrev pub object : Class
object = record {
  number = 1;
  name = codes "java/lang/Object";
  super = [];
  interfaces = [];
  flags = PUBLIC;
  words = [];
  fields = [];
  methods =
      method PUBLIC "<init>" "()V" ObjectInit
      ∷ method (PUBLIC + FINAL) "wait" "()V" ObjectWait
      ∷ method (PUBLIC + FINAL) "notify" "()V" ObjectNotify
      ∷ method (PUBLIC + FINAL) "notifyAll" "()V" ObjectNotifyAll
      ∷ method PUBLIC "equals" "(Ljava/lang/Object;)Z" ObjectEquals
      ∷ [];
}

-- a final class below Object whose objects have no words and which has no methods of its own
abbrev pub bare_class : ℕ → String → List Field → Class
bare_class number name fields = record {
  number = number;
  name = codes name;
  super = codes "java/lang/Object";
  interfaces = [];
  flags = PUBLIC + FINAL;
  words = [];
  fields = fields;
  methods = [];
}

abbrev pub string : Class
string = record {
  number = 3;
  name = codes "java/lang/String";
  super = codes "java/lang/Object";
  interfaces = [];
  flags = PUBLIC + FINAL;
  words = codes "units" ∷ [];
  fields = [];
  methods =
      method PUBLIC "length" "()I" StringLength
      ∷ method PUBLIC "charAt" "(I)C" StringCharAt
      ∷ method PUBLIC "equals" "(Ljava/lang/Object;)Z" StringEquals
      ∷ method PUBLIC "concat" "(Ljava/lang/String;)Ljava/lang/String;" StringConcat
      ∷ [];
}

abbrev pub string_builder : Class
string_builder = record {
  number = 28;
  name = codes "java/lang/StringBuilder";
  super = codes "java/lang/Object";
  interfaces = [];
  flags = PUBLIC + FINAL;
  words = codes "text" ∷ [];
  fields = [];
  methods =
      method PUBLIC "<init>" "()V" BuilderInit
      ∷ method PUBLIC "<init>" "(Ljava/lang/String;)V" BuilderInitText
      ∷ method PUBLIC "append" "(I)Ljava/lang/StringBuilder;" AppendInt
      ∷ method PUBLIC "append" "(J)Ljava/lang/StringBuilder;" AppendLong
      ∷ method PUBLIC "append" "(C)Ljava/lang/StringBuilder;" AppendChar
      ∷ method PUBLIC "append" "(Z)Ljava/lang/StringBuilder;" AppendBoolean
      ∷ method PUBLIC "append" "(Ljava/lang/String;)Ljava/lang/StringBuilder;" AppendString
      ∷ method PUBLIC "length" "()I" BuilderLength
      ∷ method PUBLIC "toString" "()Ljava/lang/String;" BuilderToString
      ∷ [];
}

abbrev pub system_out : Field
system_out = record {
  name = codes "out";
  descriptor = codes "Ljava/io/PrintStream;";
  flags = PUBLIC + STATIC + FINAL;
}

abbrev pub print_stream : Class
print_stream = record {
  number = 5;
  name = codes "java/io/PrintStream";
  super = codes "java/lang/Object";
  interfaces = [];
  flags = PUBLIC;
  words = [];
  fields = [];
  methods =
      method PUBLIC "println" "()V" PrintlnEmpty
      ∷ method PUBLIC "println" "(I)V" PrintlnInt
      ∷ method PUBLIC "println" "(J)V" PrintlnLong
      ∷ method PUBLIC "println" "(C)V" PrintlnChar
      ∷ method PUBLIC "println" "(Z)V" PrintlnBoolean
      ∷ method PUBLIC "println" "(Ljava/lang/String;)V" PrintlnString
      ∷ [];
}

abbrev pub runnable : Class
runnable = record {
  number = 6;
  name = codes "java/lang/Runnable";
  super = codes "java/lang/Object";
  interfaces = [];
  flags = PUBLIC + INTERFACE + ABSTRACT;
  words = [];
  fields = [];
  methods = method (PUBLIC + ABSTRACT) "run" "()V" RunnableRun ∷ [];
}

abbrev pub thread : Class
thread = record {
  number = 7;
  name = codes "java/lang/Thread";
  super = codes "java/lang/Object";
  interfaces = codes "java/lang/Runnable" ∷ [];
  flags = PUBLIC;
  words = codes "priority" ∷ codes "start" ∷ codes "target" ∷ [];
  fields = [];
  methods =
      method PUBLIC "<init>" "()V" ThreadInit
      ∷ method PUBLIC "<init>" "(Ljava/lang/Runnable;)V" ThreadInitTarget
      ∷ method PUBLIC "start" "()V" ThreadStart
      ∷ method PUBLIC "run" "()V" ThreadRun
      ∷ method (PUBLIC + FINAL) "join" "()V" ThreadJoin
      ∷ method (PUBLIC + FINAL) "setPriority" "(I)V" ThreadSetPriority
      ∷ method (PUBLIC + FINAL) "getPriority" "()I" ThreadGetPriority
      ∷ method (PUBLIC + STATIC) "currentThread" "()Ljava/lang/Thread;" ThreadCurrentThread
      ∷ method (PUBLIC + STATIC) "yield" "()V" ThreadYield
      ∷ [];
}

-- Throwable or a class below it, with the two constructors that all of them have
abbrev pub throwable : ℕ → String → String → List Method → Class
throwable number name super methods = record {
  number = number;
  name = codes name;
  super = codes super;
  interfaces = [];
  flags = PUBLIC;
  words = codes "message" ∷ [];
  fields = [];
  methods =
      method PUBLIC "<init>" "()V" ThrowableInit
      ∷ method PUBLIC "<init>" "(Ljava/lang/String;)V" ThrowableInitMessage
      ∷ methods;
}

abbrev pub exception : ℕ → String → String → Class
exception number name super = throwable number name super []

-- the classes in the order of their numbers
unfoldable pub library : List Class
library =
    object
    ∷ bare_class 2 "java/lang/Class" []
    ∷ string
    ∷ bare_class 4 "java/lang/System" (system_out ∷ [])
    ∷ print_stream
    ∷ runnable
    ∷ thread
    ∷ throwable 8 "java/lang/Throwable" "java/lang/Object"
    (method PUBLIC "getMessage" "()Ljava/lang/String;" ThrowableGetMessage ∷ [])
    ∷ exception 9 "java/lang/Exception" "java/lang/Throwable"
    ∷ exception 10 "java/lang/RuntimeException" "java/lang/Exception"
    ∷ exception 11 "java/lang/Error" "java/lang/Throwable"
    ∷ exception 12 "java/lang/InterruptedException" "java/lang/Exception"
    ∷ exception 13 "java/lang/ArithmeticException" "java/lang/RuntimeException"
    ∷ exception 14 "java/lang/NullPointerException" "java/lang/RuntimeException"
    ∷ exception 15 "java/lang/IndexOutOfBoundsException" "java/lang/RuntimeException"
    ∷ exception 16 "java/lang/ArrayIndexOutOfBoundsException" "java/lang/IndexOutOfBoundsException"
    ∷ exception 17 "java/lang/NegativeArraySizeException" "java/lang/RuntimeException"
    ∷ exception 18 "java/lang/ArrayStoreException" "java/lang/RuntimeException"
    ∷ exception 19 "java/lang/ClassCastException" "java/lang/RuntimeException"
    ∷ exception 20 "java/lang/IllegalMonitorStateException" "java/lang/RuntimeException"
    ∷ exception 21 "java/lang/IllegalArgumentException" "java/lang/RuntimeException"
    ∷ exception 22 "java/lang/IllegalThreadStateException" "java/lang/IllegalArgumentException"
    ∷ exception 23 "java/lang/IllegalStateException" "java/lang/RuntimeException"
    ∷ exception 24 "java/lang/LinkageError" "java/lang/Error"
    ∷ exception 25 "java/lang/NoClassDefFoundError" "java/lang/LinkageError"
    ∷ exception 26 "java/lang/ExceptionInInitializerError" "java/lang/LinkageError"
    ∷ exception 27 "java/lang/IncompatibleClassChangeError" "java/lang/LinkageError"
    ∷ string_builder
    ∷ []
