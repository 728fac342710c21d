-- The classes of the exceptions that the machine itself makes.
use Rattle.std.specs.Prelude.{ℕ, List, codes}
use Rattle.builtin_world.specs.declared.exceptions.MachineException.{MachineException}
use Rattle.builtin_world.specs.declared.exceptions.MachineException.TheVariants.{Arithmetic, NullPointer, ArrayIndexOutOfBounds, NegativeArraySize, ArrayStore, ClassCast, IllegalMonitorState, IllegalArgument, IllegalThreadState, NoClassDefFound, ExceptionInInitializer, IncompatibleClassChange}

abbrev pub class_name_of : MachineException → List ℕ
class_name_of Arithmetic = codes "java/lang/ArithmeticException"
class_name_of NullPointer = codes "java/lang/NullPointerException"
class_name_of ArrayIndexOutOfBounds = codes "java/lang/ArrayIndexOutOfBoundsException"
class_name_of NegativeArraySize = codes "java/lang/NegativeArraySizeException"
class_name_of ArrayStore = codes "java/lang/ArrayStoreException"
class_name_of ClassCast = codes "java/lang/ClassCastException"
class_name_of IllegalMonitorState = codes "java/lang/IllegalMonitorStateException"
class_name_of IllegalArgument = codes "java/lang/IllegalArgumentException"
class_name_of IllegalThreadState = codes "java/lang/IllegalThreadStateException"
class_name_of NoClassDefFound = codes "java/lang/NoClassDefFoundError"
class_name_of ExceptionInInitializer = codes "java/lang/ExceptionInInitializerError"
class_name_of IncompatibleClassChange = codes "java/lang/IncompatibleClassChangeError"
