-- What holds of the table as a whole.
use Rattle.std.specs.Prelude.{◌≡◌, ◌<◌, ◌+◌, ◌^◌, ◌==◌, ◌||◌, nat_le, nat_lt, Bool, ◌&&◌, bit_and, IfSome, IsSomeAnd, ℕ, List, [], ◌∷◌, Option, Some, All, map, length, take, find, position, codes, bytes_eq}
use Rattle.std.specs.List.{range_with_len}
use Rattle.std.specs.Option.{option_map_or}
use Rattle.builtin_world.specs.declared.number.TheConstants.{OBJECT, CLASS, STRING, SYSTEM, PRINT_STREAM, RUNNABLE, THREAD, THROWABLE, EXCEPTION, RUNTIME_EXCEPTION, ERROR, INTERRUPTED_EXCEPTION, ARITHMETIC_EXCEPTION, NULL_POINTER_EXCEPTION, INDEX_OUT_OF_BOUNDS_EXCEPTION, ARRAY_INDEX_OUT_OF_BOUNDS_EXCEPTION, NEGATIVE_ARRAY_SIZE_EXCEPTION, ARRAY_STORE_EXCEPTION, CLASS_CAST_EXCEPTION, ILLEGAL_MONITOR_STATE_EXCEPTION, ILLEGAL_ARGUMENT_EXCEPTION, ILLEGAL_THREAD_STATE_EXCEPTION, ILLEGAL_STATE_EXCEPTION, LINKAGE_ERROR, NO_CLASS_DEF_FOUND_ERROR, EXCEPTION_IN_INITIALIZER_ERROR, INCOMPATIBLE_CLASS_CHANGE_ERROR, STRING_BUILDER}
use Rattle.access_flags.specs.declared.TheConstants.{FINAL, INTERFACE}
use Rattle.builtin_world.specs.Library.{library}
use Rattle.builtin_world.specs.BuiltinClass.{rows, row_named, row_numbered, number_of}
use Rattle.builtin_world.specs.Native.{member_at, member_of, method_with}

-- the numbers are 1, 2 and so on, without a gap
abbrev pub NumbersRunFromOne : Type 0
NumbersRunFromOne = map (λ r. r.number) rows ≡ range_with_len 1 (length rows)

-- each class is the one that its name gives, and the one that its number gives
abbrev pub NamesAreDistinct : Type 0
NamesAreDistinct = All (λ r. row_named r.name ≡ Some r) rows

abbrev pub NumbersAreDistinct : Type 0
NumbersAreDistinct = All (λ r. row_numbered r.number ≡ Some r) rows

-- each superclass and each superinterface comes before the class
abbrev pub SupersComeFirst : Type 0
SupersComeFirst = All (λ r. r.super_number < r.number) rows

abbrev pub InterfacesComeFirst : Type 0
InterfacesComeFirst = All (λ r. All (λ i. i < r.number) r.interfaces) rows

-- each superclass is a class that can be extended, and each superinterface an interface
abbrev pub SupersAreOpen : Type 0
SupersAreOpen = All (λ r. IfSome (row_numbered r.super_number) (λ s. bit_and s.flags (FINAL + INTERFACE) ≡ 0)) rows

abbrev pub InterfacesAreInterfaces : Type 0
InterfacesAreInterfaces =
    All (λ r. All (λ i. IsSomeAnd (row_numbered i) (λ s. bit_and s.flags INTERFACE ≡ INTERFACE)) r.interfaces) rows

-- Throwable and the classes below it come one after another, up to the last one before StringBuilder: a class is one of
-- them where it is Throwable or its superclass is one of them
abbrev pub is_throwable : ℕ → Bool
is_throwable n = nat_le THROWABLE n && nat_lt n STRING_BUILDER

abbrev pub ThrowablesComeTogether : Type 0
ThrowablesComeTogether =
    All (λ r. is_throwable r.number ≡ (r.number == THROWABLE || is_throwable r.super_number)) rows

-- the words of a class
abbrev pub words_of : List ℕ → List (List ℕ)
words_of name = option_map_or (λ c. c.words) (find (λ c. bytes_eq c.name name) library) []

-- an object of a class begins with the words of an object of the superclass
abbrev pub SubclassesKeepWords : Type 0
SubclassesKeepWords = All (λ c. take (length (words_of c.super)) c.words ≡ words_of c.super) library

-- no class has two methods of one name and descriptor
abbrev pub MethodsAreDistinct : Type 0
MethodsAreDistinct = All (λ r. All (λ m. method_with r.methods m.name m.descriptor ≡ Some m) r.methods) rows

-- each class has few enough methods for an index of 16 bits (JVMS 4.1)
abbrev pub MethodsAreFew : Type 0
MethodsAreFew = All (λ r. length r.methods < 2 ^ 16) rows

-- each method has the native that stands for it
abbrev pub NativesAreOwn : Type 0
NativesAreOwn = All (λ c. All (λ m. member_of m.native ≡ member_at c m) c.methods) library

-- the constants for the class numbers, each with the name of its class
abbrev pub number_constants : List (List ℕ × ℕ)
number_constants =
    (codes "java/lang/Object", OBJECT)
    ∷ (codes "java/lang/Class", CLASS)
    ∷ (codes "java/lang/String", STRING)
    ∷ (codes "java/lang/System", SYSTEM)
    ∷ (codes "java/io/PrintStream", PRINT_STREAM)
    ∷ (codes "java/lang/Runnable", RUNNABLE)
    ∷ (codes "java/lang/Thread", THREAD)
    ∷ (codes "java/lang/Throwable", THROWABLE)
    ∷ (codes "java/lang/Exception", EXCEPTION)
    ∷ (codes "java/lang/RuntimeException", RUNTIME_EXCEPTION)
    ∷ (codes "java/lang/Error", ERROR)
    ∷ (codes "java/lang/InterruptedException", INTERRUPTED_EXCEPTION)
    ∷ (codes "java/lang/ArithmeticException", ARITHMETIC_EXCEPTION)
    ∷ (codes "java/lang/NullPointerException", NULL_POINTER_EXCEPTION)
    ∷ (codes "java/lang/IndexOutOfBoundsException", INDEX_OUT_OF_BOUNDS_EXCEPTION)
    ∷ (codes "java/lang/ArrayIndexOutOfBoundsException", ARRAY_INDEX_OUT_OF_BOUNDS_EXCEPTION)
    ∷ (codes "java/lang/NegativeArraySizeException", NEGATIVE_ARRAY_SIZE_EXCEPTION)
    ∷ (codes "java/lang/ArrayStoreException", ARRAY_STORE_EXCEPTION)
    ∷ (codes "java/lang/ClassCastException", CLASS_CAST_EXCEPTION)
    ∷ (codes "java/lang/IllegalMonitorStateException", ILLEGAL_MONITOR_STATE_EXCEPTION)
    ∷ (codes "java/lang/IllegalArgumentException", ILLEGAL_ARGUMENT_EXCEPTION)
    ∷ (codes "java/lang/IllegalThreadStateException", ILLEGAL_THREAD_STATE_EXCEPTION)
    ∷ (codes "java/lang/IllegalStateException", ILLEGAL_STATE_EXCEPTION)
    ∷ (codes "java/lang/LinkageError", LINKAGE_ERROR)
    ∷ (codes "java/lang/NoClassDefFoundError", NO_CLASS_DEF_FOUND_ERROR)
    ∷ (codes "java/lang/ExceptionInInitializerError", EXCEPTION_IN_INITIALIZER_ERROR)
    ∷ (codes "java/lang/IncompatibleClassChangeError", INCOMPATIBLE_CLASS_CHANGE_ERROR)
    ∷ (codes "java/lang/StringBuilder", STRING_BUILDER)
    ∷ []

abbrev pub ConstantsAreNumbers : Type 0
ConstantsAreNumbers = All (λ p. number_of p.0 ≡ p.1) number_constants

-- the place of a word in an object of a class
abbrev pub word_place : List ℕ → List ℕ → Option ℕ
word_place owner word = position (λ w. bytes_eq w word) (words_of owner)
