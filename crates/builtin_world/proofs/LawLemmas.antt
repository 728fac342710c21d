-- The laws of the table, each by one computation over the whole of it. Crates above may cite them.
use Rattle.std.proofs.Common.{◌≡◌, ◌<◌, ◌+◌, ◌^◌, ℕ, nat_eq, nat_lt, bit_and, true, false, List, length, take, refl}
use Rattle.std.specs.Prelude.{Some, ◌==◌, ◌||◌, nat_le}
use Rattle.std.specs.List.{All}
use Rattle.std.specs.Option.{option_map_or, IfSome, IsSomeAnd}
use Rattle.std.proofs.lemmas.Bool.{eqb-true, ltb-true}
use Rattle.std.proofs.lemmas.List.Elements.{All-weaker}
use Rattle.builtin_world.specs.declared.Native.{Native}
use Rattle.builtin_world.specs.declared.Native.TheVariants.{ObjectInit, ObjectWait, ObjectNotify, ObjectNotifyAll, ObjectEquals, PrintlnEmpty, PrintlnInt, PrintlnLong, PrintlnChar, PrintlnBoolean, PrintlnString, RunnableRun, ThreadInit, ThreadInitTarget, ThreadStart, ThreadRun, ThreadJoin, ThreadSetPriority, ThreadGetPriority, ThreadCurrentThread, ThreadYield, ThrowableInit, ThrowableInitMessage, ThrowableGetMessage, StringLength, StringCharAt, StringEquals, StringConcat, BuilderInit, BuilderInitText, AppendInt, AppendLong, AppendChar, AppendBoolean, AppendString, BuilderLength, BuilderToString}
use Rattle.access_flags.specs.declared.TheConstants.{FINAL, INTERFACE}
use Rattle.builtin_world.specs.Library.{Class, library}
use Rattle.builtin_world.specs.BuiltinClass.{ClassRow, rows, row_named, row_numbered, number_of}
use Rattle.builtin_world.specs.Native.{member_of, member_at, method_with, native_at}
use Rattle.builtin_world.specs.Laws.{NumbersRunFromOne, NamesAreDistinct, NumbersAreDistinct, SupersComeFirst, InterfacesComeFirst, SupersAreOpen, InterfacesAreInterfaces, ThrowablesComeTogether, is_throwable, SubclassesKeepWords, MethodsAreDistinct, MethodsAreFew, NativesAreOwn, ConstantsAreNumbers, number_constants, words_of}
use Rattle.builtin_world.proofs.Tables.{All-from_map, All-from_map_within, All-from_test, IfSome-from_test, IsSomeAnd-from_test}

pub numbers_run : NumbersRunFromOne
unfolding rows library
numbers_run = refl

pub names_are_distinct : NamesAreDistinct
unfolding rows library
names_are_distinct = All-from_map (λ r. row_named r.name) (λ r. Some r) rows refl

pub numbers_are_distinct : NumbersAreDistinct
unfolding rows library
numbers_are_distinct = All-from_map (λ r. row_numbered r.number) (λ r. Some r) rows refl

pub supers_come_first : SupersComeFirst
unfolding rows library
supers_come_first =
    All-from_test (λ (r : ClassRow). nat_lt r.super_number r.number) (λ r. r.super_number < r.number)
    (λ r. ltb-true r.super_number r.number) rows refl

pub interfaces_come_first : InterfacesComeFirst
unfolding rows library
interfaces_come_first =
    All-weaker (λ (r : ClassRow). All (λ i. nat_lt i r.number ≡ true) r.interfaces) (λ r. All (λ i. i < r.number) r.interfaces)
    (λ r. All-weaker (λ i. nat_lt i r.number ≡ true) (λ i. i < r.number) (λ i. ltb-true i r.number) r.interfaces)
    rows
    (All-from_map_within (λ (r : ClassRow). r.interfaces) (λ r i. nat_lt i r.number) (λ r i. true) rows refl)

pub supers_are_open : SupersAreOpen
unfolding rows library
supers_are_open =
    All-from_test
    (λ (r : ClassRow). option_map_or (λ s. nat_eq (bit_and s.flags (FINAL + INTERFACE)) 0) (row_numbered r.super_number) true)
    (λ r. IfSome (row_numbered r.super_number) (λ s. bit_and s.flags (FINAL + INTERFACE) ≡ 0))
    (λ r. IfSome-from_test (λ (s : ClassRow). nat_eq (bit_and s.flags (FINAL + INTERFACE)) 0) (λ s. bit_and s.flags (FINAL + INTERFACE) ≡ 0)
    (λ s. eqb-true (bit_and s.flags (FINAL + INTERFACE)) 0) (row_numbered r.super_number))
    rows refl

pub interfaces_are_interfaces : InterfacesAreInterfaces
unfolding rows library
interfaces_are_interfaces =
    All-weaker
    (λ (r : ClassRow). All (λ i. option_map_or (λ s. nat_eq (bit_and s.flags INTERFACE) INTERFACE) (row_numbered i) false ≡ true) r.interfaces)
    (λ r. All (λ i. IsSomeAnd (row_numbered i) (λ s. bit_and s.flags INTERFACE ≡ INTERFACE)) r.interfaces)
    (λ r. All-weaker (λ i. option_map_or (λ s. nat_eq (bit_and s.flags INTERFACE) INTERFACE) (row_numbered i) false ≡ true)
    (λ i. IsSomeAnd (row_numbered i) (λ s. bit_and s.flags INTERFACE ≡ INTERFACE))
    (λ i. IsSomeAnd-from_test (λ (s : ClassRow). nat_eq (bit_and s.flags INTERFACE) INTERFACE) (λ s. bit_and s.flags INTERFACE ≡ INTERFACE)
    (λ s. eqb-true (bit_and s.flags INTERFACE) INTERFACE) (row_numbered i))
    r.interfaces)
    rows
    (All-from_map_within (λ (r : ClassRow). r.interfaces)
    (λ r i. option_map_or (λ s. nat_eq (bit_and s.flags INTERFACE) INTERFACE) (row_numbered i) false) (λ r i. true) rows refl)

pub throwables_come_together : ThrowablesComeTogether
unfolding rows library
throwables_come_together = All-from_map (λ (r : ClassRow). is_throwable r.number) (λ r. r.number == 8 || is_throwable r.super_number) rows refl

pub subclasses_keep_words : SubclassesKeepWords
unfolding library
subclasses_keep_words = All-from_map (λ c. take (length (words_of c.super)) c.words) (λ c. words_of c.super) library refl

pub methods_are_distinct : MethodsAreDistinct
unfolding rows library
methods_are_distinct =
    All-from_map_within (λ (r : ClassRow). r.methods) (λ r m. method_with r.methods m.name m.descriptor) (λ r m. Some m) rows refl

pub methods_are_few : MethodsAreFew
unfolding rows library
methods_are_few =
    All-from_test (λ (r : ClassRow). nat_lt (length r.methods) (2 ^ 16)) (λ r. length r.methods < 2 ^ 16)
    (λ r. ltb-true (length r.methods) (2 ^ 16)) rows refl

pub natives_are_own : NativesAreOwn
unfolding library
natives_are_own =
    All-from_map_within (λ (c : Class). c.methods) (λ c m. member_of m.native) (λ c m. member_at c m) library refl

pub constants_are_numbers : ConstantsAreNumbers
unfolding library
constants_are_numbers = All-from_map (λ (p : List ℕ × ℕ). number_of p.0) (λ p. p.1) number_constants refl

-- each native stands for a method, case by case
pub native_at-member_of : (n : Native) → native_at (member_of n) ≡ Some n
unfolding rows library
native_at-member_of ObjectInit = refl
native_at-member_of ObjectWait = refl
native_at-member_of ObjectNotify = refl
native_at-member_of ObjectNotifyAll = refl
native_at-member_of ObjectEquals = refl
native_at-member_of PrintlnEmpty = refl
native_at-member_of PrintlnInt = refl
native_at-member_of PrintlnLong = refl
native_at-member_of PrintlnChar = refl
native_at-member_of PrintlnBoolean = refl
native_at-member_of PrintlnString = refl
native_at-member_of RunnableRun = refl
native_at-member_of ThreadInit = refl
native_at-member_of ThreadInitTarget = refl
native_at-member_of ThreadStart = refl
native_at-member_of ThreadRun = refl
native_at-member_of ThreadJoin = refl
native_at-member_of ThreadSetPriority = refl
native_at-member_of ThreadGetPriority = refl
native_at-member_of ThreadCurrentThread = refl
native_at-member_of ThreadYield = refl
native_at-member_of ThrowableInit = refl
native_at-member_of ThrowableInitMessage = refl
native_at-member_of ThrowableGetMessage = refl
native_at-member_of StringLength = refl
native_at-member_of StringCharAt = refl
native_at-member_of StringEquals = refl
native_at-member_of StringConcat = refl
native_at-member_of BuilderInit = refl
native_at-member_of BuilderInitText = refl
native_at-member_of AppendInt = refl
native_at-member_of AppendLong = refl
native_at-member_of AppendChar = refl
native_at-member_of AppendBoolean = refl
native_at-member_of AppendString = refl
native_at-member_of BuilderLength = refl
native_at-member_of BuilderToString = refl
