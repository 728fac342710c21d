-- The objects that are there as a program begins.
use Rattle.std.specs.Prelude.{ℕ, ◌+◌, ◌*◌, ◌%◌, ◌/◌, ◌^◌, ◌-◌, Option, Some, List, [], ◌∷◌, ◌++◌, length, map, flat_map, filter, sum_by, slice_get, codes, bytes_eq, unwrap_or, option_and_then, if◌then◌else◌}
use Rattle.std.specs.List.{range_with_len}
use Rattle.std.specs.Option.{option_map_or}
use Rattle.std.specs.Int.{w8, w16, w32, w64, cast_signed, cast_unsigned}
use Rattle.builtin_world.specs.declared.number.TheConstants.{CLASS, STRING, PRINT_STREAM, THREAD}
use Rattle.class_walk.specs.declared.class.Constant.{Constant}
use Rattle.class_walk.specs.declared.class.Constant.TheVariants.{Integer, Long, Str}
use Rattle.class_read.specs.declared.class_file.Member.{Member}
use Rattle.code_decode.specs.declared.code.ClassUnit.{ClassUnit}
use Rattle.access_flags.specs.declared.TheConstants.{STATIC}
use Rattle.access_flags.specs.Flags.{has}
use Rattle.link_rules.specs.Classes.{NamedClass, member_of_file, unit_numbered, utf8_at}
use Rattle.link_rules.specs.Arrays.{arguments_array}
use Rattle.link_rules.specs.Strings.{literal_text}
use Rattle.link_rules.specs.Names.{ProgramNames, class_count, array_number, string_number}
use Rattle.link_rules.specs.Layout.{is_long, static_words}

-- ---- where they lie: an object takes its header, its monitor and its words, and place 0 is no object

abbrev pub class_object_size : List NamedClass → ℕ → ℕ
class_object_size cs c = 2 + static_words cs c

-- the class objects by number
abbrev pub class_object : ProgramNames → ℕ → ℕ
class_object p c = 1 + sum_by (class_object_size p.classes) (range_with_len 1 (c - 1))

-- after them System.out, the Thread of `main`, its arguments, and the string literals by number
abbrev pub system_out_object : ProgramNames → ℕ
system_out_object p = class_object p (class_count p + 1)

abbrev pub main_thread_object : ProgramNames → ℕ
main_thread_object p = system_out_object p + 2

-- a Thread has three words: its priority, its thread and its target
abbrev pub arguments_object : ProgramNames → ℕ
arguments_object p = main_thread_object p + 5

-- a String has one word, the array of its units, which is null in a literal
abbrev pub string_object : ProgramNames → ℕ → ℕ
string_object p n = arguments_object p + 2 + 3 * n

-- the first place after them
abbrev pub first_free : ProgramNames → ℕ
first_free p = string_object p (length p.strings)

-- ---- what they are

pub record ObjectAtStart : Type 0 where
  pub reference : ℕ
  pub class : ℕ
  -- of an array how many elements it has, of a String its number
  pub length : ℕ
  pub words : List ℕ
  -- the number of the thread that it has started, or 0
  pub started : ℕ

abbrev pub object_at_start : ℕ → ℕ → ℕ → List ℕ → ObjectAtStart
object_at_start r c n words = record { reference = r; class = c; length = n; words = words; started = 0 }

-- an int as a store into a field of this descriptor leaves it: its low bit, byte, char or short, widened again
abbrev pub stored_word : List ℕ → ℕ → ℕ
stored_word descriptor word =
    if bytes_eq descriptor (codes "Z") then word % 2
    else if bytes_eq descriptor (codes "B") then cast_unsigned w32 (cast_signed w8 (word % 2 ^ 8))
    else if bytes_eq descriptor (codes "C") then word % 2 ^ 16
    else if bytes_eq descriptor (codes "S") then cast_unsigned w32 (cast_signed w16 (word % 2 ^ 16))
    else word

abbrev pub two_words : ℕ → List ℕ
two_words n = n % 2 ^ 32 ∷ n / 2 ^ 32 ∷ []

-- the word that a constant is in a field of this descriptor, and the number that it is in a long one (JVMS 4.7.2)
abbrev pub constant_word : ProgramNames → List Constant → List ℕ → Option Constant → ℕ
constant_word p pool descriptor (Some (Integer n)) = stored_word descriptor (cast_unsigned w32 n)
constant_word p pool descriptor (Some (Str text)) = string_object p (string_number p (literal_text (utf8_at pool text)))
constant_word p pool descriptor _ = 0

abbrev pub constant_long : Option Constant → ℕ
constant_long (Some (Long n)) = cast_unsigned w64 n
constant_long _ = 0

abbrev pub first_constant : List Constant → Member → Option Constant
first_constant pool m = option_and_then (slice_get pool) m.constant

-- the first words of a static field: of its ConstantValue where it has one, and else 0 or null; of a long the low half
-- first
abbrev pub first_words : ProgramNames → List Constant → Member → List ℕ
first_words p pool m =
    if is_long (member_of_file pool m) then two_words (constant_long (first_constant pool m))
    else constant_word p pool (utf8_at pool m.descriptor) (first_constant pool m) ∷ []

abbrev pub class_words_of_unit : ProgramNames → ClassUnit → List ℕ
class_words_of_unit p u =
    flat_map (first_words p u.file.pool) (filter (λ (m : Member). has m.flags STATIC) u.file.fields)

abbrev pub class_object_at_start : ProgramNames → List ClassUnit → ℕ → ObjectAtStart
class_object_at_start p us c =
    object_at_start (class_object p c) CLASS 0 (option_map_or (class_words_of_unit p) (unit_numbered us c) [])

-- the Thread of `main` has the normal priority and no target, and is started: it is thread 1
abbrev pub main_thread_at_start : ProgramNames → ObjectAtStart
main_thread_at_start p =
    record { reference = main_thread_object p; class = THREAD; length = 0; words = 5 ∷ 0 ∷ 0 ∷ []; started = 1 }

abbrev pub string_at_start : ProgramNames → ℕ → ObjectAtStart
string_at_start p n = object_at_start (string_object p n) STRING n (0 ∷ [])

abbrev pub arguments_class : ProgramNames → ℕ
arguments_class p = unwrap_or (array_number p arguments_array) 0

-- all of them, in the order in which they lie
abbrev pub objects_at_start : ProgramNames → List ClassUnit → List ObjectAtStart
objects_at_start p us =
    map (class_object_at_start p us) (range_with_len 1 (class_count p))
    ++ object_at_start (system_out_object p) PRINT_STREAM 0 []
    ∷ main_thread_at_start p
    ∷ object_at_start (arguments_object p) (arguments_class p) 0 []
    ∷ map (string_at_start p) (range_with_len 0 (length p.strings))
