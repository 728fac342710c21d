-- Where a thread is inside a built-in method that reads or makes texts, as data: numbers, and three lists of units.
use Rattle.std.specs.Prelude.{◌≡◌, ℕ, zero, suc, ◌==◌, Option, None, Some, List, [], ◌∷◌, ◌++◌, length, codes, slice_get, bytes_eq, unwrap_or, if◌then◌else◌}
use Rattle.std.specs.Option.{option_map_or}
use Rattle.builtin_world.specs.declared.Native.{Native}
use Rattle.builtin_world.specs.declared.Native.TheVariants.{StringLength, StringCharAt, StringEquals, StringConcat, BuilderInit, BuilderInitText, AppendInt, AppendLong, AppendChar, AppendBoolean, AppendString, BuilderLength, BuilderToString}
use Rattle.builtin_world.specs.declared.number.TheConstants.{STRING, NULL_POINTER_EXCEPTION, INDEX_OUT_OF_BOUNDS_EXCEPTION, NEGATIVE_ARRAY_SIZE_EXCEPTION}
use Rattle.builtin_world.specs.declared.word.TheConstants.{STRING_UNITS, BUILDER_TEXT}
use Rattle.code_decode.specs.declared.code.ClassUnit.{ClassUnit}
use Rattle.instructions.specs.declared.operation.PrimitiveType.TheVariants.{Char}
use Rattle.link_rules.specs.Names.{program_names}
use Rattle.link_rules.specs.Readers.{primitive_array_number}
use Rattle.op_core.specs.declared.Reply.{Reply}
use Rattle.op_core.specs.declared.Reply.TheVariants.{Class, Value, Made, Done}
use Rattle.java_rows.specs.Numbers.{char_of, is_index}
use Rattle.java_rows.specs.Plan.{Plan, want, silently, stuck, asks_class, reads, writes, Use, raises}
use Rattle.java_rows.specs.Units.{Appended, an_int, a_long, a_char, a_boolean, a_string, units_without_reading, literal_units}
use Rattle.java_rows.specs.Texts.{reads_units, reads_array, reads_text, writes_units, makes_string, makes_array, makes_text, is_short, length_word, char_or_raises, same_text, joined, keeps_text, reads_appended}

-- what the method does, with its operands
pub data TextJob : Type 0 where
  -- the length of a String
  lengthens : ℕ → TextJob
  -- the char of a String at an index
  picks : ℕ → ℕ → TextJob
  -- whether another object is a String with the same text
  matches : ℕ → ℕ → TextJob
  -- a String and another one joined
  joins_both : ℕ → ℕ → TextJob
  -- a builder begins with the text of a String
  copies : ℕ → ℕ → TextJob
  -- to a builder something is appended
  extends : ℕ → Appended → TextJob
  -- the length of a builder's text
  measures : ℕ → TextJob
  -- a builder's text as a String
  tells : ℕ → TextJob

-- of two texts that are read
pub data Part : Type 0 where
  first : Part
  second : Part

-- what comes after the first text in the one that is made
pub data Tail : Type 0 where
  no_tail : Tail
  -- the second text
  read_tail : Tail
  -- the text of a value
  value_tail : Appended → Tail

pub data TextStage : Type 0 where
  -- the class of the other object is asked
  asks_other : TextStage
  -- the builder's String is read
  asks_builder : TextStage
  -- the word of a String is read
  asks_word : Part → ℕ → TextStage
  -- the number of a literal is asked
  asks_number : Part → ℕ → TextStage
  -- the length of a char array is asked
  asks_size : Part → ℕ → TextStage
  -- a silent step takes the room for this many units
  takes_room : Part → ℕ → ℕ → TextStage
  -- the unit of a char array at a place is read, and then this many more
  asks_unit : Part → ℕ → ℕ → ℕ → TextStage
  -- a silent step takes the room for the new text
  makes_room : Tail → TextStage
  -- a char array of this class is made
  asks_array : ℕ → TextStage
  -- the unit at a place of the char array is written, and then this many more
  asks_write : ℕ → ℕ → ℕ → TextStage
  -- the String of a char array is made
  asks_string : ℕ → TextStage
  -- its word is written: a char array, a String
  asks_bind : ℕ → ℕ → TextStage
  -- the builder gets a String
  asks_keep : ℕ → TextStage

-- ---- which plan a stage stands for; a and b are the texts read so far, m is the text that is made

abbrev pub after_first : List ClassUnit → Use → TextJob → List ℕ → Plan
after_first us u (lengthens s) = λ a. u.value (length_word a ∷ [])
after_first us u (picks s i) = char_or_raises u i
after_first us u (matches s other) = λ a. reads_text us other (same_text u a)
after_first us u (joins_both s other) = λ a. reads_text us other (joined us s u a)
after_first us u (copies b s) = λ a. keeps_text us b a u []
after_first us u (extends b x) = λ a. reads_appended us x (λ c. keeps_text us b (a ++ c) u (b ∷ []))
after_first us u (measures b) = λ a. u.value (length_word a ∷ [])
after_first us u (tells b) = λ a. makes_text us u a (λ s. u.value (s ∷ []))

abbrev pub after_second : List ClassUnit → Use → TextJob → List ℕ → List ℕ → Plan
after_second us u (matches s other) a = same_text u a
after_second us u (joins_both s other) a = joined us s u a
after_second us u (extends b x) a = λ c. keeps_text us b (a ++ c) u (b ∷ [])
after_second us u _ a = λ c. stuck

abbrev pub after_part : List ClassUnit → Use → TextJob → Part → List ℕ → List ℕ → Plan
after_part us u job first a = after_first us u job
after_part us u job second a = after_second us u job a

abbrev pub after_made : Use → TextJob → ℕ → Plan
after_made u (joins_both s other) = λ r. u.value (r ∷ [])
after_made u (copies b s) = λ r. writes b BUILDER_TEXT r (u.value [])
after_made u (extends b x) = λ r. writes b BUILDER_TEXT r (u.value (b ∷ []))
after_made u (tells b) = λ r. u.value (r ∷ [])
after_made u _ = λ r. stuck

-- the builder gets its new String
abbrev pub keep_plan : Use → TextJob → ℕ → Plan
keep_plan u (copies b s) r = writes b BUILDER_TEXT r (u.value [])
keep_plan u (extends b x) r = writes b BUILDER_TEXT r (u.value (b ∷ []))
keep_plan u _ r = stuck

abbrev pub so_far : Part → List ℕ → List ℕ → List ℕ
so_far first a b = a
so_far second a b = b

abbrev pub with_tail : Tail → List ℕ → List ℕ → List ℕ
with_tail no_tail a b = a
with_tail read_tail a b = a ++ b
with_tail (value_tail x) a b = a ++ units_without_reading x

abbrev pub other_plan : List ClassUnit → Use → TextJob → Plan
other_plan us u (matches s other) = asks_class other (λ c n.
    if c == STRING then reads_text us s (after_first us u (matches s other)) else u.value (0 ∷ []))
other_plan us u _ = stuck

abbrev pub builder_plan : List ClassUnit → Use → TextJob → ℕ → Plan
builder_plan us u job b = reads b BUILDER_TEXT (λ s.
    if s == 0 then after_first us u job [] else reads_text us s (after_first us u job))

abbrev pub builder_of : TextJob → Option ℕ
builder_of (copies b s) = Some b
builder_of (extends b x) = Some b
builder_of (measures b) = Some b
builder_of (tells b) = Some b
builder_of _ = None

abbrev pub stage_plan : List ClassUnit → Use → TextJob → TextStage → List ℕ → List ℕ → List ℕ → Plan
stage_plan us u job asks_other a b m = other_plan us u job
stage_plan us u job asks_builder a b m = option_map_or (builder_plan us u job) (builder_of job) stuck
stage_plan us u job (asks_word p s) a b m = reads_text us s (after_part us u job p a)
stage_plan us u job (asks_number p s) a b m = asks_class s (λ c n. after_part us u job p a (literal_units us n))
stage_plan us u job (asks_size p array) a b m = reads_array array (after_part us u job p a)
stage_plan us u job (takes_room p array n) a b m = silently (reads_units array 0 n [] (after_part us u job p a))
stage_plan us u job (asks_unit p array i n) a b m =
    reads_units array i (suc n) (so_far p a b) (after_part us u job p a)
stage_plan us u job (makes_room tail) a b m = makes_text us u (with_tail tail a b) (after_made u job)
stage_plan us u job (asks_array class) a b m = makes_array class m (after_made u job)
stage_plan us u job (asks_write array i n) a b m =
    writes_units array m i (suc n) (makes_string array (after_made u job))
stage_plan us u job (asks_string array) a b m = makes_string array (after_made u job)
stage_plan us u job (asks_bind array s) a b m = writes s STRING_UNITS array (after_made u job s)
stage_plan us u job (asks_keep s) a b m = keep_plan u job s

-- ---- what a reply or a silent step leads to

pub data TextReached : Type 0 where
  -- a stage, with the three lists of units
  stands_at : TextStage → List ℕ → List ℕ → List ℕ → TextReached
  -- the method is complete, with the words of its value
  answers : List ℕ → TextReached
  -- a new exception of a class is thrown
  breaks_by : ℕ → TextReached
  lost : TextReached

abbrev pub reached_plan : List ClassUnit → Use → TextJob → TextReached → Plan
reached_plan us u job (stands_at st a b m) = stage_plan us u job st a b m
reached_plan us u job (answers words) = u.value words
reached_plan us u job (breaks_by c) = raises u c
reached_plan us u job lost = stuck

abbrev pub appended_next : Appended → List ℕ → TextReached
appended_next (a_string s) a =
    if s == 0 then stands_at (makes_room (value_tail (a_string s))) a [] [] else stands_at (asks_word second s) a [] []
appended_next (an_int n) a = stands_at (makes_room (value_tail (an_int n))) a [] []
appended_next (a_long low high) a = stands_at (makes_room (value_tail (a_long low high))) a [] []
appended_next (a_char c) a = stands_at (makes_room (value_tail (a_char c))) a [] []
appended_next (a_boolean x) a = stands_at (makes_room (value_tail (a_boolean x))) a [] []

abbrev pub first_next : TextJob → List ℕ → TextReached
first_next (lengthens s) a = answers (length_word a ∷ [])
first_next (picks s i) a =
    if is_index i (length a) then answers (unwrap_or (slice_get a i) 0 ∷ []) else breaks_by INDEX_OUT_OF_BOUNDS_EXCEPTION
first_next (matches s other) a = stands_at (asks_word second other) a [] []
first_next (joins_both s other) a = stands_at (asks_word second other) a [] []
first_next (copies b s) a = stands_at (makes_room no_tail) a [] []
first_next (extends b x) a = appended_next x a
first_next (measures b) a = answers (length_word a ∷ [])
first_next (tells b) a = stands_at (makes_room no_tail) a [] []

abbrev pub joined_next : ℕ → List ℕ → List ℕ → TextReached
joined_next s a [] = answers (s ∷ [])
joined_next s a (x ∷ b) = stands_at (makes_room read_tail) a (x ∷ b) []

abbrev pub second_next : TextJob → List ℕ → List ℕ → TextReached
second_next (matches s other) a b = answers ((if bytes_eq a b then 1 else 0) ∷ [])
second_next (joins_both s other) a b = joined_next s a b
second_next (extends builder x) a b = stands_at (makes_room read_tail) a b []
second_next _ a b = lost

-- a part is whole
abbrev pub part_next : TextJob → Part → List ℕ → List ℕ → TextReached
part_next job first a text = first_next job text
part_next job second a text = second_next job a text

-- this many units are left to be read from a place on
abbrev pub units_next : TextJob → Part → ℕ → ℕ → ℕ → List ℕ → List ℕ → TextReached
units_next job p array i zero a text = part_next job p a text
units_next job first array i (suc n) a text = stands_at (asks_unit first array i n) text [] []
units_next job second array i (suc n) a text = stands_at (asks_unit second array i n) a text []

-- and to be written
abbrev pub written_next : ℕ → ℕ → ℕ → List ℕ → List ℕ → List ℕ → TextReached
written_next array i zero a b m = stands_at (asks_string array) a b m
written_next array i (suc n) a b m = stands_at (asks_write array i n) a b m

abbrev pub bound_next : TextJob → ℕ → List ℕ → List ℕ → List ℕ → TextReached
bound_next (joins_both s other) r a b m = answers (r ∷ [])
bound_next (tells builder) r a b m = answers (r ∷ [])
bound_next (copies builder s) r a b m = stands_at (asks_keep r) a b m
bound_next (extends builder x) r a b m = stands_at (asks_keep r) a b m
bound_next _ r a b m = lost

abbrev pub kept_next : TextJob → TextReached
kept_next (copies builder s) = answers []
kept_next (extends builder x) = answers (builder ∷ [])
kept_next _ = lost

abbrev pub other_next : TextJob → ℕ → TextReached
other_next (matches s other) c = if c == STRING then stands_at (asks_word first s) [] [] [] else answers (0 ∷ [])
other_next _ c = lost

abbrev pub builder_next : TextJob → ℕ → TextReached
builder_next job s = if s == 0 then first_next job [] else stands_at (asks_word first s) [] [] []

-- at the reply to the operation that a stage asks for
abbrev pub text_next : List ClassUnit → TextJob → TextStage → List ℕ → List ℕ → List ℕ → Reply → TextReached
text_next us job asks_other a b m (Class c n) = other_next job c
text_next us job asks_builder a b m (Value s) = option_map_or (λ builder. builder_next job s) (builder_of job) lost
text_next us job (asks_word p s) a b m (Value array) =
    if array == 0 then stands_at (asks_number p s) a b m else stands_at (asks_size p array) a b m
text_next us job (asks_number p s) a b m (Class c n) = part_next job p a (literal_units us n)
text_next us job (asks_size p array) a b m (Class c n) = stands_at (takes_room p array n) a b m
text_next us job (asks_unit p array i n) a b m (Value v) =
    units_next job p array (suc i) n a (so_far p a b ++ char_of v ∷ [])
text_next us job (asks_array class) a b m (Made array) = written_next array 0 (length m) a b m
text_next us job (asks_write array i n) a b m Done = written_next array (suc i) n a b m
text_next us job (asks_string array) a b m (Made s) = stands_at (asks_bind array s) a b m
text_next us job (asks_bind array s) a b m Done = bound_next job s a b m
text_next us job (asks_keep s) a b m Done = kept_next job
text_next us job _ a b m _ = lost

-- at a silent step
abbrev pub text_silent : List ClassUnit → TextJob → TextStage → List ℕ → List ℕ → List ℕ → TextReached
text_silent us job (takes_room p array n) a b m = units_next job p array 0 n a []
text_silent us job (makes_room tail) a b m = if is_short (with_tail tail a b)
    then option_map_or (λ class. stands_at (asks_array class) a b (with_tail tail a b)) (primitive_array_number (program_names us) Char) lost
    else breaks_by NEGATIVE_ARRAY_SIZE_EXCEPTION
text_silent us job _ a b m = lost

-- ---- how a method begins

abbrev pub start_of : TextJob → TextStage
start_of (lengthens s) = asks_word first s
start_of (picks s i) = asks_word first s
start_of (matches s other) = asks_other
start_of (joins_both s other) = asks_word first s
start_of (copies b s) = asks_word first s
start_of (extends b x) = asks_builder
start_of (measures b) = asks_builder
start_of (tells b) = asks_builder

pub data TextStart : Type 0 where
  -- one silent step, with the words of the value
  is_silent : List ℕ → TextStart
  -- a new exception of a class is thrown at once
  fails_at_once : ℕ → TextStart
  starts : TextJob → TextStart
  -- it is no such method, or has other arguments
  no_start : TextStart

abbrev pub start_plan : List ClassUnit → Use → TextStart → Plan
start_plan us u (is_silent words) = silently (u.value words)
start_plan us u (fails_at_once c) = raises u c
start_plan us u (starts job) = stage_plan us u job (start_of job) [] [] []
start_plan us u no_start = stuck

abbrev pub text_start : Native → List ℕ → TextStart
text_start StringLength (s ∷ []) = starts (lengthens s)
text_start StringCharAt (s ∷ i ∷ []) = starts (picks s i)
text_start StringEquals (s ∷ other ∷ []) = if other == 0 then is_silent (0 ∷ []) else starts (matches s other)
text_start StringConcat (s ∷ other ∷ []) =
    if other == 0 then fails_at_once NULL_POINTER_EXCEPTION else starts (joins_both s other)
text_start BuilderInit (b ∷ []) = is_silent []
text_start BuilderInitText (b ∷ s ∷ []) =
    if s == 0 then fails_at_once NULL_POINTER_EXCEPTION else starts (copies b s)
text_start AppendInt (b ∷ n ∷ []) = starts (extends b (an_int n))
text_start AppendLong (b ∷ low ∷ high ∷ []) = starts (extends b (a_long low high))
text_start AppendChar (b ∷ c ∷ []) = starts (extends b (a_char c))
text_start AppendBoolean (b ∷ x ∷ []) = starts (extends b (a_boolean x))
text_start AppendString (b ∷ s ∷ []) = starts (extends b (a_string s))
text_start BuilderLength (b ∷ []) = starts (measures b)
text_start BuilderToString (b ∷ []) = starts (tells b)
text_start _ _ = no_start
