-- What the methods of String and StringBuilder do (the Java SE 8 API). A String of the program has a char array, its one
-- word; of a literal that word is null, and its length is the number of its text.
use Rattle.std.specs.Prelude.{ℕ, zero, suc, ◌==◌, ◌%◌, ◌^◌, Bool, nat_lt, Option, None, Some, List, [], ◌∷◌, ◌++◌, length, slice_get, bytes_eq, unwrap_or, if◌then◌else◌}
use Rattle.std.specs.Option.{option_map_or}
use Rattle.builtin_world.specs.declared.number.TheConstants.{STRING, NULL_POINTER_EXCEPTION, INDEX_OUT_OF_BOUNDS_EXCEPTION, NEGATIVE_ARRAY_SIZE_EXCEPTION}
use Rattle.builtin_world.specs.declared.word.TheConstants.{STRING_UNITS, BUILDER_TEXT}
use Rattle.code_decode.specs.declared.code.ClassUnit.{ClassUnit}
use Rattle.instructions.specs.declared.operation.PrimitiveType.TheVariants.{Char}
use Rattle.link_rules.specs.Names.{program_names}
use Rattle.link_rules.specs.Readers.{primitive_array_number}
use Rattle.java_rows.specs.Numbers.{char_of, is_index}
use Rattle.java_rows.specs.Plan.{Plan, silently, stuck, asks_class, reads, writes, makes, Use, raises}
use Rattle.java_rows.specs.Units.{Appended, an_int, a_long, a_char, a_boolean, a_string, units_without_reading, literal_units}

-- ---- a text is read: the given number of units from a place of a char array on, after those that were read

abbrev pub reads_units : ℕ → ℕ → ℕ → List ℕ → (List ℕ → Plan) → Plan
reads_units array i zero before k = k before
reads_units array i (suc n) before k =
    reads array i (λ v. reads_units array (suc i) n (before ++ char_of v ∷ []) k)

-- one silent step takes the room
abbrev pub reads_array : ℕ → (List ℕ → Plan) → Plan
reads_array array k = asks_class array (λ c n. silently (reads_units array 0 n [] k))

abbrev pub reads_text : List ClassUnit → ℕ → (List ℕ → Plan) → Plan
reads_text us s k = reads s STRING_UNITS (λ array.
    if array == 0 then asks_class s (λ c n. k (literal_units us n)) else reads_array array k)

-- ---- a text is made: one silent step takes the room. A length of 2^31 or more would be negative as an int, so concat
-- throws a NegativeArraySizeException; so does append here, since the OutOfMemoryError that Java throws has no class. The
-- limit of the heap is met long before.

abbrev pub is_short : List ℕ → Bool
is_short units = nat_lt (length units) (2 ^ 31)

-- the given number of the units from a place on are written
abbrev pub writes_units : ℕ → List ℕ → ℕ → ℕ → Plan → Plan
writes_units array units i zero k = k
writes_units array units i (suc n) k =
    writes array i (unwrap_or (slice_get units i) 0) (writes_units array units (suc i) n k)

-- a new String of a char array
abbrev pub makes_string : ℕ → (ℕ → Plan) → Plan
makes_string array k = makes STRING 0 (λ s. writes s STRING_UNITS array (k s))

abbrev pub makes_array : ℕ → List ℕ → (ℕ → Plan) → Plan
makes_array class units k = makes class (length units) (λ array.
    writes_units array units 0 (length units) (makes_string array k))

abbrev pub makes_text : List ClassUnit → Use → List ℕ → (ℕ → Plan) → Plan
makes_text us u units k = silently (if is_short units
    then option_map_or (λ class. makes_array class units k) (primitive_array_number (program_names us) Char) stuck
    else raises u NEGATIVE_ARRAY_SIZE_EXCEPTION)

-- ---- String

-- the length as an int
abbrev pub length_word : List ℕ → ℕ
length_word units = length units % 2 ^ 32

abbrev pub gets_length : List ClassUnit → ℕ → Use → Plan
gets_length us s u = reads_text us s (λ units. u.value (length_word units ∷ []))

abbrev pub char_or_raises : Use → ℕ → List ℕ → Plan
char_or_raises u i units =
    if is_index i (length units) then u.value (unwrap_or (slice_get units i) 0 ∷ [])
    else raises u INDEX_OUT_OF_BOUNDS_EXCEPTION

abbrev pub gets_char : List ClassUnit → ℕ → ℕ → Use → Plan
gets_char us s i u = reads_text us s (char_or_raises u i)

abbrev pub same_text : Use → List ℕ → List ℕ → Plan
same_text u a b = u.value ((if bytes_eq a b then 1 else 0) ∷ [])

abbrev pub compares : List ClassUnit → ℕ → ℕ → Use → Plan
compares us s other u =
    if other == 0 then silently (u.value (0 ∷ []))
    else asks_class other (λ c n.
    if c == STRING then reads_text us s (λ a. reads_text us other (same_text u a)) else u.value (0 ∷ []))

-- an argument without units gives the receiver
abbrev pub joined : List ClassUnit → ℕ → Use → List ℕ → List ℕ → Plan
joined us s u a [] = u.value (s ∷ [])
joined us s u a (x ∷ b) = makes_text us u (a ++ x ∷ b) (λ r. u.value (r ∷ []))

abbrev pub joins : List ClassUnit → ℕ → ℕ → Use → Plan
joins us s other u =
    if other == 0 then raises u NULL_POINTER_EXCEPTION
    else reads_text us s (λ a. reads_text us other (joined us s u a))

-- ---- StringBuilder

-- the text so far, which is empty at first
abbrev pub reads_so_far : List ClassUnit → ℕ → (List ℕ → Plan) → Plan
reads_so_far us b k = reads b BUILDER_TEXT (λ s. if s == 0 then k [] else reads_text us s k)

-- the builder gets a new text, and the call has this value
abbrev pub keeps_text : List ClassUnit → ℕ → List ℕ → Use → List ℕ → Plan
keeps_text us b units u value = makes_text us u units (λ s. writes b BUILDER_TEXT s (u.value value))

abbrev pub copies_text : List ClassUnit → ℕ → ℕ → Use → Plan
copies_text us b s u =
    if s == 0 then raises u NULL_POINTER_EXCEPTION else reads_text us s (λ units. keeps_text us b units u [])

abbrev pub reads_appended : List ClassUnit → Appended → (List ℕ → Plan) → Plan
reads_appended us (a_string s) k = if s == 0 then k (units_without_reading (a_string s)) else reads_text us s k
reads_appended us (an_int n) k = k (units_without_reading (an_int n))
reads_appended us (a_long low high) k = k (units_without_reading (a_long low high))
reads_appended us (a_char c) k = k (units_without_reading (a_char c))
reads_appended us (a_boolean b) k = k (units_without_reading (a_boolean b))

abbrev pub appends : List ClassUnit → ℕ → Appended → Use → Plan
appends us b x u = reads_so_far us b (λ a. reads_appended us x (λ c. keeps_text us b (a ++ c) u (b ∷ [])))

abbrev pub gets_builder_length : List ClassUnit → ℕ → Use → Plan
gets_builder_length us b u = reads_so_far us b (λ units. u.value (length_word units ∷ []))

abbrev pub tells_text : List ClassUnit → ℕ → Use → Plan
tells_text us b u = reads_so_far us b (λ units. makes_text us u units (λ s. u.value (s ∷ [])))
