-- Fields, arrays, casts and monitors (JVMS 2.11.5, 2.11.10, 6.5). Of a long the low half comes first.
use Rattle.std.specs.Prelude.{ℕ, suc, ◌*◌, ◌%◌, ◌^◌, ◌==◌, Option, None, Some, List, [], ◌∷◌, ◌++◌, nat_lt, if◌then◌else◌}
use Rattle.builtin_world.specs.declared.number.TheConstants.{ARRAY_INDEX_OUT_OF_BOUNDS_EXCEPTION, NEGATIVE_ARRAY_SIZE_EXCEPTION, ARRAY_STORE_EXCEPTION, CLASS_CAST_EXCEPTION, ILLEGAL_MONITOR_STATE_EXCEPTION}
use Rattle.code_decode.specs.declared.code.ClassUnit.{ClassUnit}
use Rattle.instructions.specs.declared.operation.ElementKind.{ElementKind}
use Rattle.instructions.specs.declared.operation.ElementKind.TheVariants as elements
use Rattle.link_types.specs.declared.operands.FieldOperand.{FieldOperand}
use Rattle.link_types.specs.declared.types.ValueType.{ValueType}
use Rattle.link_types.specs.declared.types.ValueType.TheVariants as values
use Rattle.java_rows.specs.Numbers.{byte_of, char_of, short_of, kept, is_index}
use Rattle.java_rows.specs.Plan.{Frame, Plan, silently, stuck, asks_class, reads, writes, makes, enters, exits, completes, fails, unless_null}
use Rattle.java_rows.specs.Program.{is_subclass, takes_element, is_boolean_array}

-- ---- the words of a value

abbrev pub reads_word : ℕ → ℕ → (List ℕ → Plan) → Plan
reads_word r i k = reads r i (λ v. k (v ∷ []))

abbrev pub reads_long : ℕ → ℕ → (List ℕ → Plan) → Plan
reads_long r i k = reads r i (λ low. reads r (suc i) (λ high. k (high ∷ low ∷ [])))

abbrev pub reads_value : ValueType → ℕ → ℕ → (List ℕ → Plan) → Plan
reads_value values.Long r i k = reads_long r i k
reads_value _ r i k = reads_word r i k

abbrev pub writes_long : ℕ → ℕ → ℕ → ℕ → Plan → Plan
writes_long r i low high k = writes r i low (writes r (suc i) high k)

-- ---- fields of objects (JVMS 6.5 getfield, putfield)

abbrev pub gets_field : Frame → Option FieldOperand → List ℕ → Plan
gets_field f (Some field) (r ∷ rest) =
    unless_null f r (reads_value field.kind r field.place (λ words. completes f (words ++ rest)))
gets_field f _ _ = stuck

abbrev pub puts_word : Frame → ValueType → ℕ → List ℕ → Plan
puts_word f kind place (v ∷ r ∷ rest) = unless_null f r (writes r place (kept kind v) (completes f rest))
puts_word f kind place _ = stuck

abbrev pub puts_long : Frame → ℕ → List ℕ → Plan
puts_long f place (high ∷ low ∷ r ∷ rest) = unless_null f r (writes_long r place low high (completes f rest))
puts_long f place _ = stuck

abbrev pub puts_value : Frame → ValueType → ℕ → List ℕ → Plan
puts_value f values.Long place stack = puts_long f place stack
puts_value f kind place stack = puts_word f kind place stack

abbrev pub puts_field : Frame → Option FieldOperand → List ℕ → Plan
puts_field f (Some field) stack = puts_value f field.kind field.place stack
puts_field f None stack = stuck

-- ---- elements of arrays (JVMS 6.5 iaload, lastore)

-- after the null check, the class of the array and the check of the index
abbrev pub at_element : Frame → ℕ → ℕ → (ℕ → Plan) → Plan
at_element f r i k =
    unless_null f r (asks_class r (λ c n. if is_index i n then k c else fails f ARRAY_INDEX_OUT_OF_BOUNDS_EXCEPTION))

abbrev pub reads_element : ElementKind → ℕ → ℕ → (List ℕ → Plan) → Plan
reads_element elements.Long r i k = reads_long r (2 * i) k
reads_element _ r i k = reads_word r i k

abbrev pub loads_element : Frame → ElementKind → List ℕ → Plan
loads_element f kind (i ∷ r ∷ rest) =
    at_element f r i (λ c. reads_element kind r i (λ words. completes f (words ++ rest)))
loads_element f kind _ = stuck

-- the word that an array of a class keeps of an int; arrays of byte and of boolean have one instruction
abbrev pub kept_element : List ClassUnit → ElementKind → ℕ → ℕ → ℕ
kept_element us elements.ByteOrBoolean c v = if is_boolean_array us c then v % 2 else byte_of v
kept_element us elements.Char c v = char_of v
kept_element us elements.Short c v = short_of v
kept_element us _ c v = v

abbrev pub stores_word : List ClassUnit → Frame → ElementKind → List ℕ → Plan
stores_word us f kind (v ∷ i ∷ r ∷ rest) =
    at_element f r i (λ c. writes r i (kept_element us kind c v) (completes f rest))
stores_word us f kind _ = stuck

abbrev pub stores_long : Frame → List ℕ → Plan
stores_long f (high ∷ low ∷ i ∷ r ∷ rest) =
    at_element f r i (λ c. writes_long r (2 * i) low high (completes f rest))
stores_long f _ = stuck

-- a reference that isn't null must be one that the elements' class takes (JVMS 6.5 aastore)
abbrev pub stores_checked : List ClassUnit → Frame → ℕ → ℕ → Plan → Plan
stores_checked us f v c k =
    if v == 0 then k
    else asks_class v (λ d n. if takes_element us c d then k else fails f ARRAY_STORE_EXCEPTION)

abbrev pub stores_reference : List ClassUnit → Frame → List ℕ → Plan
stores_reference us f (v ∷ i ∷ r ∷ rest) =
    at_element f r i (λ c. stores_checked us f v c (writes r i v (completes f rest)))
stores_reference us f _ = stuck

abbrev pub stores_element : List ClassUnit → Frame → ElementKind → List ℕ → Plan
stores_element us f elements.Long stack = stores_long f stack
stores_element us f elements.Reference stack = stores_reference us f stack
stores_element us f kind stack = stores_word us f kind stack

abbrev pub gets_length : Frame → List ℕ → Plan
gets_length f (r ∷ rest) = unless_null f r (asks_class r (λ c n. completes f (n ∷ rest)))
gets_length f _ = stuck

-- a new array of a class, unless its length is below 0 (JVMS 6.5 newarray, anewarray)
abbrev pub makes_array : Frame → Option ℕ → List ℕ → Plan
makes_array f (Some c) (n ∷ rest) =
    if nat_lt n (2 ^ 31) then makes c n (λ r. completes f (r ∷ rest)) else fails f NEGATIVE_ARRAY_SIZE_EXCEPTION
makes_array f _ _ = stuck

-- ---- the class of an object (JVMS 6.5 checkcast, instanceof); with null no operation is wanted

abbrev pub casts : List ClassUnit → Frame → Option ℕ → List ℕ → Plan
casts us f (Some d) (r ∷ rest) =
    if r == 0 then silently (completes f (r ∷ rest))
    else asks_class r (λ c n. if is_subclass us c d then completes f (r ∷ rest) else fails f CLASS_CAST_EXCEPTION)
casts us f _ _ = stuck

abbrev pub tests_class : List ClassUnit → Frame → Option ℕ → List ℕ → Plan
tests_class us f (Some d) (r ∷ rest) =
    if r == 0 then silently (completes f (0 ∷ rest))
    else asks_class r (λ c n. completes f ((if is_subclass us c d then 1 else 0) ∷ rest))
tests_class us f _ _ = stuck

-- ---- monitors (JVMS 6.5 monitorenter, monitorexit)

abbrev pub enters_monitor : Frame → List ℕ → Plan
enters_monitor f (r ∷ rest) = unless_null f r (enters r (completes f rest))
enters_monitor f _ = stuck

abbrev pub exits_monitor : Frame → List ℕ → Plan
exits_monitor f (r ∷ rest) = unless_null f r (exits r (completes f rest) (fails f ILLEGAL_MONITOR_STATE_EXCEPTION))
exits_monitor f _ = stuck
