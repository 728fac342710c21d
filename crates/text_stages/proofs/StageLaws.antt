-- Each law by cases.
use Rattle.std.proofs.Common.{◌≡◌, refl, ◌==◌, Bool, true, false, ℕ, zero, suc, List, [], ◌∷◌, ◌++◌, length, ap, sym, ◌∙◌}
use Rattle.std.specs.Prelude.{Option, None, Some, slice_get, unwrap_or, if◌then◌else◌}
use Rattle.std.specs.Option.{option_map_or}
use Rattle.builtin_world.specs.declared.Native.{Native}
use Rattle.builtin_world.specs.declared.Native.TheVariants.{StringLength, StringCharAt, StringEquals, StringConcat, BuilderInit, BuilderInitText, AppendInt, AppendLong, AppendChar, AppendBoolean, AppendString, BuilderLength, BuilderToString}
use Rattle.builtin_world.specs.declared.number.TheConstants.{STRING, NULL_POINTER_EXCEPTION, INDEX_OUT_OF_BOUNDS_EXCEPTION, NEGATIVE_ARRAY_SIZE_EXCEPTION}
use Rattle.builtin_world.specs.declared.word.TheConstants.{STRING_UNITS, BUILDER_TEXT}
use Rattle.code_decode.specs.declared.code.ClassUnit.{ClassUnit}
use Rattle.instructions.specs.declared.operation.PrimitiveType.TheVariants.{Char}
use Rattle.link_rules.specs.Names.{program_names}
use Rattle.link_rules.specs.Readers.{primitive_array_number}
use Rattle.op_core.specs.declared.Reply.{Reply}
use Rattle.op_core.specs.declared.Reply.TheVariants.{Class, Value, Made, Done, NotOwner, Woken, Number, Already, Ready, Bad, Claimed}
use Rattle.java_rows.specs.Numbers.{is_index, char_of}
use Rattle.java_rows.specs.Plan.{Plan, stuck, Use, raises, writes, reads, silently}
use Rattle.java_rows.specs.Units.{Appended, an_int, a_long, a_char, a_boolean, a_string, literal_units, units_without_reading}
use Rattle.java_rows.specs.Texts.{reads_units, reads_array, reads_text, writes_units, makes_string, makes_array, keeps_text, is_short, joined}
use Rattle.text_stages.specs.Stages.{TextJob, lengthens, picks, matches, joins_both, copies, extends, measures, tells, Part, first, second, Tail, no_tail, read_tail, value_tail, TextStage, asks_other, asks_builder, asks_word, asks_number, asks_size, takes_room, asks_unit, makes_room, asks_array, asks_write, asks_string, asks_bind, asks_keep, after_first, after_second, after_part, after_made, keep_plan, so_far, with_tail, stage_plan, TextReached, stands_at, answers, breaks_by, lost, reached_plan, first_next, second_next, part_next, units_next, written_next, bound_next, kept_next, other_next, builder_next, builder_of, builder_plan, joined_next, text_next, text_silent, TextStart, is_silent, fails_at_once, starts, no_start, start_plan, text_start}
use Rattle.text_stages.specs.Laws.{at_reply, at_silent, TextsBegin, RepliesLead, SilentStepsLead}

abbrev IsNoDone : Reply → Type 0
IsNoDone Done = ⊥
IsNoDone _ = Unit {0}

-- ---- choices

chosen_start : (us : List ClassUnit) (u : Use) (x y : TextStart) (c : Bool) → (if c then start_plan us u x else start_plan us u y) ≡ start_plan us u (if c then x else y)
chosen_start us u x y true = refl
chosen_start us u x y false = refl

chosen : (us : List ClassUnit) (u : Use) (job : TextJob) (p q : Plan) (x y : TextReached) (c : Bool) → p ≡ reached_plan us u job x → q ≡ reached_plan us u job y → (if c then p else q) ≡ reached_plan us u job (if c then x else y)
chosen us u job p q x y true hp hq = hp
chosen us u job p q x y false hp hq = hq

-- ---- a text is whole

first_leads : (us : List ClassUnit) (u : Use) (job : TextJob) (a : List ℕ) → after_first us u job a ≡ reached_plan us u job (first_next job a)
first_leads us u (lengthens s) a = refl
first_leads us u (picks s i) a = chosen us u (picks s i) (u.value (unwrap_or (slice_get a i) 0 ∷ [])) (raises u INDEX_OUT_OF_BOUNDS_EXCEPTION) (answers (unwrap_or (slice_get a i) 0 ∷ [])) (breaks_by INDEX_OUT_OF_BOUNDS_EXCEPTION) (is_index i (length a)) refl refl
first_leads us u (matches s other) a = refl
first_leads us u (joins_both s other) a = refl
first_leads us u (copies b s) a = refl
first_leads us u (extends b (an_int n)) a = refl
first_leads us u (extends b (a_long low high)) a = refl
first_leads us u (extends b (a_char c)) a = refl
first_leads us u (extends b (a_boolean x)) a = refl
first_leads us u (extends b (a_string s)) a = chosen us u (extends b (a_string s)) (keeps_text us b (a ++ units_without_reading (a_string s)) u (b ∷ [])) (reads_text us s (λ c. keeps_text us b (a ++ c) u (b ∷ []))) (stands_at (makes_room (value_tail (a_string s))) a [] []) (stands_at (asks_word second s) a [] []) (s == 0) refl refl
first_leads us u (measures b) a = refl
first_leads us u (tells b) a = refl

joined_leads : (us : List ClassUnit) (u : Use) (s other : ℕ) (a b : List ℕ) → joined us s u a b ≡ reached_plan us u (joins_both s other) (joined_next s a b)
joined_leads us u s other a [] = refl
joined_leads us u s other a (x ∷ b) = refl

second_leads : (us : List ClassUnit) (u : Use) (job : TextJob) (a b : List ℕ) → after_second us u job a b ≡ reached_plan us u job (second_next job a b)
second_leads us u (matches s other) a b = refl
second_leads us u (joins_both s other) a b = joined_leads us u s other a b
second_leads us u (extends builder x) a b = refl
second_leads us u (lengthens s) a b = refl
second_leads us u (picks s i) a b = refl
second_leads us u (copies builder s) a b = refl
second_leads us u (measures builder) a b = refl
second_leads us u (tells builder) a b = refl

part_leads : (us : List ClassUnit) (u : Use) (job : TextJob) (p : Part) (a text : List ℕ) → after_part us u job p a text ≡ reached_plan us u job (part_next job p a text)
part_leads us u job first a text = first_leads us u job text
part_leads us u job second a text = second_leads us u job a text

-- ---- units

units_lead : (us : List ClassUnit) (u : Use) (job : TextJob) (p : Part) (array i n : ℕ) (a text : List ℕ) → reads_units array i n text (after_part us u job p a) ≡ reached_plan us u job (units_next job p array i n a text)
units_lead us u job p array i zero a text = part_leads us u job p a text
units_lead us u job first array i (suc n) a text = refl
units_lead us u job second array i (suc n) a text = refl

written_lead : (us : List ClassUnit) (u : Use) (job : TextJob) (array i n : ℕ) (a b m : List ℕ) → writes_units array m i n (makes_string array (after_made u job)) ≡ reached_plan us u job (written_next array i n a b m)
written_lead us u job array i zero a b m = refl
written_lead us u job array i (suc n) a b m = refl

bound_leads : (us : List ClassUnit) (u : Use) (job : TextJob) (r : ℕ) (a b m : List ℕ) → after_made u job r ≡ reached_plan us u job (bound_next job r a b m)
bound_leads us u (joins_both s other) r a b m = refl
bound_leads us u (tells builder) r a b m = refl
bound_leads us u (copies builder s) r a b m = refl
bound_leads us u (extends builder x) r a b m = refl
bound_leads us u (lengthens s) r a b m = refl
bound_leads us u (picks s i) r a b m = refl
bound_leads us u (matches s other) r a b m = refl
bound_leads us u (measures builder) r a b m = refl

kept_leads : (us : List ClassUnit) (u : Use) (job : TextJob) (r : ℕ) → at_reply (keep_plan u job r) Done ≡ reached_plan us u job (kept_next job)
kept_leads us u (copies builder s) r = refl
kept_leads us u (extends builder x) r = refl
kept_leads us u (joins_both s other) r = refl
kept_leads us u (tells builder) r = refl
kept_leads us u (lengthens s) r = refl
kept_leads us u (picks s i) r = refl
kept_leads us u (matches s other) r = refl
kept_leads us u (measures builder) r = refl

copies_lost : (u : Use) (builder s r : ℕ) (reply : Reply) → IsNoDone reply → at_reply (keep_plan u (copies builder s) r) reply ≡ stuck
copies_lost u builder s r Done h = absurd h
copies_lost u builder s r _ h = refl

extends_lost : (u : Use) (builder : ℕ) (x : Appended) (r : ℕ) (reply : Reply) → IsNoDone reply → at_reply (keep_plan u (extends builder x) r) reply ≡ stuck
extends_lost u builder x r Done h = absurd h
extends_lost u builder x r _ h = refl

keep_lost : (u : Use) (job : TextJob) (r : ℕ) (reply : Reply) → IsNoDone reply → at_reply (keep_plan u job r) reply ≡ stuck
keep_lost u (copies builder s) r reply h = copies_lost u builder s r reply h
keep_lost u (extends builder x) r reply h = extends_lost u builder x r reply h
keep_lost u (joins_both s other) r reply h = refl
keep_lost u (tells builder) r reply h = refl
keep_lost u (lengthens s) r reply h = refl
keep_lost u (picks s i) r reply h = refl
keep_lost u (matches s other) r reply h = refl
keep_lost u (measures builder) r reply h = refl

builder_leads : (us : List ClassUnit) (u : Use) (job : TextJob) (builder s : ℕ) → at_reply (builder_plan us u job builder) (Value s) ≡ reached_plan us u job (builder_next job s)
builder_leads us u job builder s = chosen us u job (after_first us u job []) (reads_text us s (after_first us u job)) (first_next job []) (stands_at (asks_word first s) [] [] []) (s == 0) (first_leads us u job []) refl

-- ---- by stages

other_leads : (us : List ClassUnit) (u : Use) (job : TextJob) (reply : Reply) (a b m : List ℕ) → at_reply (stage_plan us u job asks_other a b m) reply ≡ reached_plan us u job (text_next us job asks_other a b m reply)
other_leads us u (matches s other) (Class c n) a b m = chosen us u (matches s other) (reads_text us s (after_first us u (matches s other))) (u.value (0 ∷ [])) (stands_at (asks_word first s) [] [] []) (answers (0 ∷ [])) (c == STRING) refl refl
other_leads us u (joins_both s other) (Class c n) a b m = refl
other_leads us u (tells builder) (Class c n) a b m = refl
other_leads us u (lengthens s) (Class c n) a b m = refl
other_leads us u (picks s i) (Class c n) a b m = refl
other_leads us u (copies builder s) (Class c n) a b m = refl
other_leads us u (extends builder x) (Class c n) a b m = refl
other_leads us u (measures builder) (Class c n) a b m = refl
other_leads us u (matches s other) _ a b m = refl
other_leads us u (joins_both s other) _ a b m = refl
other_leads us u (tells builder) _ a b m = refl
other_leads us u (lengthens s) _ a b m = refl
other_leads us u (picks s i) _ a b m = refl
other_leads us u (copies builder s) _ a b m = refl
other_leads us u (extends builder x) _ a b m = refl
other_leads us u (measures builder) _ a b m = refl

asked_builder_leads : (us : List ClassUnit) (u : Use) (job : TextJob) (reply : Reply) (a b m : List ℕ) → at_reply (stage_plan us u job asks_builder a b m) reply ≡ reached_plan us u job (text_next us job asks_builder a b m reply)
asked_builder_leads us u (copies builder s) (Value v) a b m = builder_leads us u (copies builder s) builder v
asked_builder_leads us u (extends builder x) (Value v) a b m = builder_leads us u (extends builder x) builder v
asked_builder_leads us u (measures builder) (Value v) a b m = builder_leads us u (measures builder) builder v
asked_builder_leads us u (tells builder) (Value v) a b m = builder_leads us u (tells builder) builder v
asked_builder_leads us u (matches s other) reply a b m = by_reply reply
  where
    by_reply : (reply : Reply) → at_reply (stage_plan us u (matches s other) asks_builder a b m) reply ≡ reached_plan us u (matches s other) (text_next us (matches s other) asks_builder a b m reply)
    by_reply (Value v) = refl
    by_reply _ = refl
asked_builder_leads us u (joins_both s other) (Value v) a b m = refl
asked_builder_leads us u (joins_both s other) _ a b m = refl
asked_builder_leads us u (lengthens s) (Value v) a b m = refl
asked_builder_leads us u (lengthens s) _ a b m = refl
asked_builder_leads us u (picks s i) (Value v) a b m = refl
asked_builder_leads us u (picks s i) _ a b m = refl
asked_builder_leads us u (copies builder s) _ a b m = refl
asked_builder_leads us u (extends builder x) _ a b m = refl
asked_builder_leads us u (measures builder) _ a b m = refl
asked_builder_leads us u (tells builder) _ a b m = refl

keep_leads : (us : List ClassUnit) (u : Use) (job : TextJob) (s : ℕ) (reply : Reply) (a b m : List ℕ) → at_reply (stage_plan us u job (asks_keep s) a b m) reply ≡ reached_plan us u job (text_next us job (asks_keep s) a b m reply)
keep_leads us u job s Done a b m = kept_leads us u job s
keep_leads us u job s (Class c n) a b m = keep_lost u job s (Class c n) tt
keep_leads us u job s (Value v) a b m = keep_lost u job s (Value v) tt
keep_leads us u job s (Made r) a b m = keep_lost u job s (Made r) tt
keep_leads us u job s NotOwner a b m = keep_lost u job s NotOwner tt
keep_leads us u job s (Woken n) a b m = keep_lost u job s (Woken n) tt
keep_leads us u job s (Number n) a b m = keep_lost u job s (Number n) tt
keep_leads us u job s Already a b m = keep_lost u job s Already tt
keep_leads us u job s Ready a b m = keep_lost u job s Ready tt
keep_leads us u job s Bad a b m = keep_lost u job s Bad tt
keep_leads us u job s Claimed a b m = keep_lost u job s Claimed tt

pub replies_lead : RepliesLead
replies_lead us u job asks_other a b m reply = other_leads us u job reply a b m
replies_lead us u job asks_builder a b m reply = asked_builder_leads us u job reply a b m
replies_lead us u job (asks_keep s) a b m reply = keep_leads us u job s reply a b m
replies_lead us u job (asks_word p s) a b m (Value array) = chosen us u job (stage_plan us u job (asks_number p s) a b m) (stage_plan us u job (asks_size p array) a b m) (stands_at (asks_number p s) a b m) (stands_at (asks_size p array) a b m) (array == 0) refl refl
replies_lead us u job (asks_word p s) a b m _ = refl
replies_lead us u job (asks_number p s) a b m (Class c n) = part_leads us u job p a (literal_units us n)
replies_lead us u job (asks_number p s) a b m _ = refl
replies_lead us u job (asks_size p array) a b m (Class c n) = refl
replies_lead us u job (asks_size p array) a b m _ = refl
replies_lead us u job (asks_unit p array i n) a b m (Value v) = units_lead us u job p array (suc i) n a (so_far p a b ++ char_of v ∷ [])
replies_lead us u job (asks_unit p array i n) a b m _ = refl
replies_lead us u job (asks_array class) a b m (Made array) = written_lead us u job array 0 (length m) a b m
replies_lead us u job (asks_array class) a b m _ = refl
replies_lead us u job (asks_write array i n) a b m Done = written_lead us u job array (suc i) n a b m
replies_lead us u job (asks_write array i n) a b m _ = refl
replies_lead us u job (asks_string array) a b m (Made s) = refl
replies_lead us u job (asks_string array) a b m _ = refl
replies_lead us u job (asks_bind array s) a b m Done = bound_leads us u job s a b m
replies_lead us u job (asks_bind array s) a b m _ = refl
replies_lead us u job (takes_room p array n) a b m reply = refl
replies_lead us u job (makes_room tail) a b m reply = refl

made_leads : (us : List ClassUnit) (u : Use) (job : TextJob) (a b units : List ℕ) (o : Option ℕ) → option_map_or (λ class. makes_array class units (after_made u job)) o stuck ≡ reached_plan us u job (option_map_or (λ class. stands_at (asks_array class) a b units) o lost)
made_leads us u job a b units None = refl
made_leads us u job a b units (Some class) = refl

pub silent_steps_lead : SilentStepsLead
silent_steps_lead us u job (takes_room p array n) a b m = units_lead us u job p array 0 n a []
silent_steps_lead us u job (makes_room tail) a b m = chosen us u job (option_map_or (λ class. makes_array class (with_tail tail a b) (after_made u job)) (primitive_array_number (program_names us) Char) stuck) (raises u NEGATIVE_ARRAY_SIZE_EXCEPTION) (option_map_or (λ class. stands_at (asks_array class) a b (with_tail tail a b)) (primitive_array_number (program_names us) Char) lost) (breaks_by NEGATIVE_ARRAY_SIZE_EXCEPTION) (is_short (with_tail tail a b)) (made_leads us u job a b (with_tail tail a b) (primitive_array_number (program_names us) Char)) refl
silent_steps_lead us u job (asks_word p s) a b m = refl
silent_steps_lead us u job (asks_number p s) a b m = refl
silent_steps_lead us u job (asks_size p array) a b m = refl
silent_steps_lead us u job (asks_unit p array i n) a b m = refl
silent_steps_lead us u job (asks_array class) a b m = refl
silent_steps_lead us u job (asks_write array i n) a b m = refl
silent_steps_lead us u job (asks_string array) a b m = refl
silent_steps_lead us u job (asks_bind array s) a b m = refl
silent_steps_lead us u (matches s other) asks_other a b m = refl
silent_steps_lead us u (joins_both s other) asks_other a b m = refl
silent_steps_lead us u (tells builder) asks_other a b m = refl
silent_steps_lead us u (lengthens s) asks_other a b m = refl
silent_steps_lead us u (picks s i) asks_other a b m = refl
silent_steps_lead us u (copies builder s) asks_other a b m = refl
silent_steps_lead us u (extends builder x) asks_other a b m = refl
silent_steps_lead us u (measures builder) asks_other a b m = refl
silent_steps_lead us u (matches s other) asks_builder a b m = refl
silent_steps_lead us u (joins_both s other) asks_builder a b m = refl
silent_steps_lead us u (tells builder) asks_builder a b m = refl
silent_steps_lead us u (lengthens s) asks_builder a b m = refl
silent_steps_lead us u (picks s i) asks_builder a b m = refl
silent_steps_lead us u (copies builder s) asks_builder a b m = refl
silent_steps_lead us u (extends builder x) asks_builder a b m = refl
silent_steps_lead us u (measures builder) asks_builder a b m = refl
silent_steps_lead us u (matches s other) (asks_keep r) a b m = refl
silent_steps_lead us u (joins_both s other) (asks_keep r) a b m = refl
silent_steps_lead us u (tells builder) (asks_keep r) a b m = refl
silent_steps_lead us u (lengthens s) (asks_keep r) a b m = refl
silent_steps_lead us u (picks s i) (asks_keep r) a b m = refl
silent_steps_lead us u (copies builder s) (asks_keep r) a b m = refl
silent_steps_lead us u (extends builder x) (asks_keep r) a b m = refl
silent_steps_lead us u (measures builder) (asks_keep r) a b m = refl

-- ---- the beginning

pub texts_begin : TextsBegin
texts_begin us me u StringLength (s ∷ []) is = refl
texts_begin us me u StringCharAt (s ∷ i ∷ []) is = refl
texts_begin us me u StringEquals (s ∷ other ∷ []) is = chosen_start us u (is_silent (0 ∷ [])) (starts (matches s other)) (other == 0)
texts_begin us me u StringConcat (s ∷ other ∷ []) is = chosen_start us u (fails_at_once NULL_POINTER_EXCEPTION) (starts (joins_both s other)) (other == 0)
texts_begin us me u BuilderInit (b ∷ []) is = refl
texts_begin us me u BuilderInitText (b ∷ s ∷ []) is = chosen_start us u (fails_at_once NULL_POINTER_EXCEPTION) (starts (copies b s)) (s == 0)
texts_begin us me u AppendInt (b ∷ n ∷ []) is = refl
texts_begin us me u AppendLong (b ∷ low ∷ high ∷ []) is = refl
texts_begin us me u AppendChar (b ∷ c ∷ []) is = refl
texts_begin us me u AppendBoolean (b ∷ x ∷ []) is = refl
texts_begin us me u AppendString (b ∷ s ∷ []) is = refl
texts_begin us me u BuilderLength (b ∷ []) is = refl
texts_begin us me u BuilderToString (b ∷ []) is = refl
texts_begin us me u n args is = absurd (is refl)
