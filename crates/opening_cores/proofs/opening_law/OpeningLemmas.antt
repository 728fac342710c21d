-- What is read off the words of an opening.
use Rattle.std.proofs.Common.{◌≡◌, ℕ, ◌+◌, ◌-◌, ◌<◌, ◌^◌, Bool, true, false, cond, ◌&&◌, nat_eq, Option, None, Some, List, length, reverse, inl, inr, refl, sym, ◌∙◌, ap, subst, arith}
use Rattle.std.specs.Prelude.{◌==◌, nat_lt, slice_get, slice_index, unwrap_or}
use Rattle.std.specs.List.{All, list_any}
use Rattle.std.specs.Option.{option_map}
use Rattle.std.proofs.lemmas.Bool.Decides.{nat_tests}
use Rattle.std.proofs.lemmas.Option.{unwrap_or-slice_get, get_or_from_slice_get, slice_get_cases}
use Rattle.std.proofs.lemmas.List.{get_or_past}
use Rattle.std.proofs.Math.Bool.{and-false}
use Rattle.std.proofs.lemmas.Bool.{and_parts}
use Rattle.op_core.specs.declared.Limits.{Limits}
use Rattle.op_core.specs.OrdinaryState.{Object, free, ready, unready}
use Rattle.fixed_objects.specs.declared.FixedObject.{FixedObject}
use Rattle.fixed_objects.specs.declared.Opening.{Opening}
use Rattle.fixed_objects.specs.Fixed.{fixed_at, fixed_header, fixed_word, fixed_start}
use Rattle.heap_words.specs.declared.areas.Area.{Area}
use Rattle.heap_words.specs.Words.{pack, value_of, pack_header, header_class, header_length, class_word, class_state}
use Rattle.plain_words.specs.Opening.{HasPlace, word_behind, word_over, first_value, opening_words}
use Rattle.ordinary_words.specs.Reading.{word_in, start_in, monitor_of, monitor_in, class_of}
use Rattle.opening_cores.specs.Laws.{HasRanges, TellsThreads, OpeningsStandForTheirStates}
use Rattle.opening_cores.proofs.opening_law.PlaceLemmas.{all_found, passes, is_over}

-- ---- packings

value_packed : (v : ℕ) → v < 2 ^ 32 → value_of (pack v 0) ≡ v
unfolding value_of pack
value_packed v below = omega (arith, below)

class_packed : (c n : ℕ) → c < 2 ^ 32 → header_class (pack_header c n) ≡ c
unfolding header_class pack_header
class_packed c n below = omega (arith, below)

length_packed : (c n : ℕ) → c < 2 ^ 32 → header_length (pack_header c n) ≡ n
unfolding header_length pack_header
length_packed c n below = omega (arith, below)

class_at_first : (t : Bool) → class_of (cond t (class_word 2 0) 0) ≡ cond t ready unready
unfolding class_word class_state
class_at_first true = refl
class_at_first false = refl

-- ---- the words of an object

pub behind_word : (o : FixedObject) (k i : ℕ) → k ≡ 2 + i → word_behind o k ≡ pack (first_value o i) 0
behind_word o k i is =
    let first : nat_eq k 0 ≡ false = grind (arith, nat_tests) in
    let second : nat_eq k 1 ≡ false = grind (arith, nat_tests) in
    let third : k - 2 ≡ i = omega (arith, is) in
    subst (λ t. cond t (pack_header o.class o.length) (cond (nat_eq k 1) 0 (pack (first_value o (k - 2)) 0)) ≡ pack (first_value o i) 0) (sym first)
    (subst (λ t. cond t 0 (pack (first_value o (k - 2)) 0) ≡ pack (first_value o i) 0) (sym second) (ap (λ j. pack (first_value o j) 0) third))

pub not_started : (o : FixedObject) (i : ℕ) → (nat_eq i 1 && nat_lt 0 o.started) ≡ false → first_value o i ≡ slice_index o.words i
not_started o i is = ap (λ t. cond t o.started (slice_index o.words i)) is

is_one : (a : Bool) (i : ℕ) → (a && nat_eq i 1) ≡ true → i ≡ 1
is_one true i both = grind (arith, nat_tests)
is_one false i both = absurd cc

pub is_inside : (xs : List ℕ) (i x : ℕ) → slice_get xs i ≡ Some x → i < length xs
is_inside xs i x is = elim (slice_get_cases xs i).1 [
  | inl inside ↦ inside.1
  | inr past ↦ absurd cc
]

-- the object of a reference, with what is so of it
module _ (opening : Opening) (limits : Limits) (is_thread : ℕ → Bool) (place : HasPlace opening limits)
    (ranges : All HasRanges opening.objects) (threads : All (TellsThreads is_thread) opening.objects) where
  abbrev words : Area → ℕ
  words = opening_words opening

  module _ (r : ℕ) (o : FixedObject) (found : fixed_at opening.objects r ≡ Some o) where
    pub own_range : HasRanges o
    own_range = all_found HasRanges (λ x. r == x.reference) opening.objects o ranges found

    pub own_threads : TellsThreads is_thread o
    own_threads = all_found (TellsThreads is_thread) (λ x. r == x.reference) opening.objects o threads found

    pub own_reference : r ≡ o.reference
    own_reference =
        let same : nat_eq r o.reference ≡ true = passes (λ x. r == x.reference) (reverse opening.objects) o found in
        grind (arith, nat_tests)

    -- the word k places after the reference
    pub word_at : (p k : ℕ) → p ≡ r + k → k < 2 + length o.words → words (Area.Object p) ≡ word_behind o k
    word_at p k is below =
        let behind : p - o.reference ≡ k = omega (arith, is, own_reference) in
        ap (word_over 0 p) (is_over opening.objects r p o place.objects.apart found (omega (arith, is)) (omega (arith, is, below)))
        ∙ ap (word_behind o) behind

    value_at : (p i : ℕ) → p ≡ r + 2 + i → i < length o.words → first_value o i < 2 ^ 32 → value_of (words (Area.Object p)) ≡ first_value o i
    value_at p i is inside below =
        ap value_of (word_at p (2 + i) (omega (arith, is)) (omega (arith, inside)) ∙ behind_word o (2 + i) i refl)
        ∙ value_packed (first_value o i) below

    header_is : (header_class (words (Area.Object r)) ≡ o.class) × (header_length (words (Area.Object r)) ≡ o.length)
    header_is =
        let header : words (Area.Object r) ≡ pack_header o.class o.length = word_at r 0 (omega arith) (omega arith) in
        (ap header_class header ∙ class_packed o.class o.length own_range.class, ap header_length header ∙ length_packed o.class o.length own_range.class)

    monitor_is : monitor_in words r (Some (fixed_header o)) ≡ free
    monitor_is = ap (monitor_of words) (word_at (r + 1) 1 refl (omega arith))

    -- a word that is no start word
    plain_word : (i : ℕ) → i < length o.words → (is_thread o.class && nat_eq i 1) ≡ false → value_of (words (Area.Object (r + 2 + i))) ≡ fixed_word (Some o) i
    plain_word i inside plain =
        let first : first_value o i ≡ slice_index o.words i = not_started o i (no_start (is_thread o.class) refl plain) in
        value_at (r + 2 + i) i refl inside (subst (λ v. v < 2 ^ 32) (sym first) (own_range.words i 0 inside))
        ∙ first ∙ sym (unwrap_or-slice_get o.words i 0)
      where
        no_start : (t : Bool) → is_thread o.class ≡ t → (t && nat_eq i 1) ≡ false → (nat_eq i 1 && nat_lt 0 o.started) ≡ false
        no_start true is plain = ap (λ b. b && nat_lt 0 o.started) plain
        no_start false is plain =
            ap (λ n. nat_eq i 1 && nat_lt 0 n) (own_threads.other is) ∙ and-false (nat_eq i 1)

    word_is : (i : ℕ) → word_in is_thread words r i (Some (fixed_header o)) ≡ fixed_word (Some o) i
    word_is i = by_place (nat_lt i (length o.words)) refl
      where
        start_word : (is_thread o.class && nat_eq i 1) ≡ true → 0 ≡ fixed_word (Some o) i
        start_word both =
            let thread : is_thread o.class ≡ true = (and_parts (is_thread o.class) (nat_eq i 1) both).0 in
            let one : i ≡ 1 = is_one (is_thread o.class) i both in
            sym (ap (λ k. unwrap_or (slice_get o.words k) 0) one ∙ ap (λ x. unwrap_or x 0) (own_threads.thread thread))

        by_kind : (t : Bool) → (is_thread o.class && nat_eq i 1) ≡ t → i < length o.words → cond t 0 (value_of (words (Area.Object (r + 2 + i)))) ≡ fixed_word (Some o) i
        by_kind true is inside = start_word is
        by_kind false is inside = plain_word i inside is

        by_place : (t : Bool) → nat_lt i (length o.words) ≡ t
            → cond t (cond (is_thread o.class && nat_eq i 1) 0 (value_of (words (Area.Object (r + 2 + i))))) 0 ≡ fixed_word (Some o) i
        by_place true is = by_kind (is_thread o.class && nat_eq i 1) refl (grind (arith, nat_tests))
        by_place false is = sym (unwrap_or-slice_get o.words i 0 ∙ get_or_past o.words i 0 (grind (arith, nat_tests)))

    start_is : start_in is_thread words r (Some (fixed_header o)) ≡ fixed_start (Some o)
    start_is = by_kind (is_thread o.class) refl
      where
        first_is : (t : Bool) → nat_lt 0 o.started ≡ t → slice_get o.words 1 ≡ Some 0 → cond t o.started (slice_index o.words 1) ≡ o.started
        first_is true is zero_word = refl
        first_is false is zero_word =
            let none : o.started ≡ 0 = grind (arith, nat_tests) in
            get_or_from_slice_get o.words 1 0 0 zero_word ∙ sym none

        by_kind : (t : Bool) → is_thread o.class ≡ t → cond t (value_of (words (Area.Object (r + 3)))) 0 ≡ o.started
        by_kind true is =
            let zero_word = own_threads.thread is in
            let first : first_value o 1 ≡ o.started = first_is (nat_lt 0 o.started) refl zero_word in
            value_at (r + 3) 1 (omega arith) (is_inside o.words 1 0 zero_word) (subst (λ v. v < 2 ^ 32) (sym first) (omega (arith, own_range.started))) ∙ first
        by_kind false is = sym (own_threads.other is)

  headers_are : (r : ℕ) (x : Option FixedObject) → fixed_at opening.objects r ≡ x → (o : Object) → option_map fixed_header x ≡ Some o
      → (header_class (words (Area.Object r)) ≡ o.class) × (header_length (words (Area.Object r)) ≡ o.length)
  headers_are r None found o is = absurd cc
  headers_are r (Some own) found o is =
      let same : fixed_header own ≡ o = ap (λ (y : Option Object). unwrap_or y (fixed_header own)) is in
      subst (λ y. (header_class (words (Area.Object r)) ≡ y.class) × (header_length (words (Area.Object r)) ≡ y.length)) same (header_is r own found)

  words_are : (r i : ℕ) (x : Option FixedObject) → fixed_at opening.objects r ≡ x → word_in is_thread words r i (option_map fixed_header x) ≡ fixed_word x i
  words_are r i None found = refl
  words_are r i (Some o) found = word_is r o found i

  starts_are : (r : ℕ) (x : Option FixedObject) → fixed_at opening.objects r ≡ x → start_in is_thread words r (option_map fixed_header x) ≡ fixed_start x
  starts_are r None found = refl
  starts_are r (Some o) found = start_is r o found

  monitors_are : (r : ℕ) (x : Option FixedObject) → fixed_at opening.objects r ≡ x → monitor_in words r (option_map fixed_header x) ≡ free
  monitors_are r None found = refl
  monitors_are r (Some o) found = monitor_is r o found

pub stand_for : {S : Type 0} → OpeningsStandForTheirStates S
stand_for opening limits is_thread l place ranges threads = record {
  headers = λ r o is. headers_are opening limits is_thread place ranges threads r (fixed_at opening.objects r) refl o is;
  words = λ r i. words_are opening limits is_thread place ranges threads r i (fixed_at opening.objects r) refl;
  starts = λ r. starts_are opening limits is_thread place ranges threads r (fixed_at opening.objects r) refl;
  monitors = λ r. monitors_are opening limits is_thread place ranges threads r (fixed_at opening.objects r) refl;
  classes = λ c. class_at_first (list_any (λ d. c == d) opening.ready);
}
