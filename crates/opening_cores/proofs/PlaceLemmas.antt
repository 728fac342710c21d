-- The words of an opening by place.
use Rattle.std.proofs.Common.{◌≡◌, ◌≢◌, ◌⊎◌, inl, inr, ℕ, ◌+◌, ◌-◌, ◌<◌, ◌≤◌, ◌^◌, Bool, true, false, cond, ◌&&◌, nat_eq, Option, None, Some, length, reverse, refl, sym, ◌∙◌, ap, subst, arith}
use Rattle.std.specs.Prelude.{◌==◌, nat_le, nat_lt, slice_get, slice_index}
use Rattle.std.specs.List.{All}
use Rattle.std.specs.Option.{option_map}
use Rattle.std.proofs.lemmas.Bool.Decides.{nat_tests, leb_tells}
use Rattle.std.proofs.lemmas.Bool.{and_parts}
use Rattle.std.proofs.lemmas.Grind.{common_steps}
use Rattle.std.proofs.lemmas.Option.{same_Some, get_or_from_slice_get}
use Rattle.op_core.specs.declared.Limits.{Limits}
use Rattle.op_core.specs.OrdinaryState.{Object}
use Rattle.fixed_objects.specs.declared.FixedObject.{FixedObject}
use Rattle.fixed_objects.specs.declared.Opening.{Opening}
use Rattle.fixed_objects.specs.Fixed.{fixed_at, fixed_header, fixed_start}
use Rattle.fixed_objects.specs.Opening.{StartsMain}
use Rattle.heap_words.specs.declared.areas.Area.{Area}
use Rattle.heap_words.specs.Words.{pack, pack_header, tag_of}
use Rattle.plain_words.specs.Opening.{EndsBelow, HasPlace, lies_over, object_over, word_behind, word_over, first_value, opening_words}
use Rattle.opening_cores.specs.Laws.{HasRanges, TellsThreads}
use Rattle.opening_cores.proofs.opening_law.PlaceLemmas.{all_found, passes, is_over}
use Rattle.opening_cores.proofs.opening_law.OpeningLemmas.{behind_word, own_range, own_reference, word_at}

-- ---- sizes

packed_alone : (v : ℕ) → pack v 0 ≡ v
unfolding pack
packed_alone v = omega arith

header_low : (c n : ℕ) → c < 2 ^ 32 → n < 2 ^ 32 → pack_header c n < 2 ^ 64
unfolding pack_header
header_low c n class size = omega (arith, class, size)

no_tag : (v : ℕ) → v < 2 ^ 32 → tag_of (pack v 0) ≡ 0
unfolding tag_of pack
no_tag v low = omega (arith, low)

below_or_not : (j k : ℕ) → (j < k) ⊎ (k ≤ j)
below_or_not j k = elim (leb_tells (1 + j) k) [ inl h ↦ inl (omega (arith, h.1)) | inr h ↦ inr (omega (arith, h.1)) ]

module _ (opening : Opening) (limits : Limits) (is_thread : ℕ → Bool) (place : HasPlace opening limits)
    (ranges : All HasRanges opening.objects) (threads : All (TellsThreads is_thread) opening.objects) where
  abbrev words : Area → ℕ
  words = opening_words opening

  -- ---- what an object has

  -- the fixed object that an object of the state is
  pub record Fixed (r : ℕ) (o : Object) : Type 0 where
    pub object : FixedObject
    pub found : fixed_at opening.objects r ≡ Some object
    pub is : fixed_header object ≡ o

  pub fixed_of : (r : ℕ) (o : Object) → option_map fixed_header (fixed_at opening.objects r) ≡ Some o → Fixed r o
  fixed_of r o there = by_option (fixed_at opening.objects r) refl there
    where
      by_option : (x : Option FixedObject) → fixed_at opening.objects r ≡ x → option_map fixed_header x ≡ Some o → Fixed r o
      by_option None found is = absurd cc
      by_option (Some x) found is = record { object = x; found = found; is = same_Some (fixed_header x) o is }

  module _ (r : ℕ) (o : FixedObject) (found : fixed_at opening.objects r ≡ Some o) where
    abbrev range : HasRanges o
    range = own_range opening limits is_thread place ranges threads r o found

    pub reference : r ≡ o.reference
    reference = own_reference opening limits is_thread place ranges threads r o found

    pub ends : (0 < r) × (r + 2 + length o.words ≤ opening.first)
    ends = let low = all_found (EndsBelow opening.first) (λ x. r == x.reference) opening.objects o place.objects.below found in
        (subst (λ n. 0 < n) (sym reference) low.0, subst (λ n. n + 2 + length o.words ≤ opening.first) (sym reference) low.1)

    pub header_word : words (Area.Object r) ≡ pack_header o.class o.length
    header_word = word_at opening limits is_thread place ranges threads r o found r 0 (omega arith) (omega arith)

    pub monitor_word : words (Area.Object (r + 1)) ≡ 0
    monitor_word = word_at opening limits is_thread place ranges threads r o found (r + 1) 1 refl (omega arith)

    pub start_word : 1 < length o.words → words (Area.Object (r + 3)) ≡ first_value o 1
    start_word inside = word_at opening limits is_thread place ranges threads r o found (r + 3) 3 refl (under (length o.words) inside) ∙ behind_word o 3 1 refl ∙ packed_alone (first_value o 1)
      where
        under : (n : ℕ) → 1 < n → 3 < 2 + n
        under n inside = omega (arith, inside)

  -- no two objects lie over one place
  pub lie_apart : (r q : ℕ) (o p : FixedObject) → fixed_at opening.objects r ≡ Some o → fixed_at opening.objects q ≡ Some p → r ≢ q
      → (r + 2 + length o.words ≤ q) ⊎ (q + 2 + length p.words ≤ r)
  lie_apart r q o p at there other = elim (below_or_not r q) [
    | inl less ↦ inl (one_after r q o p at there other (no_less r q less))
    | inr more ↦ inr (one_after q r p o there at (λ same. other (sym same)) more)
  ]
    where
      no_less : (r q : ℕ) → r < q → r ≤ q
      no_less r q less = omega (arith, less)

      one_after : (r q : ℕ) (o p : FixedObject) → fixed_at opening.objects r ≡ Some o → fixed_at opening.objects q ≡ Some p → r ≢ q → r ≤ q → r + 2 + length o.words ≤ q
      one_after r q o p at there other low = elim (below_or_not q (r + 2 + length o.words)) [
        | inr past ↦ past
        | inl inside ↦ absurd (other (reference r o at
            ∙ ap (λ (x : FixedObject). x.reference) (same_Some o p (sym (is_over opening.objects r q o place.objects.apart at low inside)
            ∙ is_over opening.objects q q p place.objects.apart there (omega arith) (over q (length p.words))))
            ∙ sym (reference q p there)))
      ]
        where
          over : (q n : ℕ) → q < q + 2 + n
          over q n = omega arith

  -- ---- each place

  over_by : (at : ℕ) (o : FixedObject) → object_over opening.objects at ≡ Some o → (o.reference ≤ at) × (at < o.reference + 2 + length o.words)
  over_by at o found =
      let over = and_parts (nat_le o.reference at) (nat_lt at (o.reference + 2 + length o.words)) (passes (lies_over at) (reverse opening.objects) o found) in
      (at_most o.reference at over.0, less at (o.reference + 2 + length o.words) over.1)
    where
      at_most : (m n : ℕ) → nat_le m n ≡ true → m ≤ n
      at_most m n is = grind (arith, common_steps, nat_tests)

      less : (m n : ℕ) → nat_lt m n ≡ true → m < n
      less m n is = grind (arith, common_steps, nat_tests)

  -- nothing lies from the first free place on
  pub empty_from : (at : ℕ) → opening.first ≤ at → words (Area.Object at) ≡ 0
  empty_from at high = by_option (object_over opening.objects at) refl
    where
      no : (first at m : ℕ) → first ≤ at → at < m → m ≤ first → ⊥
      no first at m high over low = omega (arith, high, over, low)

      by_option : (x : Option FixedObject) → object_over opening.objects at ≡ x → words (Area.Object at) ≡ 0
      by_option None found = ap (word_over 0 at) found
      by_option (Some o) found = absurd (no opening.first at (o.reference + 2 + length o.words) high (over_by at o found).1
          (all_found (EndsBelow opening.first) (lies_over at) opening.objects o place.objects.below found).1)

  value_low : (o : FixedObject) → HasRanges o → (i : ℕ) → i < length o.words → first_value o i < 2 ^ 32
  value_low o range i inside = by_test (nat_eq i 1 && nat_lt 0 o.started) refl
    where
      few : (n : ℕ) → n < 2 ^ 8 → n < 2 ^ 32
      few n low = omega (arith, low)

      by_test : (t : Bool) → (nat_eq i 1 && nat_lt 0 o.started) ≡ t → first_value o i < 2 ^ 32
      by_test true is = subst (λ v. v < 2 ^ 32) (sym (ap (λ t. cond t o.started (slice_index o.words i)) is)) (few o.started range.started)
      by_test false is = subst (λ v. v < 2 ^ 32) (sym (ap (λ t. cond t o.started (slice_index o.words i)) is)) (range.words i 0 inside)

  behind_low : (o : FixedObject) → HasRanges o → (k : ℕ) → k < 2 + length o.words → word_behind o k < 2 ^ 64
  behind_low o range k below = by_first (nat_eq k 0) refl
    where
      wide : (n : ℕ) → n < 2 ^ 32 → n < 2 ^ 64
      wide n low = omega (arith, low)

      inside : (k n : ℕ) → nat_eq k 0 ≡ false → nat_eq k 1 ≡ false → k < 2 + n → k - 2 < n
      inside k n first second below = let some = two k first second in omega (arith, some, below)
        where
          two : (k : ℕ) → nat_eq k 0 ≡ false → nat_eq k 1 ≡ false → 2 ≤ k
          two k first second = grind (arith, common_steps, nat_tests)

      by_second : (t : Bool) → nat_eq k 0 ≡ false → nat_eq k 1 ≡ t → cond t 0 (pack (first_value o (k - 2)) 0) < 2 ^ 64
      by_second true first second = omega arith
      by_second false first second =
          subst (λ v. v < 2 ^ 64) (sym (packed_alone (first_value o (k - 2)))) (wide (first_value o (k - 2)) (value_low o range (k - 2) (inside k (length o.words) first second below)))

      by_first : (t : Bool) → nat_eq k 0 ≡ t → word_behind o k < 2 ^ 64
      by_first true first = subst (λ t. cond t (pack_header o.class o.length) (cond (nat_eq k 1) 0 (pack (first_value o (k - 2)) 0)) < 2 ^ 64) (sym first) (header_low o.class o.length range.class range.size)
      by_first false first = subst (λ t. cond t (pack_header o.class o.length) (cond (nat_eq k 1) 0 (pack (first_value o (k - 2)) 0)) < 2 ^ 64) (sym first) (by_second (nat_eq k 1) first refl)

  -- each word has 64 bits
  pub word_low : (at : ℕ) → words (Area.Object at) < 2 ^ 64
  word_low at = by_option (object_over opening.objects at) refl
    where
      within : (at r n : ℕ) → r ≤ at → at < r + 2 + n → at - r < 2 + n
      within at r n low high = omega (arith, low, high)

      by_option : (x : Option FixedObject) → object_over opening.objects at ≡ x → words (Area.Object at) < 2 ^ 64
      by_option None found = subst (λ v. v < 2 ^ 64) (sym (ap (word_over 0 at) found)) (omega arith)
      by_option (Some o) found =
          let over = over_by at o found in
          subst (λ v. v < 2 ^ 64) (sym (ap (word_over 0 at) found))
          (behind_low o (all_found HasRanges (lies_over at) opening.objects o ranges found) (at - o.reference) (within at o.reference (length o.words) over.0 over.1))

  -- no section has written a word of an object
  pub untagged : (r i : ℕ) (o : FixedObject) → fixed_at opening.objects r ≡ Some o → i < length o.words → tag_of (words (Area.Object (r + 2 + i))) ≡ 0
  untagged r i o found inside =
      ap tag_of (word_at opening limits is_thread place ranges threads r o found (r + 2 + i) (2 + i) (omega arith) (under (length o.words) inside) ∙ behind_word o (2 + i) i refl)
      ∙ no_tag (first_value o i) (value_low o (own_range opening limits is_thread place ranges threads r o found) i inside)
    where
      under : (n : ℕ) → i < n → 2 + i < 2 + n
      under n inside = omega (arith, inside)

  -- ---- start words

  -- the value of the start word of a thread object
  pub started_is : (o : FixedObject) → slice_get o.words 1 ≡ Some 0 → first_value o 1 ≡ o.started
  started_is o zero_word = by_test (nat_lt 0 o.started) refl
    where
      none : (n : ℕ) → nat_lt 0 n ≡ false → 0 ≡ n
      none n is = grind (arith, common_steps, nat_tests)

      by_test : (t : Bool) → nat_lt 0 o.started ≡ t → first_value o 1 ≡ o.started
      by_test true is = ap (λ t. cond t o.started (slice_index o.words 1)) is
      by_test false is = ap (λ t. cond t o.started (slice_index o.words 1)) is ∙ get_or_from_slice_get o.words 1 0 0 zero_word ∙ none o.started is

  -- an object that has started a thread is main's Thread, and the thread is number 1
  pub started_main : StartsMain opening → (r : ℕ) (o : FixedObject) → fixed_at opening.objects r ≡ Some o → 0 < o.started → (r ≡ opening.main_thread) × (o.started ≡ 1)
  started_main main r o found some = elim (all_found (λ (x : FixedObject). (x.reference ≡ opening.main_thread) ⊎ (x.started ≡ 0)) (λ x. r == x.reference) opening.objects o main.others found) [
    | inl is ↦
        let own : r ≡ opening.main_thread = reference r o found ∙ is in
        (own, sym (ap fixed_start found) ∙ ap (λ n. fixed_start (fixed_at opening.objects n)) own ∙ main.main)
    | inr none ↦ absurd (both o.started some none)
  ]
    where
      both : (n : ℕ) → 0 < n → n ≡ 0 → ⊥
      both n some none = omega (arith, some, none)
