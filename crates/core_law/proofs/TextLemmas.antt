-- The words and the texts that a run leaves, as the core tells them with which it ends.
use Rattle.std.proofs.Common.{◌≡◌, inl, inr, ℕ, zero, suc, ◌<◌, ◌%◌, ◌^◌, Bool, true, true≢false, Some, List, [], ◌∷◌, length, map, Contains, slice_index_or, is_some, refl, sym, ◌∙◌, ap, subst, arith}
use Rattle.std.specs.List.{range_with_len}
use Rattle.std.specs.Option.{option_map_or}
use Rattle.std.proofs.lemmas.Grind.{same_number_lists}
use Rattle.std.proofs.lemmas.Option.{slice_get-get_or}
use Rattle.std.proofs.lemmas.List.FromFn.{get_or-map-range_with_len, length-map-range_with_len}
use Rattle.op_core.specs.declared.Line.{Line}
use Rattle.op_core.specs.declared.Line.TheVariants.{Made}
use Rattle.op_core.specs.declared.MadeText.{MadeText}
use Rattle.op_core.specs.ThreadCode.{Code}
use Rattle.op_core.specs.OrdinaryState.{Object}
use Rattle.op_core.specs.MadeTexts.{units_at, references_of, AreMadeTexts}
use Rattle.heap_words.specs.Words.{value_of, header_length, pack_header}
use Rattle.thread_automaton.specs.declared.Bounds.{Bounds}
use Rattle.thread_automaton.specs.NextMove.{word_place}
use Rattle.core_runs.specs.Cores.{Core}
use Rattle.core_runs.specs.Acts.{Act}
use Rattle.section_laws.specs.Settled.{notes, replay}
use Rattle.section_laws.specs.Layout.{IsWordPlace, ObjectsLieApart, free_place}
use Rattle.section_laws.proofs.run_layout.RunLemmas.{runs_keep_layout}
use Rattle.section_laws.specs.Levels.{IsLevelledRun}
use Rattle.written_words.specs.SettledWords.{back_words}
use Rattle.first_law.specs.Free.{IsFreeRun}
use Rattle.first_law.proofs.grounded_monitors.RunLemmas.{free_runs_fit_objects, free_runs_hold_monitors}
use Rattle.core_law.specs.RevokedLevels.{is_level_revoked}
use Rattle.core_law.specs.Erasure.{Erasure}
use Rattle.core_law.proofs.RevokedLemmas.{revoked_levels_are_told}
use Rattle.word_texts.specs.PutBack.{back_of, heap_in, WillBe}
use Rattle.word_texts.specs.Texts.{AreUnitsOf, AreTextsOf}
use Rattle.core_law.specs.Arrays.{WordsAreThoseLeft, IsArrayAt, NameArrays, TextsAreThoseLeft}
use Rattle.core_law.proofs.UndoLemmas.{words_to_put_back_are_told}

length_packed : (c n : ℕ) → c < 2 ^ 32 → header_length (pack_header c n) ≡ n
unfolding header_length pack_header
length_packed c n low = omega (arith, low)

-- the reference of a text in a list is among the references of the list
named_in : (made : List MadeText) (k : ℕ) (d : MadeText) → k < length made → Contains (references_of made) (slice_index_or made k d).at
named_in [] k d low = absurd (none k low)
  where
    none : (k : ℕ) → k < 0 → ⊥
    none k low = omega (arith, low)
named_in (x ∷ made) zero d low = (0, omega arith, refl)
named_in (x ∷ made) (suc k) d low = let rest = named_in made k d (omega (arith, low)) in let within = rest.1 in (suc rest.0, omega (arith, within), rest.2)

module _ {S : Type 0} (code : Code S) (b : Bounds) (is_thread : ℕ → Bool) (first : S) (classes : ℕ) (c : ℕ → Core S) (acts : List Act) (free : IsFreeRun code b is_thread first classes c acts)
    (left : Erasure code b is_thread c acts) where
  abbrev core : Core S
  core = c (length acts)

  levelled : IsLevelledRun code b first classes c acts
  levelled = (free_runs_hold_monitors code b is_thread first classes c acts free).levelled

  same_back : (t : ℕ) → back_words (is_level_revoked c acts) ((c (length acts)).levels t) ((c (length acts)).threads t) ≡ back_of (c (length acts)) t
  same_back = words_to_put_back_are_told code b first classes c acts levelled (is_level_revoked c acts) (revoked_levels_are_told code b first classes c acts levelled)

  word_left : (p v : ℕ) (word : IsWordPlace is_thread (c (length acts)).objects p) → WillBe (c (length acts)) p v → v ≡ left.last.words word.r word.i
  word_left p v word will = elim will [
    | inl back ↦
        let same = same_back back.0 in
        back.2 ∙ sym (left.words.put_back p back.0 word (ap (notes p) same ∙ back.1) ∙ ap (λ log. value_of (replay log (heap_in (c (length acts))) p)) same)
    | inr stays ↦ stays.1 ∙ sym (left.words.stands p word (λ t. ap (notes p) (same_back t) ∙ stays.0 t))
  ]

  -- ---- the units of an array

  module _ (r : ℕ) (array : IsArrayAt is_thread left.last.objects r) where
    there : (c (length acts)).objects r ≡ Some array.object
    there = left.kept.objects r array.object array.there

    laid : ObjectsLieApart (free_place b (c (length acts)).words) (c (length acts)).words (c (length acts)).objects
    laid = runs_keep_layout code b is_thread c acts (free_runs_fit_objects code b is_thread first classes c acts free) (length acts) (omega arith)

    length_is : header_length (heap_in (c (length acts)) r) ≡ array.object.words
    length_is = ap header_length (laid.headers r array.object there) ∙ length_packed array.object.class array.object.length (laid.in_range r array.object there).0 ∙ sym array.words

    no_thread : {A : Type 0} → is_thread array.object.class ≡ true → A
    no_thread is = absurd (true≢false (sym is ∙ array.other))

    word_is : (i v : ℕ) → i < array.object.words → WillBe (c (length acts)) (word_place r i) v → v ≡ left.last.words r i
    word_is i v low will = word_left (word_place r i) v (record { r = r; i = i; o = array.object; there = there; low = low; place = refl; kept = λ is. no_thread is }) will

    units_are : (units : List ℕ) → AreUnitsOf (c (length acts)) r units → units ≡ units_at left.last r
    units_are units are = same_number_lists units (units_at left.last r) same_length same_unit
      where
        unit : ℕ → ℕ
        unit i = left.last.words r i % 2 ^ 16

        count : length units ≡ array.object.words
        count = are.count ∙ length_is

        last_is : units_at left.last r ≡ map (λ i. left.last.words r i % 2 ^ 16) (range_with_len 0 array.object.words)
        last_is = ap (λ o. map (λ i. left.last.words r i % 2 ^ 16) (range_with_len 0 (option_map_or (λ (o : Object). o.words) o 0))) array.there

        same_length : length units ≡ length (units_at left.last r)
        same_length = count ∙ sym (ap length last_is ∙ length-map-range_with_len (λ i. left.last.words r i % 2 ^ 16) 0 array.object.words)

        same_unit : (k : ℕ) → k < length units → slice_index_or units k 0 ≡ slice_index_or (units_at left.last r) k 0
        same_unit k within =
            let low : k < array.object.words = subst (λ n. k < n) count within in
            let told = are.each k (slice_index_or units k 0) (slice_get-get_or units k 0 within) in
            told.2 ∙ ap (λ v. v % 2 ^ 16) (word_is k told.0 low told.1)
            ∙ sym (ap (λ us. slice_index_or us k 0) last_is ∙ get_or-map-range_with_len (λ i. left.last.words r i % 2 ^ 16) 0 array.object.words k k 0 low (omega arith))

  are_those : (lines : List Line) (made : List MadeText) → NameArrays is_thread left.last.objects lines → AreTextsOf (c (length acts)) lines made → AreMadeTexts left.last lines made
  are_those lines made arrays texts = record {
    rising = texts.rising;
    each = λ r. (
      λ among. let line = (texts.each r).0 among in (line, ap is_some (arrays r line).there),
      λ is. (texts.each r).1 is.0,
    );
    units = λ k d low.
        let line : Contains lines (Made (slice_index_or made k d).at) = (texts.each (slice_index_or made k d).at).0 (named_in made k d low) in
        units_are (slice_index_or made k d).at (arrays (slice_index_or made k d).at line) (slice_index_or made k d).units (texts.units k d low);
  }

pub words_are_those_left : {S : Type 0} (code : Code S) → WordsAreThoseLeft code
words_are_those_left code b is_thread first classes c acts free left p v word will = word_left code b is_thread first classes c acts free left p v word will

pub texts_are_those_left : {S : Type 0} (code : Code S) → TextsAreThoseLeft code
texts_are_those_left code b is_thread first classes c acts free left lines made arrays texts = are_those code b is_thread first classes c acts free left lines made arrays texts
