-- What is read once old words are put back is what will be.
use Rattle.std.proofs.Common.{◌≡◌, ◌+◌, ◌<◌, ◌++◌, ◌∷◌, take, map, inl, inr, ℕ, Option, None, Some, Result, Ok, Err, IfOk, List, [], All, unwrap_or, length, slice_get, get_or, refl, sym, ◌∙◌, ap, subst, arith}
use Rattle.std.specs.List.{range_with_len}
use Rattle.std.specs.List.Sorted.{IsStrictlyIncreasing}
use Rattle.std.proofs.lemmas.Option.{slice_get_within, get_or_from_slice_get}
use Rattle.std.proofs.lemmas.List.{map-append, take_more}
use Rattle.std.proofs.lemmas.List.Elements.{All-nil, All-cons, All-append}
use Rattle.std.proofs.lemmas.List.FromFn.{length-map-range_with_len, get_or-map-range_with_len, map-range_with_len_more}
use Rattle.heap_words.specs.Words.{value_of, header_length}
use Rattle.op_core.specs.declared.Line.{Line}
use Rattle.op_core.specs.declared.MadeText.{MadeText}
use Rattle.op_core.specs.MadeTexts.{references_of}
use Rattle.plain_words.specs.declared.plain.PlainWords.{PlainWords}
use Rattle.plain_words.specs.Table.{words_in}
use Rattle.step_port.specs.Words.{Words}
use Rattle.thread_automaton.specs.NextMove.{word_place}
use Rattle.thread_automaton.specs.ThreadState.{ThreadState}
use Rattle.core_runs.specs.Cores.{Core}
use Rattle.thread_moves.specs.declared.thread.JThread.{JThread}
use Rattle.word_machine.specs.Machine.{threads_in, IsCoreOf}
use Rattle.word_texts.specs.OldWords.{oldest_at, AreOldest, value_then, unit_then, units_then, AreUnitsThen}
use Rattle.word_texts.specs.PutBack.{back_in, back_of, heap_in, WillBe}
use Rattle.word_texts.specs.Texts.{AreUnitsOf, AreTextsOf}
use Rattle.word_texts.proofs.NamedLemmas.{AreNamed}
use Rattle.word_texts.proofs.OldLemmas.{Tells, oldest_tells}

module _ {S : Type 0} (c : Core S) (old : ℕ → Option ℕ) (are : AreOldest (back_of c) old) where
  told : (t p : ℕ) (o : Option ℕ) → oldest_at (back_of c t) p ≡ o → Tells (back_of c t) (heap_in c) p o
  told t p o is = subst (Tells (back_of c t) (heap_in c) p) is (oldest_tells (back_of c t) (heap_in c) p)

  will_be : (p : ℕ) → WillBe c p (value_then old c.words p)
  will_be p = by_word (old p) refl
    where
      by_word : (o : Option ℕ) → old p ≡ o → WillBe c p (value_of (unwrap_or o (heap_in c p)))
      by_word (Some v) is =
          let there : (t : ℕ) × (oldest_at (back_of c t) p ≡ Some v) = are.some p v is in
          let tells : Tells (back_of c there.0) (heap_in c) p (Some v) = told there.0 p (Some v) there.1 in
          inl (there.0, tells.0, ap value_of tells.1)
      by_word None is = inr (λ t. told t p None (are.none p is t), refl)

  are_units : (r : ℕ) (units : List ℕ) → units ≡ units_then old c.words r → AreUnitsOf c r units
  are_units r units is = record {
    count = ap length is ∙ length-map-range_with_len (unit_then old c.words r) 0 (header_length (heap_in c r));
    each = λ i u at. (value_then old c.words (word_place r i), will_be (word_place r i), unit i u at);
  }
    where
      count : length units ≡ header_length (heap_in c r)
      count = ap length is ∙ length-map-range_with_len (unit_then old c.words r) 0 (header_length (heap_in c r))

      unit : (i u : ℕ) → slice_get units i ≡ Some u → u ≡ unit_then old c.words r i
      unit i u at =
          sym (get_or_from_slice_get units i u 0 at) ∙ ap (λ us. get_or us i 0) is
          ∙ get_or-map-range_with_len (unit_then old c.words r) 0 (header_length (heap_in c r)) i i 0 (subst (λ n. i < n) count (slice_get_within units i u at)) (omega arith)

  texts_of_core : (lines : List Line) (arrays : List ℕ) (made : List MadeText) → IsStrictlyIncreasing arrays → AreNamed lines arrays → references_of made ≡ arrays
      → All (AreUnitsThen old c.words) made → AreTextsOf c lines made
  texts_of_core lines arrays made rising named same units = record {
    rising = subst IsStrictlyIncreasing (sym same) rising;
    each = subst (AreNamed lines) (sym same) named;
    units = λ k text within. are_units (get_or made k text).at (get_or made k text).units (units k text within);
  }

-- one unit more
pub one_more_unit : (unit : ℕ → ℕ) (n u : ℕ) (before after : List ℕ) → before ≡ map unit (range_with_len 0 n) → u ≡ unit n → after ≡ before ++ u ∷ [] → after ≡ map unit (range_with_len 0 (n + 1))
one_more_unit unit n u before after were is more =
    more ∙ ap (λ us. us ++ u ∷ []) were ∙ ap (λ k. map unit (range_with_len 0 n) ++ k ∷ []) is ∙ sym (map-range_with_len_more unit 0 n n (omega arith))

-- the texts of the first n arrays
pub record AreTextsThen (old : ℕ → Option ℕ) (w : Words) (arrays : List ℕ) (n : ℕ) (made : List MadeText) : Type 0 where
  pub references : references_of made ≡ take n arrays
  pub units : All (AreUnitsThen old w) made

pub one_more_text : (old : ℕ → Option ℕ) (w : Words) (arrays : List ℕ) (n : ℕ) (made after : List MadeText) (text : MadeText) → AreTextsThen old w arrays n made
    → n < length arrays → text.at ≡ get_or arrays n 0 → AreUnitsThen old w text → after ≡ made ++ text ∷ [] → AreTextsThen old w arrays (n + 1) after
one_more_text old w arrays n made after text those within at units more = subst (AreTextsThen old w arrays (n + 1)) (sym more) (record {
  references = map-append (λ (t : MadeText). t.at) made (text ∷ []) ∙ ap (λ rs. rs ++ text.at ∷ []) those.references
      ∙ ap (λ r. take n arrays ++ r ∷ []) at ∙ sym (take_more arrays n 0 within);
  units = All-append (AreUnitsThen old w) made (text ∷ []) those.units (All-cons (AreUnitsThen old w) text [] units (All-nil (AreUnitsThen old w)));
})

-- the same of each core of words and threads in memory
pub are_texts : {C S : Type 0} (meant : JThread C → ThreadState S) (w : PlainWords) (places : List (Option (JThread C))) (old : ℕ → Option ℕ)
    → AreOldest (λ t. back_in (words_in w) (threads_in meant places t)) old
    → (lines : List Line) (arrays : List ℕ) (made : List MadeText) → IsStrictlyIncreasing arrays → AreNamed lines arrays → references_of made ≡ arrays
    → All (AreUnitsThen old (words_in w)) made → (core : Core S) → IsCoreOf meant w places core → AreTextsOf core lines made
are_texts {C} {S} meant w places old are lines arrays made rising named same units core is =
    texts_of_core core old
    (subst (λ (words : Words). AreOldest (λ t. back_in words (core.threads t)) old) (sym is.words)
    (subst (λ (threads : ℕ → Option (ThreadState S)). AreOldest (λ t. back_in (words_in w) (threads t)) old) (sym is.threads) are))
    lines arrays made rising named same
    (subst (λ (words : Words). All (AreUnitsThen old words) made) (sym is.words) units)

-- where no line names an array there are none
pub no_texts : {S : Type 0} (core : Core S) (lines : List Line) (arrays : List ℕ) → length arrays ≡ 0 → IsStrictlyIncreasing arrays → AreNamed lines arrays → AreTextsOf core lines []
no_texts core lines (a ∷ arrays) none rising named = absurd (omega (arith, none))
no_texts core lines [] none rising named = record {
  rising = rising;
  each = named;
  units = All-nil (λ (text : MadeText). AreUnitsOf core text.at text.units);
}

pub both_give : {A E : Type 0} {P Q R : A → Type 0} (result : Result A E) → ((x : A) → P x → Q x → R x) → IfOk result P → IfOk result Q → IfOk result R
both_give (Ok x) give p q = give x p q
both_give (Err e) give p q = tt
