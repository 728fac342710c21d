-- A word of an object gets a value, and every other part of the ordinary state that words stand for stays.
use Rattle.std.proofs.Common.{◌≡◌, ◌≢◌, ◌⊎◌, inl, inr, ℕ, ◌+◌, ◌<◌, ◌≤◌, Bool, true, Some, sym, ◌∙◌, ap, arith}
use Rattle.std.proofs.lemmas.Option.{same_Some}
use Rattle.op_core.specs.OrdinaryState.{set_at, Object}
use Rattle.op_core.proofs.PointwiseLemmas.{same_or_other, set_at-hit, set_at-other}
use Rattle.heap_words.specs.declared.areas.Area.{Area}
use Rattle.heap_words.specs.Words.{value_of}
use Rattle.step_port.specs.Words.{Words}
use Rattle.ordinary_words.specs.Reading.{word_in, start_in}
use Rattle.section_laws.specs.Layout.{Objects, object_end}
use Rattle.section_laws.proofs.run_layout.PlaceLemmas.{one_place}
use Rattle.first_law.proofs.StateLemmas.{word_is, word_kept, start_kept}

-- where in an object's words a place lies that isn't that of word i of the object at r
module _ (is_thread : ℕ → Bool) (objects : Objects) (apart : (r q : ℕ) (o p : Object) → objects r ≡ Some o → objects q ≡ Some p → r ≢ q → (object_end r o ≤ q) ⊎ (object_end q p ≤ r))
    (starts : (q : ℕ) (o : Object) → objects q ≡ Some o → is_thread o.class ≡ true → 1 < o.words) (w v : Words) (r i new : ℕ) (o : Object) (there : objects r ≡ Some o) (low : i < o.words)
    (plain : is_thread o.class ≡ true → i ≢ 1) (puts : v (Area.Object (r + 2 + i)) ≡ new) (others : (p : ℕ) → p ≢ r + 2 + i → v (Area.Object p) ≡ w (Area.Object p)) where
  pub words_put : (q j : ℕ) → word_in is_thread v q j (objects q) ≡ set_at (λ q j. word_in is_thread w q j (objects q)) r (set_at (λ j. word_in is_thread w r j (objects r)) i (value_of new)) q j
  words_put q j = elim (same_or_other q r) [
    | inl own ↦ ap (λ n. word_in is_thread v n j (objects n)) own ∙ own_words j
        ∙ sym (ap (λ n. set_at (λ q j. word_in is_thread w q j (objects q)) r (set_at (λ j. word_in is_thread w r j (objects r)) i (value_of new)) n j) own
        ∙ ap (λ f. f j) (set_at-hit (λ q j. word_in is_thread w q j (objects q)) r (set_at (λ j. word_in is_thread w r j (objects r)) i (value_of new))))
    | inr other ↦ word_kept is_thread w v q j (objects q) (λ p there_p low_p plain_p. ap value_of (others (q + 2 + j) (λ same. other (place_of q j p there_p low_p same).0)))
        ∙ sym (ap (λ f. f j) (set_at-other (λ q j. word_in is_thread w q j (objects q)) r (set_at (λ j. word_in is_thread w r j (objects r)) i (value_of new)) q other))
  ]
    where
      place_of : (q j : ℕ) (p : Object) → objects q ≡ Some p → j < p.words → q + 2 + j ≡ r + 2 + i → (q ≡ r) × (2 + j ≡ 2 + i)
      place_of q j p there_p low_p same = one_place objects apart q r p o there_p there (2 + j) (2 + i) (omega (arith, low_p)) (omega (arith, low)) (omega (arith, same))

      own_words : (j : ℕ) → word_in is_thread v r j (objects r) ≡ set_at (λ j. word_in is_thread w r j (objects r)) i (value_of new) j
      own_words j = elim (same_or_other j i) [
        | inl here ↦ ap (λ n. word_in is_thread v r n (objects r)) here ∙ ap (word_in is_thread v r i) there ∙ word_is is_thread v r i o low plain ∙ ap value_of puts
            ∙ sym (ap (set_at (λ j. word_in is_thread w r j (objects r)) i (value_of new)) here ∙ set_at-hit (λ j. word_in is_thread w r j (objects r)) i (value_of new))
        | inr other ↦ word_kept is_thread w v r j (objects r) (λ p there_p low_p plain_p. ap value_of (others (r + 2 + j) (λ same. other (back r j i same))))
            ∙ sym (set_at-other (λ j. word_in is_thread w r j (objects r)) i (value_of new) j other)
      ]
        where
          back : (r j i : ℕ) → r + 2 + j ≡ r + 2 + i → j ≡ i
          back r j i same = omega (arith, same)

  -- it is no monitor
  pub monitor_else : (q : ℕ) (p : Object) → objects q ≡ Some p → v (Area.Object (q + 1)) ≡ w (Area.Object (q + 1))
  monitor_else q p there_p = others (q + 1) (λ same. not_one i (one_place objects apart q r p o there_p there 1 (2 + i) (omega arith) (omega (arith, low)) (omega (arith, same))).1)
    where
      not_one : (i : ℕ) → 1 ≡ 2 + i → ⊥
      not_one i same = omega (arith, same)

  -- and no start word
  pub starts_else : (q : ℕ) → start_in is_thread v q (objects q) ≡ start_in is_thread w q (objects q)
  starts_else q = start_kept is_thread w v q (objects q) (λ p there_p thread. others (q + 3) (λ same. not_start p there_p thread
      (one_place objects apart q r p o there_p there 3 (2 + i) (let some = starts q p there_p thread in omega (arith, some)) (omega (arith, low)) (omega (arith, same)))))
    where
      not_start : (p : Object) → objects q ≡ Some p → is_thread p.class ≡ true → (q ≡ r) × (3 ≡ 2 + i) → ⊥
      not_start p there_p thread (own, three) =
          plain (ap (λ (x : Object). is_thread x.class) (same_Some o p (sym there ∙ ap objects (sym own) ∙ there_p)) ∙ thread) (omega (arith, three))
