-- One step on the block of a table, as a processor makes it.
use Rattle.std.proofs.Common.{◌≡◌, ℕ, zero, suc, ◌+◌, ◌%◌, ◌^◌, ◌<◌, ◌==◌, Bool, true, false, List, [], ◌∷◌, length, set, get_or, refl, sym, ap, ◌∙◌, arith, eq-eqb, ne_eqb, get_or-set_same, mod-eq_of_lt}
use Rattle.std.proofs.Math.Seq.{get_or-set_other}
use Rattle.std.proofs.Math.Path.{fun_ext}
use Rattle.std.proofs.lemmas.Bool.{lt-ltb}
use Rattle.std.specs.Prelude.{nat_eq, slice_index, slice_set, if◌then◌else◌}
use mathlib.Core.Logic.{dite}
use native.Mathlib.Decide.{ℕ_discrete}
use prog.Atomic.{either}
use Rattle.op_core.specs.OrdinaryState.{set_at}
use Rattle.heap_words.specs.declared.areas.Area.{Area}
use Rattle.heap_words.specs.declared.areas.Area.TheVariants.{Control, Section, Thread, Wait, Class, Object}
use Rattle.heap_words.specs.declared.areas.Areas.{Areas}
use Rattle.heap_words.specs.Areas.{place_in, size_of, number_in, count_in, IsIn}
use Rattle.plain_words.specs.Block.{word_at, words_of}
use Rattle.plain_words.specs.Table.{HasRoom}
use Rattle.plain_words.proofs.BlockLemmas.{block_put}
use Rattle.step_port.specs.declared.step.Effect.{Effect}
use Rattle.step_port.specs.declared.step.Effect.TheVariants.{Load, Store, Exchange, Add}
use Rattle.step_port.specs.Words.{put_at, put_by}

-- what becomes of the word, as a processor does it
abbrev pub word_after : Effect → ℕ → ℕ
word_after Load = λ n. n
word_after (Store v) = λ n. v
word_after (Exchange old new) = λ n. either (n == old) new n
word_after (Add k) = λ n. (n + k) % 2 ^ 64

below : (k : Areas) (a : Area) → IsIn k a → place_in k a < size_of k
below k (Control n) there = omega (arith, there)
below k (Section n) there = omega (arith, there)
below k (Thread n) there = omega (arith, there)
below k (Wait n) there = omega (arith, there)
below k (Class n) there = omega (arith, there)
below k (Object n) there = omega (arith, there)

pub here : (k : Areas) (ws : List ℕ) (a : Area) → IsIn k a → words_of k (word_at ws) a ≡ slice_index ws (place_in k a)
here k ws a there = ap (λ (t : Bool). if t then slice_index ws (place_in k a) else 0) (lt-ltb (number_in a) (count_in k a) there)

set_same : (l : List ℕ) (i : ℕ) → set l i (get_or l i 0) ≡ l
set_same [] i = refl
set_same (x ∷ xs) zero = refl
set_same (x ∷ xs) (suc i) = ap (λ l. x ∷ l) (set_same xs i)

set_word : (ws : List ℕ) (i v : ℕ) → i < length ws → word_at (slice_set ws i v) ≡ set_at (word_at ws) i v
set_word ws i v lt = fun_ext (λ j. dite (ℕ_discrete j i)
    (λ e. ap (λ n. slice_index (slice_set ws i v) n) e ∙ get_or-set_same ws i v 0 lt ∙ sym (ap (λ (t : Bool). if t then v else slice_index ws j) (eq-eqb j i e)))
    (λ ne. get_or-set_other ws i j v 0 ne ∙ sym (ap (λ (t : Bool). if t then v else slice_index ws j) (ne_eqb j i ne))))

module _ (k : Areas) (ws : List ℕ) (a : Area) (there : IsIn k a) (long : length ws ≡ size_of k) where
  put : (v : ℕ) → words_of k (word_at (slice_set ws (place_in k a) v)) ≡ put_at (words_of k (word_at ws)) a v
  put v =
      let lt = below k a there in
      ap (λ f. words_of k f) (set_word ws (place_in k a) v (omega (arith, lt, long))) ∙ block_put k (word_at ws) a v there

  stay : words_of k (word_at (slice_set ws (place_in k a) (slice_index ws (place_in k a)))) ≡ words_of k (word_at ws)
  stay = ap (λ l. words_of k (word_at l)) (set_same ws (place_in k a))

  -- the step on the block is the step on the words
  pub steps_so : (e : Effect) → HasRoom e (slice_index ws (place_in k a))
      → words_of k (word_at (slice_set ws (place_in k a) (word_after e (slice_index ws (place_in k a))))) ≡ put_by e (words_of k (word_at ws)) a
  steps_so Load room = stay
  steps_so (Store v) room = put v
  steps_so (Exchange old new) room = dite (ℕ_discrete (slice_index ws (place_in k a)) old)
      (λ e.
      let found : nat_eq (words_of k (word_at ws) a) old ≡ true = eq-eqb _ _ (here k ws a there ∙ e) in
      ap (λ (t : Bool). words_of k (word_at (slice_set ws (place_in k a) (either t new (slice_index ws (place_in k a)))))) (eq-eqb _ _ e)
      ∙ put new
      ∙ sym (ap (λ (t : Bool). if t then put_at (words_of k (word_at ws)) a new else words_of k (word_at ws)) found))
      (λ ne.
      let found : nat_eq (words_of k (word_at ws) a) old ≡ false = ne_eqb _ _ (λ e. ne (sym (here k ws a there) ∙ e)) in
      ap (λ (t : Bool). words_of k (word_at (slice_set ws (place_in k a) (either t new (slice_index ws (place_in k a)))))) (ne_eqb _ _ ne)
      ∙ stay
      ∙ sym (ap (λ (t : Bool). if t then put_at (words_of k (word_at ws)) a new else words_of k (word_at ws)) found))
  steps_so (Add n) room =
      ap (λ v. words_of k (word_at (slice_set ws (place_in k a) v))) (mod-eq_of_lt room)
      ∙ put (slice_index ws (place_in k a) + n)
      ∙ ap (λ v. put_at (words_of k (word_at ws)) a (v + n)) (sym (here k ws a there))
