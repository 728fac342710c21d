-- Logs that are put back, as words change, and values of words.
use Rattle.std.proofs.Common.{◌≡◌, ◌≢◌, ◌⊎◌, inl, inr, ℕ, zero, suc, ◌-◌, ◌^◌, ◌<◌, Bool, true, false, List, [], ◌∷◌, take, refl, sym, ◌∙◌, ap, arith}
use Rattle.op_core.specs.OrdinaryState.{set_at}
use Rattle.op_core.proofs.PointwiseLemmas.{same_or_other, set_at-hit, set_at-other}
use Rattle.heap_words.specs.Words.{pack, value_of}
use Rattle.write_log.specs.declared.Noted.{Noted}
use Rattle.thread_automaton.specs.ThreadState.{Mark, no_mark, nth_or}
use Rattle.section_laws.specs.Settled.{words_back, replay, notes}
use Rattle.section_laws.proofs.settled_lists.ReplayLemmas.{noted_or, replay_unnoted}

-- what is put back doesn't depend on the words as they are
pub replay_noted : (log : List Noted) (f g : ℕ → ℕ) (p : ℕ) → notes p log ≡ true → replay log f p ≡ replay log g p
replay_noted [] f g p has = cc
replay_noted (x ∷ log) f g p has = by_test (notes p log) refl (λ later. replay_noted log (set_at f x.at x.old) (set_at g x.at x.old) p later)
  where
    first : (t : Bool) → notes p log ≡ false → (p ≡ x.at) ⊎ (notes p log ≡ true) → set_at f x.at x.old p ≡ set_at g x.at x.old p
    first t none (inl here) = ap (set_at f x.at x.old) here ∙ set_at-hit f x.at x.old ∙ sym (ap (set_at g x.at x.old) here ∙ set_at-hit g x.at x.old)
    first t none (inr later) = cc

    by_test : (t : Bool) → notes p log ≡ t → (notes p log ≡ true → replay log (set_at f x.at x.old) p ≡ replay log (set_at g x.at x.old) p) → replay log (set_at f x.at x.old) p ≡ replay log (set_at g x.at x.old) p
    by_test true is more = more is
    by_test false is more = replay_unnoted log (set_at f x.at x.old) p is ∙ first false is (noted_or p x log has) ∙ sym (replay_unnoted log (set_at g x.at x.old) p is)

none_taken : {A : Type 0} (k : ℕ) → take {A = A} k [] ≡ []
none_taken zero = refl
none_taken (suc k) = refl

-- with nothing logged nothing is put back
pub none_back : (n : ℕ) (marks : List Mark) → words_back n marks [] ≡ []
none_back zero marks = refl
none_back (suc n) marks = none_taken (0 - (nth_or no_mark n marks).noted)

-- ---- values, and words by object

pub zero_value : value_of 0 ≡ 0
unfolding value_of
zero_value = refl

pub value_written : (v tag : ℕ) → v < 2 ^ 32 → value_of (pack v tag) ≡ v
unfolding value_of pack
value_written v tag low = omega (arith, low)

-- at another word
pub set_elsewhere : (f : ℕ → ℕ → ℕ) (r i v q j : ℕ) → (q ≡ r → j ≢ i) → set_at f r (set_at (f r) i v) q j ≡ f q j
set_elsewhere f r i v q j other = elim (same_or_other q r) [
  | inl same ↦ ap (λ n. set_at f r (set_at (f r) i v) n j) same ∙ ap (λ (g : ℕ → ℕ). g j) (set_at-hit f r (set_at (f r) i v)) ∙ set_at-other (f r) i v j (other same) ∙ ap (λ n. f n j) (sym same)
  | inr apart ↦ ap (λ (g : ℕ → ℕ). g j) (set_at-other f r (set_at (f r) i v) q apart)
]

pub set_here : (f : ℕ → ℕ → ℕ) (r i v : ℕ) → set_at f r (set_at (f r) i v) r i ≡ v
set_here f r i v = ap (λ (g : ℕ → ℕ). g i) (set_at-hit f r (set_at (f r) i v)) ∙ set_at-hit (f r) i v
