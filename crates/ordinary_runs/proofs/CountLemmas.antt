-- Counts of turns by thread number, and how many more can count.
use Rattle.std.proofs.Common.{◌≡◌, ℕ, zero, suc, ◌+◌, ◌-◌, ◌<◌, ◌≤◌, inl, inr, get_or, replicate, refl, sym, ap, subst, arith}
use Rattle.std.proofs.Math.Path.{fun_ext}
use Rattle.std.proofs.lemmas.Bool.{cases_lt}
use Rattle.std.proofs.lemmas.List.{get_or-replicate, get_or_past, length-replicate}
use Rattle.op_core.specs.OrdinaryState.{set_at}
use Rattle.op_core.proofs.PointwiseLemmas.{same_or_other, set_at-hit, set_at-other}

-- in a table of zeros each count is 0
pub zero_everywhere : (n : ℕ) → ◌≡◌ {A = ℕ → ℕ} (λ t. get_or (replicate n 0) t 0) (λ t. 0)
zero_everywhere n = fun_ext (λ t. elim (cases_lt t n) [
  | inl below ↦ get_or-replicate n t 0 0 below
  | inr above ↦ get_or_past (replicate n 0) t 0 (subst (λ k. k ≤ t) (sym (length-replicate n 0)) above)
])

-- how many turns the threads below number n have left
pub counted_left : ℕ → (ℕ → ℕ) → ℕ → ℕ
counted_left turns counted zero = 0
counted_left turns counted (suc n) = (turns - counted n) + counted_left turns counted n

left_same : (turns n t v : ℕ) (f : ℕ → ℕ) → n ≤ t → counted_left turns (set_at f t v) n ≡ counted_left turns f n
unfolding counted_left
left_same turns zero t v f above = refl
left_same turns (suc n) t v f above =
    let head : set_at f t v n ≡ f n = set_at-other f t v n (λ is. omega (arith, above, is)) in
    let tail = left_same turns n t v f (omega (arith, above)) in
    λ i. (turns - head i) + tail i

sum_less : (turns a b c d : ℕ) → b ≡ a + 1 → a < turns → d ≡ c → (turns - b) + d < (turns - a) + c
sum_less turns a b c d one has same = omega (arith, one, has, same)

-- a turn more that counted is one less that is left
pub left_less : (turns n t : ℕ) (f : ℕ → ℕ) → t < n → f t < turns → counted_left turns (set_at f t (f t + 1)) n < counted_left turns f n
unfolding counted_left
left_less turns zero t f below has = absurd (omega (arith, below))
left_less turns (suc n) t f below has = elim (same_or_other n t) [
  | inl is ↦
      let head : set_at f t (f t + 1) n ≡ f n + 1 = subst (λ k. set_at f t (f t + 1) k ≡ f k + 1) (sym is) (set_at-hit f t (f t + 1)) in
      let room : f n < turns = subst (λ k. f k < turns) (sym is) has in
      sum_less turns (f n) (set_at f t (f t + 1) n) (counted_left turns f n) (counted_left turns (set_at f t (f t + 1)) n) head room (left_same turns n t (f t + 1) f (omega (arith, is)))
  | inr other ↦
      let head : set_at f t (f t + 1) n ≡ f n = set_at-other f t (f t + 1) n other in
      let tail = left_less turns n t f (omega (arith, below, other)) has in
      let more : (a b c d : ℕ) → b ≡ a → d < c → b + d < a + c = λ a b c d same less. omega (arith, same, less) in
      more (turns - f n) (turns - set_at f t (f t + 1) n) (counted_left turns f n) (counted_left turns (set_at f t (f t + 1)) n) (ap (λ k. turns - k) head) tail
]
