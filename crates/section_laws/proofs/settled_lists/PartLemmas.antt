-- Which words are put back, as levels are opened, closed and undone, and as the log grows and shrinks.
use Rattle.std.proofs.Common.{◌≡◌, ◌≢◌, ◌⊎◌, ℕ, zero, suc, ◌+◌, ◌-◌, ◌<◌, ◌≤◌, Bool, true, false, List, [], ◌∷◌, length, take, drop, refl, sym, ◌∙◌, ap, subst, inl, inr, arith}
use Rattle.std.proofs.lemmas.List.{get_or-drop}
use Rattle.write_log.specs.declared.Noted.{Noted}
use Rattle.thread_automaton.specs.declared.Held.{Held}
use Rattle.thread_automaton.specs.ThreadState.{Mark, nth_or, no_mark, noted_since}
use Rattle.section_laws.specs.Settled.{count_more, to_undo, words_back}

-- ---- the log since it had n entries

pub none_since : (log : List Noted) → noted_since (length log) log ≡ []
none_since log = ap (λ n. take n log) (same (length log))
  where
    same : (n : ℕ) → n - n ≡ 0
    same n = omega arith

pub more_since : (n : ℕ) (x : Noted) (log : List Noted) → n ≤ length log → noted_since n (x ∷ log) ≡ x ∷ noted_since n log
more_since n x log low = ap (λ k. take k (x ∷ log)) (next (length log) n low)
  where
    next : (m n : ℕ) → n ≤ m → suc m - n ≡ suc (m - n)
    next m n low = omega (arith, low)

-- what is put back is the newest of it
pub less_since : (n : ℕ) (log : List Noted) (x : Noted) (rest : List Noted) → noted_since n log ≡ x ∷ rest → noted_since n (drop 1 log) ≡ rest
less_since n [] x rest is = by_take (0 - n) is
  where
    by_take : (k : ℕ) → take k [] ≡ x ∷ rest → noted_since n [] ≡ rest
    by_take zero is = cc
    by_take (suc k) is = cc
less_since n (y ∷ log) x rest is = by_place (suc (length log) - n) refl is
  where
    one_less : (m n k : ℕ) → suc m - n ≡ suc k → m - n ≡ k
    one_less m n k is = omega (arith, is)

    by_place : (k : ℕ) → suc (length log) - n ≡ k → take k (y ∷ log) ≡ x ∷ rest → noted_since n log ≡ rest
    by_place zero is_k is = cc
    by_place (suc k) is_k is = ap (λ m. take m log) (one_less (length log) n k is_k) ∙ ap (drop 1) is

-- ---- levels

pub less_to_undo : (doomed : ℕ → Bool) (j : ℕ) (levels : List ℕ) → to_undo doomed (drop j levels) ≡ to_undo doomed levels - j
less_to_undo doomed zero levels = none (to_undo doomed levels)
  where
    none : (n : ℕ) → n ≡ n - 0
    none n = omega arith
less_to_undo doomed (suc j) [] = none j
  where
    none : (j : ℕ) → 0 ≡ 0 - suc j
    none j = omega arith
less_to_undo doomed (suc j) (p ∷ levels) = less_to_undo doomed j levels ∙ one (doomed p) (to_undo doomed levels) j
  where
    one : (b : Bool) (n j : ℕ) → n - j ≡ count_more b n - suc j
    one true zero j = omega arith
    one false zero j = omega arith
    one b (suc n) j = omega arith

-- a level is opened
pub opened_back : (doomed : ℕ → Bool) (k : ℕ) (levels : List ℕ) (silents : ℕ) (held : List Held) (marks : List Mark) (log : List Noted)
    → words_back (to_undo doomed (k ∷ levels)) (record { silents = silents; noted = length log; held = held } ∷ marks) log
    ≡ words_back (to_undo doomed levels) marks log
opened_back doomed k levels silents held marks log = by_count (doomed k) (to_undo doomed levels)
  where
    by_count : (b : Bool) (n : ℕ)
        → words_back (count_more b n) (record { silents = silents; noted = length log; held = held } ∷ marks) log ≡ words_back n marks log
    by_count true zero = none_since log
    by_count false zero = refl
    by_count b (suc n) = refl

-- levels are closed or undone that are inside of the outermost doomed one
pub closed_back : (doomed : ℕ → Bool) (j : ℕ) (levels : List ℕ) (marks : List Mark) (log : List Noted)
    → (to_undo doomed levels ≡ 0) ⊎ (j < to_undo doomed levels)
    → words_back (to_undo doomed (drop j levels)) (drop j marks) log ≡ words_back (to_undo doomed levels) marks log
closed_back doomed j levels marks log inner = by_count (to_undo doomed levels) (to_undo doomed (drop j levels)) (less_to_undo doomed j levels) inner
  where
    by_count : (n m : ℕ) → m ≡ n - j → (n ≡ 0) ⊎ (j < n) → words_back m (drop j marks) log ≡ words_back n marks log
    by_count zero zero is inner = refl
    by_count zero (suc m) is inner = absurd (no m j is)
      where
        no : (m j : ℕ) → suc m ≡ 0 - j → ⊥
        no m j is = omega (arith, is)
    by_count (suc n) zero is inner = absurd (elim inner [ inl none ↦ not_none n none | inr low ↦ no n j is low ])
      where
        not_none : (n : ℕ) → suc n ≡ 0 → ⊥
        not_none n is = omega (arith, is)

        no : (n j : ℕ) → 0 ≡ suc n - j → j < suc n → ⊥
        no n j is low = omega (arith, is, low)
    by_count (suc n) (suc m) is inner = ap (λ (x : Mark). noted_since x.noted log) (get_or-drop j marks m no_mark ∙ ap (λ k. nth_or no_mark k marks) (sum n m j is))
      where
        sum : (n m j : ℕ) → suc m ≡ suc n - j → j + m ≡ n
        sum n m j is = omega (arith, is)

-- the outermost doomed level is undone with all that are inside of it: nothing is left to put back
pub undone_back : (doomed : ℕ → Bool) (levels : List ℕ) (marks : List Mark) (log : List Noted)
    → words_back (to_undo doomed (drop (to_undo doomed levels) levels)) marks log ≡ []
undone_back doomed levels marks log = by_count (to_undo doomed (drop (to_undo doomed levels) levels)) (less_to_undo doomed (to_undo doomed levels) levels)
  where
    same : (n m : ℕ) → m ≡ n - n → m ≡ 0
    same n m is = omega (arith, is)

    by_count : (m : ℕ) → m ≡ to_undo doomed levels - to_undo doomed levels → words_back m marks log ≡ []
    by_count m is = ap (λ k. words_back k marks log) (same (to_undo doomed levels) m is)

-- a word is logged, where something is to be undone
pub noted_back : (n : ℕ) (marks : List Mark) (x : Noted) (log : List Noted) → (nth_or no_mark n marks).noted ≤ length log
    → words_back (suc n) marks (x ∷ log) ≡ x ∷ words_back (suc n) marks log
noted_back n marks x log low = more_since (nth_or no_mark n marks).noted x log low
