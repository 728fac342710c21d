-- Texts, piece by piece.
use Rattle.std.proofs.Common.{◌≡◌, ℕ, ◌+◌, ◌*◌, ◌/◌, ◌%◌, List, ◌++◌, ◌∙◌, sym, ap, append_assoc, add-one, arith}
use Rattle.std.proofs.Math.Nat.{mod-add-div, add-mul-mod_self_left}
use Rattle.stress_texts.specs.declared.template.TheConstants.{BEGINS, KEEPS, PUTS, MAKES, RANKS, MADE, RUNS}
use Rattle.stress_texts.specs.Texts.{workers, seed, priority, with_number, worker_lines, made, stress_text}

low_sum : (n i m : ℕ) → (n % m + i) % m ≡ (n + i) % m
low_sum n i m =
    let whole : n % m + m * (n / m) ≡ n = mod-add-div n m in
    let same : n % m + i + m * (n / m) ≡ n + i = omega arith in
    sym (add-mul-mod_self_left (n % m + i) m (n / m)) ∙ ap (λ (k : ℕ). k % m) same

four : (old a b c d : List ℕ) → (((old ++ a) ++ b) ++ c) ++ d ≡ old ++ (((a ++ b) ++ c) ++ d)
four old a b c d = simp append_assoc

pub worker_made : (n i : ℕ) (old first second third new : List ℕ) → first ≡ old ++ with_number PUTS.now i
    → second ≡ first ++ with_number MAKES.now ((n % 2147483648 + i) % 2147483648) → third ≡ second ++ with_number RANKS.now (priority i)
    → new ≡ third ++ MADE.now → new ≡ old ++ worker_lines n i
unfolding worker_lines
worker_made n i old first second third new p q r s =
    s ∙ ap (λ (t : List ℕ). t ++ MADE.now)
    (r ∙ ap (λ (t : List ℕ). t ++ with_number RANKS.now (priority i))
    (q ∙ ap (λ (t : List ℕ). t ++ with_number MAKES.now ((n % 2147483648 + i) % 2147483648)) p
    ∙ ap (λ (z : ℕ). (old ++ with_number PUTS.now i) ++ with_number MAKES.now z) (low_sum n i 2147483648)))
    ∙ four old (with_number PUTS.now i) (with_number MAKES.now (seed n i)) (with_number RANKS.now (priority i)) MADE.now

-- `Stress` up to its workers
abbrev pub front : ℕ → List ℕ
front n = with_number BEGINS.now (workers n) ++ KEEPS.now

pub one_more : (n i : ℕ) (old new : List ℕ) → old ≡ front n ++ made n i → new ≡ old ++ worker_lines n i → new ≡ front n ++ made n (i + 1)
one_more n i old new p q = rw add-one (q ∙ ap (λ (t : List ℕ). t ++ worker_lines n i) p ∙ append_assoc (front n) (made n i) (worker_lines n i))

pub all_made : (n k : ℕ) (old new : List ℕ) → old ≡ front n ++ made n k → k ≡ workers n → new ≡ old ++ RUNS.now → new ≡ stress_text n
unfolding stress_text
all_made n k old new p same q =
    q ∙ ap (λ (t : List ℕ). t ++ RUNS.now) p ∙ ap (λ (i : ℕ). (front n ++ made n i) ++ RUNS.now) same
