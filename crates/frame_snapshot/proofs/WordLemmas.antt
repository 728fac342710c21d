-- A part of a row of words, after a write of one word.
use Rattle.std.proofs.Common.{◌≡◌, ℕ, ◌+◌, ◌-◌, ◌<◌, ◌≤◌, List, [], ◌∷◌, length, take, drop, set, reverse, get_or, sym, ◌∙◌, ap, arith, length-drop}
use Rattle.std.proofs.lemmas.List.{take-set-le, drop-set-lt, drop-set-add, take_more, reverse-append}
use Rattle.std.proofs.Math.Seq.{take-set-lt}
use Rattle.std.proofs.lemmas.Grind.{take-set_at}

-- a write inside, above and below
pub cut_set_inside : (xs : List ℕ) (base n k v : ℕ) → k < n → take n (drop base (set xs (base + k) v)) ≡ set (take n (drop base xs)) k v
cut_set_inside xs base n k v inside = ap (take n) (drop-set-add base xs k v) ∙ take-set-lt n (drop base xs) k v inside

pub cut_set_above : (xs : List ℕ) (base n at v : ℕ) → base + n ≤ at → take n (drop base (set xs at v)) ≡ take n (drop base xs)
cut_set_above xs base n at v above =
    let is : at ≡ base + (at - base) = omega (arith, above) in
    ap (λ i. take n (drop base (set xs i v))) is
    ∙ ap (take n) (drop-set-add base xs (at - base) v)
    ∙ take-set-le n (drop base xs) (at - base) v (omega (arith, above))

pub cut_set_below : (xs : List ℕ) (base n at v : ℕ) → at < base → take n (drop base (set xs at v)) ≡ take n (drop base xs)
cut_set_below xs base n at v below = ap (take n) (drop-set-lt base xs at v below)

-- a word is pushed onto a stack whose top is the last, and one is popped
pub stack_pushed : (xs : List ℕ) (floor top v : ℕ) → floor ≤ top → top < length xs → reverse (take (top + 1 - floor) (drop floor (set xs top v))) ≡ v ∷ reverse (take (top - floor) (drop floor xs))
stack_pushed xs floor top v order inside =
    let is : top ≡ floor + (top - floor) = omega (arith, order) in
    let more : top + 1 - floor ≡ (top - floor) + 1 = omega (arith, order) in
    let below : top - floor < length (drop floor xs) = omega (arith, order, inside, length-drop floor xs) in
    ap (λ i. reverse (take (top + 1 - floor) (drop floor (set xs i v)))) is
    ∙ ap (λ ys. reverse (take (top + 1 - floor) ys)) (drop-set-add floor xs (top - floor) v)
    ∙ ap reverse (take-set_at (drop floor xs) (top - floor) (top + 1 - floor) v more below)
    ∙ reverse-append (take (top - floor) (drop floor xs)) (v ∷ [])

pub stack_popped : (xs : List ℕ) (floor top : ℕ) → floor < top → top ≤ length xs → reverse (take (top - 1 - floor) (drop floor xs)) ≡ drop 1 (reverse (take (top - floor) (drop floor xs)))
stack_popped xs floor top order inside =
    let more : top - floor ≡ (top - 1 - floor) + 1 = omega (arith, order) in
    let below : top - 1 - floor < length (drop floor xs) = omega (arith, order, inside, length-drop floor xs) in
    sym (ap (λ n. drop 1 (reverse (take n (drop floor xs)))) more
    ∙ ap (λ ys. drop 1 (reverse ys)) (take_more (drop floor xs) (top - 1 - floor) 0 below)
    ∙ ap (drop 1) (reverse-append (take (top - 1 - floor) (drop floor xs)) (get_or (drop floor xs) (top - 1 - floor) 0 ∷ [])))
