-- Monitors that are held, looked through from the oldest on.
use Rattle.std.proofs.Common.{◌≡◌, ℕ, zero, suc, ◌+◌, ◌<◌, Bool, true, false, ◌||◌, not, Option, Some, None, List, [], ◌∷◌, ◌++◌, length, reverse, take, nat_eq, refl, sym, ◌∙◌, ap}
use Rattle.std.specs.Prelude.{nat_lt, nat_le, get_or, slice_get, if◌then◌else◌}
use Rattle.std.specs.List.{list_any}
use Rattle.std.proofs.lemmas.List.{reverse-append}
use Rattle.std.proofs.Math.Seq.{take-suc}
use Rattle.thread_automaton.specs.declared.Held.{Held}
use Rattle.thread_automaton.specs.ThreadState.{held_as, from_level, highest}
use Rattle.thread_automaton.specs.Changes.{without}
use Rattle.thread_moves.specs.Items.{is_some_item}

newest_next : (xs : List Held) (k : ℕ) (x : Held) → k < length xs → reverse (take (suc k) xs) ≡ get_or xs k x ∷ reverse (take k xs)
newest_next xs k x low = ap reverse (take-suc xs k x low) ∙ reverse-append (take k xs) (get_or xs k x ∷ [])

pub find_next : (r : ℕ) (xs : List Held) (k : ℕ) (x : Held) → k < length xs
    → held_as r (reverse (take (suc k) xs)) ≡ (if nat_eq (get_or xs k x).object r then get_or xs k x else held_as r (reverse (take k xs)))
find_next r xs k x low = ap (held_as r) (newest_next xs k x low)

pub level_next : (n : ℕ) (xs : List Held) (k : ℕ) (x : Held) → k < length xs
    → list_any (λ (h : Held). nat_eq h.level n) (reverse (take (suc k) xs)) ≡ (nat_eq (get_or xs k x).level n || list_any (λ (h : Held). nat_eq h.level n) (reverse (take k xs)))
level_next n xs k x low = ap (list_any (λ (h : Held). nat_eq h.level n)) (newest_next xs k x low)

pub from_next : (n : ℕ) (xs : List Held) (k : ℕ) (x : Held) → k < length xs
    → slice_get (from_level n (reverse (take (suc k) xs))) 0 ≡ (if nat_le n (get_or xs k x).level then Some (get_or xs k x) else slice_get (from_level n (reverse (take k xs))) 0)
from_next n xs k x low = ap (λ ys. slice_get (from_level n ys) 0) (newest_next xs k x low) ∙ by_test (nat_le n (get_or xs k x).level)
  where
    by_test : (t : Bool) → slice_get (if t then get_or xs k x ∷ from_level n (reverse (take k xs)) else from_level n (reverse (take k xs))) 0
        ≡ (if t then Some (get_or xs k x) else slice_get (from_level n (reverse (take k xs))) 0)
    by_test true = refl
    by_test false = refl

pub others_next : (r : ℕ) (xs : List Held) (k : ℕ) (x : Held) → k < length xs
    → is_some_item (without r (reverse (take (suc k) xs))) ≡ (not (nat_eq (get_or xs k x).object r) || is_some_item (without r (reverse (take k xs))))
others_next r xs k x low = ap (λ ys. is_some_item (without r ys)) (newest_next xs k x low) ∙ by_test (not (nat_eq (get_or xs k x).object r))
  where
    by_test : (t : Bool) → is_some_item (if t then get_or xs k x ∷ without r (reverse (take k xs)) else without r (reverse (take k xs)))
        ≡ (t || is_some_item (without r (reverse (take k xs))))
    by_test true = refl
    by_test false = refl

pub highest_next : (r : ℕ) (xs : List Held) (k : ℕ) (x : Held) → k < length xs
    → highest (without r (reverse (take (suc k) xs)))
    ≡ (if not (nat_eq (get_or xs k x).object r) then (if nat_lt (highest (without r (reverse (take k xs)))) (get_or xs k x).level then (get_or xs k x).level
    else highest (without r (reverse (take k xs)))) else highest (without r (reverse (take k xs))))
highest_next r xs k x low = ap (λ ys. highest (without r ys)) (newest_next xs k x low) ∙ by_test (not (nat_eq (get_or xs k x).object r))
  where
    by_test : (t : Bool) → highest (if t then get_or xs k x ∷ without r (reverse (take k xs)) else without r (reverse (take k xs)))
        ≡ (if t then (if nat_lt (highest (without r (reverse (take k xs)))) (get_or xs k x).level then (get_or xs k x).level else highest (without r (reverse (take k xs))))
        else highest (without r (reverse (take k xs))))
    by_test true = refl
    by_test false = refl
