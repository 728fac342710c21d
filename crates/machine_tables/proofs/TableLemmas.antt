-- Laws of the tables.
use Rattle.std.proofs.Common.{◌≡◌, ℕ, zero, suc, ◌<◌, ◌≤◌, ◌↔◌, Bool, true, false, cond, Option, None, Some, is_some, IsNone, IsTrue, MatchOption, List, [], ◌∷◌, ◌++◌, length, get_or, slice_get, slice_set, unwrap_or, nat_lt, ◌&&◌, arith, refl, sym, ◌∙◌, ap, subst}
use Rattle.std.proofs.Math.Path.{fun_ext}
use Rattle.std.proofs.lemmas.Bool.Decides.{nat_tests}
use Rattle.std.proofs.lemmas.Option.{unwrap_or-slice_get, slice_get-get_or}
use Rattle.std.proofs.lemmas.List.{get_or-set_other}
use Rattle.std.proofs.lemmas.Grind.{get_or-set_at}
use Rattle.op_core.specs.OrdinaryState.{set_at, unused}
use Rattle.op_core.proofs.PointwiseLemmas.{set_at-hit, set_at-at, set_at-same}
use Rattle.op_core.specs.OrdinaryStep.{IsFreeNumber}
use Rattle.machine_tables.specs.declared.threads.Standing.{Standing}
use Rattle.machine_tables.specs.declared.threads.Standing.TheVariants.{Live, Ended}
use Rattle.machine_tables.specs.declared.threads.Seat.{Seat}
use Rattle.machine_tables.specs.declared.threads.Threads.{Threads}
use Rattle.machine_tables.specs.Tables.{seat_in, seat_at, standing_of, thread_in, threads_in, IsFreeSeat}

-- there is no thread past number 255
pub seat_at-past : {C : Type 0} (threads : Threads C) (k : ℕ) → 256 ≤ k → seat_at threads k ≡ None
seat_at-past threads k past = grind (arith, nat_tests)

-- a thread that has begun isn't unused
standing-unused : {C S : Type 0} (state : C → S) (x : Standing C) → standing_of state x ≡ unused → ⊥
standing-unused state (Live code) h = cc
standing-unused state (Ended x) h = cc

pub thread_in-unused : {C S : Type 0} (state : C → S) (seat : Option (Seat C)) → thread_in state seat ≡ unused → IsNone seat
thread_in-unused state None h = refl
thread_in-unused state (Some seat) h = absurd (standing-unused state seat.standing h)

pub thread_in-none : {C S : Type 0} (state : C → S) (seat : Option (Seat C)) → IsNone seat → thread_in state seat ≡ unused
thread_in-none state None h = refl
thread_in-none state (Some seat) h = cc

pub free_numbers : {C S : Type 0} (state : C → S) (threads : Threads C) (result : Option ℕ)
    → MatchOption result ((k : ℕ) → IsFreeSeat (seat_at threads) k → ⊥) (λ n. IsFreeSeat (seat_at threads) n × ((k : ℕ) → IsFreeSeat (seat_at threads) k → n ≤ k))
    → IsTrue (is_some result) ↔ ((n : ℕ) × IsFreeNumber (threads_in state (seat_at threads)) n)
free_numbers state threads None none =
    (λ is. absurd (cc), λ (n, is). absurd (none n (is.0, is.1, thread_in-unused state (seat_at threads n) is.2)))
free_numbers state threads (Some n) some =
    (λ _. (n, (some.0.0, some.0.1, thread_in-none state (seat_at threads n) some.0.2)), λ _. refl)

-- the table with another seat at a number
pub seats_set : {C : Type 0} (seats : List (Option (Seat C))) (t : ℕ) (x : Option (Seat C)) → 0 < t → t < 256 → t < length seats
    → ◌≡◌ {A = ℕ → Option (Seat C)} (λ k. seat_in (slice_set seats t x) k) (set_at (λ k. seat_in seats k) t x)
seats_set {C} seats t x low high inside = fun_ext (λ k. sym (set_at-at (λ y. y ≡ seat_in (slice_set seats t x) k) (λ j. seat_in seats j) t x k
    (λ here. sym (ap (λ b. cond b (unwrap_or (slice_get (slice_set seats t x) k) None) None) (in_range k here) ∙ unwrap_or-slice_get (slice_set seats t x) k None ∙ get_or-set_at seats t k x None here inside))
    (λ other. ap (λ y. cond (nat_lt 0 k && nat_lt k 256) y None) (unwrap_or-slice_get seats k None ∙ sym (get_or-set_other seats t k x None other) ∙ sym (unwrap_or-slice_get (slice_set seats t x) k None)))))
  where
    in_range : (k : ℕ) → k ≡ t → (nat_lt 0 k && nat_lt k 256) ≡ true
    in_range k here = grind (arith, nat_tests)

-- places more, at which no thread has begun
more_at : {A : Type 0} (xs : List (Option A)) (k : ℕ) → unwrap_or (slice_get (xs ++ None ∷ []) k) None ≡ unwrap_or (slice_get xs k) None
more_at [] zero = refl
more_at [] (suc k) = refl
more_at (x ∷ xs) zero = refl
more_at (x ∷ xs) (suc k) = more_at xs k

pub seats_more : {C : Type 0} (seats more : List (Option (Seat C))) (is_made : Bool) → more ≡ cond is_made (seats ++ None ∷ []) seats
    → ◌≡◌ {A = ℕ → Option (Seat C)} (λ k. seat_in more k) (λ k. seat_in seats k)
seats_more seats more true is = fun_ext (λ k. ap (λ xs. seat_in xs k) is ∙ ap (λ y. cond (nat_lt 0 k && nat_lt k 256) y None) (more_at seats k))
seats_more seats more false is = ap (λ xs k. seat_in xs k) is

seat_inside : {C : Type 0} (seats : List (Option (Seat C))) (t : ℕ) (d : Option (Seat C)) → 0 < t → t < 256 → t < length seats → seat_in seats t ≡ get_or seats t d
seat_inside seats t d low high inside =
    ap (λ b. cond b (unwrap_or (slice_get seats t) None) None) in_range ∙ ap (λ x. unwrap_or x None) (slice_get-get_or seats t d inside)
  where
    in_range : (nat_lt 0 t && nat_lt t 256) ≡ true
    in_range = grind (arith, nat_tests)

-- the seat at a number is changed at its place
pub seat_changed : {C : Type 0} (seats : List (Option (Seat C))) (t place : ℕ) (now new seat : Option (Seat C)) (change : Option (Seat C) → Option (Seat C))
    → (place ≡ t) × (0 < t) × (t < length seats) → t < 256 → now ≡ get_or seats place now → new ≡ change now → seat_in seats t ≡ seat
    → ◌≡◌ {A = ℕ → Option (Seat C)} (λ k. seat_in (slice_set seats place new) k) (set_at (λ k. seat_in seats k) t (change seat))
seat_changed {C} seats t place now new seat change (here, low, inside) high is changed stood =
    let same : now ≡ seat = is ∙ ap (λ k. get_or seats k now) here ∙ sym (seat_inside seats t now low high inside) ∙ stood in
    ap (λ p k. seat_in (slice_set seats p new) k) here ∙ seats_set seats t new low high inside ∙ ap (set_at (λ k. seat_in seats k) t) (changed ∙ ap change same)

pub seat_kept : {C : Type 0} (seats : List (Option (Seat C))) (t place : ℕ) (now new : Option (Seat C)) (change : Option (Seat C) → Option (Seat C))
    → (place ≡ t) × (0 < t) × (t < length seats) → t < 256 → now ≡ get_or seats place now → new ≡ change now → change None ≡ None → seat_in seats t ≡ None
    → ◌≡◌ {A = ℕ → Option (Seat C)} (λ k. seat_in (slice_set seats place new) k) (λ k. seat_in seats k)
seat_kept seats t place now new change inside high is changed none stood =
    seat_changed seats t place now new None change inside high is changed stood ∙ set_at-same (λ k. seat_in seats k) t (change None) (stood ∙ sym none)

-- the seat at a number is another one, whichever it is
pub seat_replaced : {C : Type 0} (seats : List (Option (Seat C))) (t place : ℕ) (new : Option (Seat C))
    → (place ≡ t) × (0 < t) × (t < length seats) → t < 256
    → ◌≡◌ {A = ℕ → Option (Seat C)} (λ k. seat_in (slice_set seats place new) k) (set_at (λ k. seat_in seats k) t (seat_in (slice_set seats place new) t))
seat_replaced {C} seats t place new (here, low, inside) high =
    let changed : ◌≡◌ {A = ℕ → Option (Seat C)} (λ k. seat_in (slice_set seats place new) k) (set_at (λ k. seat_in seats k) t new) =
    ap (λ p k. seat_in (slice_set seats p new) k) here ∙ seats_set seats t new low high inside in
    changed ∙ ap (set_at (λ k. seat_in seats k) t) (sym (ap (λ f. f t) changed ∙ set_at-hit (λ k. seat_in seats k) t new))

-- the seat before, and the one after
pub seat_before : {C : Type 0} (seats : List (Option (Seat C))) (t place : ℕ) (now : Option (Seat C))
    → (place ≡ t) × (0 < t) × (t < length seats) → t < 256 → now ≡ get_or seats place now → seat_in seats t ≡ now
seat_before seats t place now (here, low, inside) high is = seat_inside seats t now low high inside ∙ sym (is ∙ ap (λ k. get_or seats k now) here)

seat_after : {C : Type 0} (seats : List (Option (Seat C))) (t place : ℕ) (new : Option (Seat C))
    → (place ≡ t) × (0 < t) × (t < length seats) → t < 256 → seat_in (slice_set seats place new) t ≡ new
seat_after {C} seats t place new (here, low, inside) high =
    ap (λ f. f t) (◌∙◌ {A = ℕ → Option (Seat C)} (ap (λ p k. seat_in (slice_set seats p new) k) here) (seats_set seats t new low high inside)) ∙ set_at-hit (λ k. seat_in seats k) t new

-- what is so of the seat before and the one after
pub seat_related : {C : Type 0} (R : Option (Seat C) → Option (Seat C) → Type 0) (seats : List (Option (Seat C))) (t place : ℕ) (now new : Option (Seat C))
    → (place ≡ t) × (0 < t) × (t < length seats) → t < 256 → now ≡ get_or seats place now → R now new
    → R (seat_in seats t) (seat_in (slice_set seats place new) t)
seat_related R seats t place now new inside high is related =
    let before = seat_before seats t place now inside high is in
    let behind = seat_after seats t place new inside high in
    subst (λ x. R x (seat_in (slice_set seats place new) t)) (sym before) (subst (R now) (sym behind) related)
