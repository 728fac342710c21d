-- Places in order, and where they are found.
use Rattle.std.proofs.Common.{◌≡◌, ◌≢◌, ℕ, zero, suc, ◌+◌, ◌≤◌, ◌==◌, ◌&&◌, Bool, true, false, cond, nat_le, List, [], ◌∷◌, ◌++◌, length, None, Some, refl, sym, ap, ◌∙◌, append_assoc, arith}
use Rattle.std.specs.List.{position_from}
use Rattle.std.specs.Option.{option_map}
use borrow.Author.Tests.{ne_eqb}
use Rattle.std.proofs.lemmas.List.{append-nil}
use Rattle.std.proofs.lemmas.Option.{none-some}
use Rattle.array_table.specs.Places.{place_of, places_of_dimensions, places_from, is_place}

-- the position of an item after others, none of which passes the test
pub position_behind : {X : Type 0} (test : X → Bool) (n : ℕ) (xs ys : List X) → position_from test n xs ≡ None → position_from test n (xs ++ ys) ≡ position_from test (n + length xs) ys
position_behind test n [] ys e = (let same : n ≡ n + 0 = omega arith in ap (λ m. position_from test m ys) same)
position_behind test n (x ∷ xs) ys e = elim (test x) as (λ b. cond b (Some n) (position_from test (n + 1) xs) ≡ None → cond b (Some n) (position_from test (n + 1) (xs ++ ys)) ≡ position_from test (n + suc (length xs)) ys) [
  | true ↦ λ e. absurd (none-some n (sym e))
  | false ↦ λ e. (let same : n + 1 + length xs ≡ n + suc (length xs) = omega arith in position_behind test (n + 1) xs ys e ∙ ap (λ m. position_from test m ys) same)
] e

pub position_shift : {X : Type 0} (test : X → Bool) (n k : ℕ) (xs : List X) → position_from test (k + n) xs ≡ option_map (λ i. k + i) (position_from test n xs)
position_shift test n k [] = refl
position_shift test n k (x ∷ xs) = elim (test x) as (λ b. cond b (Some (k + n)) (position_from test (k + n + 1) xs) ≡ option_map (λ i. k + i) (cond b (Some n) (position_from test (n + 1) xs))) [
  | true ↦ refl
  | false ↦ (let same : k + n + 1 ≡ k + (n + 1) = omega arith in ap (λ m. position_from test m xs) same ∙ position_shift test (n + 1) k xs)
]

pub found_behind : {X : Type 0} (test : X → Bool) (xs ys : List X) → position_from test 0 xs ≡ None → position_from test 0 (xs ++ ys) ≡ option_map (λ i. length xs + i) (position_from test 0 ys)
found_behind test xs ys e =
    let same : 0 + length xs ≡ length xs + 0 = omega arith in
    position_behind test 0 xs ys e ∙ ap (λ m. position_from test m ys) same ∙ position_shift test 0 (length xs) ys

-- arrays of other dimensions aren't among them
pub other_dimensions : (d e base n b : ℕ) (most : List ℕ) → d ≢ e → position_from (is_place d base) n (places_of_dimensions b most e) ≡ None
other_dimensions d e base n b [] ne = refl
other_dimensions d e base n b (m ∷ most) ne = go (nat_le e m) (λ k. other_dimensions d e base k (suc b) most ne)
  where
    apart : is_place d base (place_of e b) ≡ false
    apart = ap (λ t. t && b == base) (ne_eqb e d (λ s. ne (sym s)))

    go : (t : Bool) → ((k : ℕ) → position_from (is_place d base) k (places_of_dimensions (suc b) most e) ≡ None) → position_from (is_place d base) n (cond t (place_of e b ∷ places_of_dimensions (suc b) most e) (places_of_dimensions (suc b) most e)) ≡ None
    go true rest = ap (λ t. cond t (Some n) (position_from (is_place d base) (n + 1) (places_of_dimensions (suc b) most e))) apart ∙ rest (n + 1)
    go false rest = rest n

pub dimensions_push : (b d m : ℕ) (most : List ℕ) → places_of_dimensions b (most ++ m ∷ []) d ≡ places_of_dimensions b most d ++ cond (nat_le d m) (place_of d (b + length most) ∷ []) []
dimensions_push b d m [] = (let same : b ≡ b + 0 = omega arith in ap (λ k. cond (nat_le d m) (place_of d k ∷ []) []) same)
dimensions_push b d m (n ∷ most) = go (nat_le d n)
    (let same : suc b + length most ≡ b + suc (length most) = omega arith in
    dimensions_push (suc b) d m most ∙ ap (λ k. places_of_dimensions (suc b) most d ++ cond (nat_le d m) (place_of d k ∷ []) []) same)
  where
    go : (t : Bool) → places_of_dimensions (suc b) (most ++ m ∷ []) d ≡ places_of_dimensions (suc b) most d ++ cond (nat_le d m) (place_of d (b + suc (length most)) ∷ []) []
        → cond t (place_of d b ∷ places_of_dimensions (suc b) (most ++ m ∷ []) d) (places_of_dimensions (suc b) (most ++ m ∷ []) d)
        ≡ cond t (place_of d b ∷ places_of_dimensions (suc b) most d) (places_of_dimensions (suc b) most d) ++ cond (nat_le d m) (place_of d (b + suc (length most)) ∷ []) []
    go true rest = ap (λ xs. place_of d b ∷ xs) rest
    go false rest = rest

pub dimensions_few : (b d : ℕ) (most : List ℕ) → length (places_of_dimensions b most d) ≤ length most
dimensions_few b d [] = omega arith
dimensions_few b d (m ∷ most) = go (nat_le d m) (dimensions_few (suc b) d most)
  where
    go : (t : Bool) → length (places_of_dimensions (suc b) most d) ≤ length most → length (cond t (place_of d b ∷ places_of_dimensions (suc b) most d) (places_of_dimensions (suc b) most d)) ≤ suc (length most)
    go true le = omega arith
    go false le = omega arith

-- one number of dimensions more
pub from_more : (most : List ℕ) (n d : ℕ) → places_from most (suc n) d ≡ places_from most n d ++ places_of_dimensions 0 most (d + n)
unfolding places_from
from_more most zero d = (let same : d ≡ d + 0 = omega arith in append-nil (places_of_dimensions 0 most d) ∙ ap (places_of_dimensions 0 most) same)
from_more most (suc n) d =
    let same : suc d + n ≡ d + suc n = omega arith in
    ap (λ xs. places_of_dimensions 0 most d ++ xs) (from_more most n (suc d) ∙ ap (λ k. places_from most n (suc d) ++ places_of_dimensions 0 most k) same)
    ∙ sym (append_assoc (places_of_dimensions 0 most d) (places_from most n (suc d)) (places_of_dimensions 0 most (d + suc n)))
