-- Places in order and descriptors in order.
use Rattle.std.proofs.Common.{◌≡◌, ◌≢◌, ◌⊎◌, ℕ, zero, suc, ◌+◌, ◌<◌, ◌≤◌, ◌==◌, ◌&&◌, Bool, true, false, cond, nat_le, List, [], ◌∷◌, ◌++◌, length, map, Contains, slice_get, get_or, Option, None, Some, bytes_eq, inl, inr, refl, sym, ap, subst, ◌∙◌, append_assoc, arith}
use Rattle.std.specs.List.{position_from}
use borrow.Author.Tests.{eqb-true, eq-eqb}
use Rattle.std.proofs.lemmas.List.{map-append, get_or_at, length_push}
use Rattle.std.proofs.lemmas.List.Elements.{Contains-append_cases}
use Rattle.std.proofs.lemmas.Option.{none-some, same_Some, slice_get-get_or, get_or_from_slice_get}
use Rattle.std.proofs.lemmas.Slice.Eq.{bytes_eq-Decides}
use Rattle.std.proofs.lemmas.Bool.{and_parts}
use Rattle.link_rules.proofs.Lists.{contains_head, contains_tail, contains_cases, contains_none, contains_at}
use Rattle.array_order.specs.Order.{array_text, StandInOrder, AreBases, arrays_of_dimensions, arrays_from, arrays_in_order}
use Rattle.array_order.proofs.Texts.{Before, not_itself}
use Rattle.array_table.specs.declared.place.ArrayPlace.{ArrayPlace}
use Rattle.array_table.specs.Places.{place_of, places_of_dimensions, places_from, places_in_order, is_place, number_in}
use Rattle.array_table.specs.Descriptors.{descriptor_at}

dimensions_map : (before bases : List (List ℕ)) (most : List ℕ) (d : ℕ) → length most ≡ length bases → arrays_of_dimensions bases most d ≡ map (descriptor_at (before ++ bases)) (places_of_dimensions (length before) most d)
dimensions_map before [] [] d count = refl
dimensions_map before [] (m ∷ most) d count = absurd (omega arith)
dimensions_map before (x ∷ bases) [] d count = absurd (omega arith)
dimensions_map before (x ∷ bases) (m ∷ most) d count = go (nat_le d m) (rest (dimensions_map (before ++ x ∷ []) bases most d (omega arith)))
  where
    rest : arrays_of_dimensions bases most d ≡ map (descriptor_at ((before ++ x ∷ []) ++ bases)) (places_of_dimensions (length (before ++ x ∷ [])) most d)
        → arrays_of_dimensions bases most d ≡ map (descriptor_at (before ++ x ∷ bases)) (places_of_dimensions (suc (length before)) most d)
    rest later =
        let joined : (before ++ x ∷ []) ++ bases ≡ before ++ x ∷ bases = append_assoc before (x ∷ []) bases in
        let size : length (before ++ x ∷ []) ≡ suc (length before) = length_push before x ∙ (omega arith) in
        later ∙ ap (λ (xs : List (List ℕ)). map (descriptor_at xs) (places_of_dimensions (length (before ++ x ∷ [])) most d)) joined ∙ ap (λ (k : ℕ). map (descriptor_at (before ++ x ∷ bases)) (places_of_dimensions k most d)) size

    mine : array_text d x ≡ array_text d (get_or (before ++ x ∷ bases) (length before) [])
    mine = ap (array_text d) (sym (get_or_at before x bases [] (length before) refl))

    go : (t : Bool) → arrays_of_dimensions bases most d ≡ map (descriptor_at (before ++ x ∷ bases)) (places_of_dimensions (suc (length before)) most d)
        → cond t (array_text d x ∷ arrays_of_dimensions bases most d) (arrays_of_dimensions bases most d) ≡ map (descriptor_at (before ++ x ∷ bases)) (cond t (place_of d (length before) ∷ places_of_dimensions (suc (length before)) most d) (places_of_dimensions (suc (length before)) most d))
    go true same = ap (λ y. y ∷ arrays_of_dimensions bases most d) mine ∙ ap (λ ys. array_text d (get_or (before ++ x ∷ bases) (length before) []) ∷ ys) same
    go false same = same

from_map : (bases : List (List ℕ)) (most : List ℕ) (n d : ℕ) → length most ≡ length bases → arrays_from bases most n d ≡ map (descriptor_at bases) (places_from most n d)
unfolding arrays_from places_from
from_map bases most zero d count = refl
from_map bases most (suc n) d count =
    ap (λ xs. xs ++ arrays_from bases most n (suc d)) (dimensions_map [] bases most d count)
    ∙ ap (λ xs. map (descriptor_at bases) (places_of_dimensions 0 most d) ++ xs) (from_map bases most n (suc d) count)
    ∙ sym (map-append (descriptor_at bases) (places_of_dimensions 0 most d) (places_from most n (suc d)))

pub arrays_map : (bases : List (List ℕ)) (most : List ℕ) → length most ≡ length bases → arrays_in_order bases most ≡ map (descriptor_at bases) (places_in_order most)
unfolding arrays_in_order places_in_order
arrays_map bases most count = from_map bases most 255 1 count

-- ---- the bases of places are there

base_within : (b d : ℕ) (most : List ℕ) (p : ArrayPlace) → Contains (places_of_dimensions b most d) p → p.base < b + length most
base_within b d [] p h = absurd (contains_none p h)
base_within b d (m ∷ most) p h = go (nat_le d m) h (base_within (suc b) d most p)
  where
    go : (t : Bool) → Contains (cond t (place_of d b ∷ places_of_dimensions (suc b) most d) (places_of_dimensions (suc b) most d)) p
        → (Contains (places_of_dimensions (suc b) most d) p → p.base < suc b + length most) → p.base < b + suc (length most)
    go true h again = elim (contains_cases (place_of d b) (places_of_dimensions (suc b) most d) p h) [
      | inl same ↦ (let is : b ≡ p.base = ap (λ (q : ArrayPlace). q.base) same in omega arith)
      | inr there ↦ (let lt = again there in omega arith)
    ]
    go false h again = (let lt = again h in omega arith)

from_within : (most : List ℕ) (n d : ℕ) (p : ArrayPlace) → Contains (places_from most n d) p → p.base < length most
unfolding places_from
from_within most zero d p h = absurd (contains_none p h)
from_within most (suc n) d p h = elim (Contains-append_cases (places_of_dimensions 0 most d) (places_from most n (suc d)) p h) [
  | inl here ↦ (let lt : p.base < 0 + length most = base_within 0 d most p here in omega arith)
  | inr there ↦ from_within most n (suc d) p there
]

-- ---- positions

position_map : {X Y : Type 0} (test : Y → Bool) (f : X → Y) (n : ℕ) (xs : List X) → position_from test n (map f xs) ≡ position_from (λ x. test (f x)) n xs
position_map test f n [] = refl
position_map test f n (x ∷ xs) = ap (λ o. cond (test (f x)) (Some n) o) (position_map test f (n + 1) xs)

position_same : {X : Type 0} (test other : X → Bool) (n : ℕ) (xs : List X) → ((x : X) → Contains xs x → test x ≡ other x) → position_from test n xs ≡ position_from other n xs
position_same test other n [] same = refl
position_same test other n (x ∷ xs) same =
    ap (λ b. cond b (Some n) (position_from test (n + 1) xs)) (same x (contains_head x xs))
    ∙ ap (λ o. cond (other x) (Some n) o) (position_same test other (n + 1) xs (λ y h. same y (contains_tail x xs y h)))

-- ---- descriptors are told apart

first_byte : List ℕ → ℕ
first_byte [] = 0
first_byte (b ∷ bs) = b

same_text : (d e a b : ℕ) (x y : List ℕ) → a < 91 → b < 91 → array_text d (a ∷ x) ≡ array_text e (b ∷ y) → (d ≡ e) × ((a ∷ x) ≡ (b ∷ y))
unfolding first_byte
same_text zero zero a b x y low less same = (refl, same)
same_text zero (suc e) a b x y low less same = absurd (let is : a ≡ 91 = ap first_byte same in omega arith)
same_text (suc d) zero a b x y low less same = absurd (let is : 91 ≡ b = ap first_byte same in omega arith)
same_text (suc d) (suc e) a b x y low less same =
    let rest : array_text d (a ∷ x) ≡ array_text e (b ∷ y) = ap (Rattle.std.proofs.Common.drop 1) same in
    let h : (d ≡ e) × ((a ∷ x) ≡ (b ∷ y)) = same_text d e a b x y low less rest in
    (ap (λ k. suc k) h.0, h.1)

one_place : (bases : List (List ℕ)) (i j : ℕ) (x : List ℕ) → StandInOrder bases → slice_get bases i ≡ Some x → slice_get bases j ≡ Some x → i ≡ j
one_place [] i j x sorted at there = absurd (none-some x at)
one_place (y ∷ bases) zero zero x sorted at there = refl
one_place (y ∷ bases) zero (suc j) x sorted at there = absurd (not_itself x (subst (λ z. Before z x) (same_Some y x at) (sorted.0 x (contains_at bases j x there))))
one_place (y ∷ bases) (suc i) zero x sorted at there = absurd (not_itself x (subst (λ z. Before z x) (same_Some y x there) (sorted.0 x (contains_at bases i x at))))
one_place (y ∷ bases) (suc i) (suc j) x sorted at there = ap (λ k. suc k) (one_place bases i j x sorted.1 at there)

pub same_tests : (b t : Bool) → (b ≡ true → t ≡ true) → (t ≡ true → b ≡ true) → b ≡ t
same_tests true true one other = refl
same_tests true false one other = sym (one refl)
same_tests false true one other = other refl
same_tests false false one other = refl

pub number_is_place : (bases : List (List ℕ)) (most : List ℕ) (base : List ℕ) (d i : ℕ) → AreBases bases → length most ≡ length bases → slice_get bases i ≡ Some base
    → position_from (bytes_eq (array_text d base)) 0 (arrays_in_order bases most) ≡ number_in (places_in_order most) d i
unfolding places_in_order
number_is_place bases most base d i are count at =
    ap (position_from (bytes_eq (array_text d base)) 0) (arrays_map bases most count)
    ∙ position_map (bytes_eq (array_text d base)) (descriptor_at bases) 0 (places_from most 255 1)
    ∙ position_same (λ p. bytes_eq (array_text d base) (descriptor_at bases p)) (is_place d i) 0 (places_from most 255 1) told
  where
    told : (p : ArrayPlace) → Contains (places_from most 255 1) p → bytes_eq (array_text d base) (descriptor_at bases p) ≡ is_place d i p
    told p h = same_tests (bytes_eq (array_text d base) (descriptor_at bases p)) (is_place d i p) one other
      where
        its : List ℕ
        its = get_or bases p.base []

        there : slice_get bases p.base ≡ Some (get_or bases p.base [])
        there = slice_get-get_or bases p.base [] (let lt = from_within most 255 1 p h in omega arith)

        one : bytes_eq (array_text d base) (descriptor_at bases p) ≡ true → is_place d i p ≡ true
        one same =
            let texts : array_text d base ≡ array_text p.dimensions (get_or bases p.base []) = (bytes_eq-Decides (array_text d base) (descriptor_at bases p)).0 same in
            let mine = are.letters base (contains_at bases i base at) in
            let others = are.letters (get_or bases p.base []) (contains_at bases p.base (get_or bases p.base []) there) in
            let parts = same_text d p.dimensions mine.0 others.0 mine.1 others.1 mine.3 others.3 (ap (array_text d) (sym mine.2) ∙ texts ∙ ap (array_text p.dimensions) others.2) in
            let bases_same : base ≡ get_or bases p.base [] = mine.2 ∙ parts.1 ∙ sym others.2 in
            let places : i ≡ p.base = one_place bases i p.base base are.order at (there ∙ ap (λ x. Some x) (sym bases_same)) in
            ap (λ t. t && p.base == i) (eq-eqb p.dimensions d (sym parts.0)) ∙ eq-eqb p.base i (sym places)

        other : is_place d i p ≡ true → bytes_eq (array_text d base) (descriptor_at bases p) ≡ true
        other is =
            let parts = and_parts (p.dimensions == d) (p.base == i) is in
            let depth : p.dimensions ≡ d = eqb-true p.dimensions d parts.0 in
            let place : p.base ≡ i = eqb-true p.base i parts.1 in
            let base_is : get_or bases p.base [] ≡ base = ap (λ k. get_or bases k []) place ∙ get_or_from_slice_get bases i base [] at in
            (bytes_eq-Decides (array_text d base) (descriptor_at bases p)).1 (ap (λ k. array_text k base) (sym depth) ∙ ap (array_text p.dimensions) (sym base_is))
