-- An order of the classes of a program in which supers come first.
use Rattle.std.proofs.Common.{◌≡◌, ◌≢◌, ◌<◌, ◌≤◌, ℕ, ◌+◌, ◌-◌, Bool, true, List, length, map, Some, slice_get, All, nat_lt, inl, inr, refl, sym, ap, subst, ◌∙◌, arith}
use Rattle.std.specs.List.{range_with_len, list_all}
use Rattle.std.proofs.lemmas.Bool.{ltb-true}
use Rattle.std.proofs.lemmas.Option.{same_Some, slice_get-get_or, slice_get_within, get_or_from_slice_get}
use Rattle.std.proofs.lemmas.List.Elements.{All-contains}
use Rattle.std.proofs.lemmas.List.FromFn.{length-range_with_len, get_or-range_with_len}
use Rattle.std.proofs.lemmas.List.Sums.{AllPass-from_list_all}
use Rattle.builtin_world.specs.Library.{library}
use Rattle.builtin_world.proofs.Tables.{All-from_map}
use Rattle.link_rules.specs.Classes.{classes_of, superclass_of, interfaces_of}
use Rattle.link_rules.specs.Supers.{HasSuper, PutsSupersFirst}
use Rattle.link_examples.specs.Programs.{mixed}

get_range : (a n i : ℕ) → i < n → slice_get (range_with_len a n) i ≡ Some (a + i)
get_range a n i less =
    slice_get-get_or (range_with_len a n) i 0 (omega (arith, less, length-range_with_len a n)) ∙ ap (λ x. Some x) (get_or-range_with_len a n i 0 less)

-- a test that all numbers pass
passes : (from many : ℕ) (f g : ℕ → Bool) → map f (range_with_len from many) ≡ map g (range_with_len from many) → (i c : ℕ) → slice_get (range_with_len from many) i ≡ Some c → f c ≡ g c
passes from many f g same i c at =
    let all : All (λ x. f x ≡ g x) (range_with_len from many) = All-from_map f g (range_with_len from many) same in
    subst (λ x. f x ≡ g x) (get_or_from_slice_get (range_with_len from many) i c c at) (all i c (slice_get_within (range_with_len from many) i c at))

count : length (classes_of mixed) ≡ 29
unfolding library
count = refl

supers_before : map (λ c. nat_lt (superclass_of (classes_of mixed) c) c) (range_with_len 1 29) ≡ map (λ _. true) (range_with_len 1 29)
unfolding library
supers_before = refl

interfaces_before : map (λ c. list_all (λ i. nat_lt i c) (interfaces_of (classes_of mixed) c)) (range_with_len 1 29) ≡ map (λ _. true) (range_with_len 1 29)
unfolding library
interfaces_before = refl

less : (i c d : ℕ) → slice_get (range_with_len 1 29) i ≡ Some c → HasSuper (classes_of mixed) c d → d < c
less i c d at h = elim h.1 [
  | inl e ↦ subst (λ x. x < c) e (ltb-true (superclass_of (classes_of mixed) c) c (passes 1 29 (λ x. nat_lt (superclass_of (classes_of mixed) x) x) (λ _. true) supers_before i c at))
  | inr k ↦ ltb-true d c
      (All-contains (λ x. nat_lt x c ≡ true) (interfaces_of (classes_of mixed) c) d
      (AllPass-from_list_all (λ x. nat_lt x c) (interfaces_of (classes_of mixed) c)
      (passes 1 29 (λ x. list_all (λ y. nat_lt y x) (interfaces_of (classes_of mixed) x)) (λ _. true) interfaces_before i c at)) k)
]

pub mixed_order : (order : List ℕ) × PutsSupersFirst (classes_of mixed) order
mixed_order = (range_with_len 1 29, record { bound = bound; whole = whole; before = before })
  where
    bound : length (range_with_len 1 29) ≤ length (classes_of mixed)
    bound = omega (arith, count, length-range_with_len 1 29)

    whole : (c : ℕ) → c ≢ 0 → c ≤ length (classes_of mixed) → (i : ℕ) × (slice_get (range_with_len 1 29) i ≡ Some c)
    whole c ne within =
        let small : c - 1 < 29 = omega (arith, ne, within, count) in
        let same : 1 + (c - 1) ≡ c = omega (arith, ne) in
        (c - 1, get_range 1 29 (c - 1) small ∙ ap (λ x. Some x) same)

    before : (i c d : ℕ) → slice_get (range_with_len 1 29) i ≡ Some c → HasSuper (classes_of mixed) c d → (j : ℕ) × (j < i) × (slice_get (range_with_len 1 29) j ≡ Some d)
    before i c d at h =
        let room : i < length (range_with_len 1 29) = slice_get_within (range_with_len 1 29) i c at in
        let small : i < 29 = omega (arith, room, length-range_with_len 1 29) in
        let number : 1 + i ≡ c = same_Some (1 + i) c (sym (get_range 1 29 i small) ∙ at) in
        let lower : d < c = less i c d at h in
        let some : d ≢ 0 = h.0 in
        let same : 1 + (d - 1) ≡ d = omega (arith, some) in
        (d - 1, omega (arith, some), get_range 1 29 (d - 1) (omega arith) ∙ ap (λ x. Some x) same)
