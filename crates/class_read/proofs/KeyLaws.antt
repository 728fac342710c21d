-- The keys of the members that a set has, and what they say of names and descriptors.
use Rattle.std.proofs.Common.{◌≡◌, ℕ, ◌+◌, ◌<◌, ◌≤◌, Bool, true, false, List, Option, None, Some, slice_get, ◌↔◌, ◌⊎◌, inl, inr, refl, sym, ◌∙◌, ap, subst, arith, length, nat_cmp, BTreeSet}
use Rattle.std.specs.BTreeSet.{contains}
use Rattle.std.specs.declared.cmp.Ordering.{Ordering}
use Rattle.std.specs.declared.cmp.Ordering.TheVariants.{Less, Equal, Greater}
use Rattle.std.specs.Ordering.{ordering_then, is_eq}
use Rattle.std.proofs.lemmas.Cmp.{ranked, tied_itself, nat_cmp_total}
use Rattle.std.proofs.lemmas.Option.{slice_get_within, same_Some}
use Rattle.std.proofs.lemmas.Bool.{cases_lt, cases_Bool}
use Rattle.class_walk.specs.declared.class.RawMember.{RawMember}
use Rattle.class_read.specs.Repeats.{key_cmp, has_key, AddsKey, key_of, HasRepeatedKey, NoKeyRepeated}

-- the set has the keys of the members before an index, and no other
abbrev pub IsKeyBelow : List (Option ℕ) → List RawMember → ℕ → ℕ × ℕ → Type 0
IsKeyBelow numbers members end key = (j : ℕ) × (y : RawMember) × (j < end) × (slice_get members j ≡ Some y) × (key_of numbers y ≡ Some key)

abbrev pub HasKeysBelow : List (Option ℕ) → List RawMember → ℕ → BTreeSet (ℕ × ℕ) → Type 0
HasKeysBelow numbers members end seen = (key : ℕ × ℕ) → (contains key_cmp seen key ≡ true) ↔ IsKeyBelow numbers members end key

same_number : (a b : ℕ) → nat_cmp a b ≡ Equal → a ≡ b
same_number a b e = ranked a b Equal (sym e)

abbrev pair_of : ℕ → ℕ → ℕ × ℕ
pair_of a b = (a, b)

same_key_by : (a b : ℕ × ℕ) (x y : Ordering) → nat_cmp a.0 b.0 ≡ x → nat_cmp a.1 b.1 ≡ y → is_eq (ordering_then x y) ≡ true → a ≡ b
same_key_by a b Equal Equal e f t =
    let first = same_number a.0 b.0 e in
    let second = same_number a.1 b.1 f in
    ap (λ (n : ℕ). pair_of n a.1) first ∙ ap (λ (n : ℕ). pair_of b.0 n) second
same_key_by a b Equal Less e f t = absurd cc
same_key_by a b Equal Greater e f t = absurd cc
same_key_by a b Less y e f t = absurd cc
same_key_by a b Greater y e f t = absurd cc

pub same_key : (a b : ℕ × ℕ) → is_eq (key_cmp a b) ≡ true → a ≡ b
same_key a b t = same_key_by a b (nat_cmp a.0 b.0) (nat_cmp a.1 b.1) refl refl t

pub key_itself : (a : ℕ × ℕ) → is_eq (key_cmp a a) ≡ true
key_itself a =
    let first : nat_cmp a.0 a.0 ≡ Equal = tied_itself nat_cmp_total a.0 in
    let second : nat_cmp a.1 a.1 ≡ Equal = tied_itself nat_cmp_total a.1 in
    rw (first, second) refl

key_later : (numbers : List (Option ℕ)) (members : List RawMember) (end : ℕ) (key : ℕ × ℕ) → IsKeyBelow numbers members end key → IsKeyBelow numbers members (end + 1) key
key_later numbers members end key k = let lt = k.2 in (k.0, k.1, omega arith, k.3, k.4)

key_earlier : (numbers : List (Option ℕ)) (members : List RawMember) (end : ℕ) (m : RawMember) (key : ℕ × ℕ) → slice_get members end ≡ Some m → IsKeyBelow numbers members (end + 1) key → IsKeyBelow numbers members end key ⊎ (key_of numbers m ≡ Some key)
key_earlier numbers members end m key at k =
    elim (cases_lt k.0 end) [
      | inl less ↦ inl (k.0, k.1, less, k.3, k.4)
      | inr more ↦
          let lt : k.0 < end + 1 = k.2 in
          let same_index : k.0 ≡ end = omega arith in
          let P : ℕ → Type 0 = λ i. slice_get members i ≡ Some k.1 in
          let here : slice_get members end ≡ Some k.1 = subst P same_index k.3 in
          let same : k.1 ≡ m = same_Some k.1 m (sym here ∙ at) in
          let Q : RawMember → Type 0 = λ y. key_of numbers y ≡ Some key in
          inr (subst Q same k.4)
    ]

-- one member more
pub has_one_more : (numbers : List (Option ℕ)) (members : List RawMember) (end : ℕ) (m : RawMember) (old new : BTreeSet (ℕ × ℕ)) (key : Option (ℕ × ℕ)) (again : Bool) → slice_get members end ≡ Some m → key ≡ key_of numbers m → AddsKey old new key again → HasKeysBelow numbers members end old → HasKeysBelow numbers members (end + 1) new
has_one_more numbers members end m old new None again at e adds has q = (
  λ t. key_later numbers members end q ((has q).0 (sym (adds.keys q) ∙ t)),
  λ k. elim (key_earlier numbers members end m q at k) [
    | inl before ↦ adds.keys q ∙ (has q).1 before
    | inr here ↦ absurd (cc)
  ],
)
has_one_more numbers members end m old new (Some key) again at e adds has q = (
  λ t. elim (cases_Bool (is_eq (key_cmp key q))) [
    | inl same ↦
        let equal = same_key key q same in
        let here : key_of numbers m ≡ Some q = sym e ∙ ap (λ (k : ℕ × ℕ). let o : Option (ℕ × ℕ) = Some k in o) equal in
        (end, m, omega arith, at, here)
    | inr other ↦ key_later numbers members end q ((has q).0 (sym (rw other at (adds.keys q)) ∙ t))
  ],
  λ k. elim (cases_Bool (is_eq (key_cmp key q))) [
    | inl same ↦ rw same at (adds.keys q)
    | inr other ↦ elim (key_earlier numbers members end m q at k) [
      | inl before ↦ rw other at (adds.keys q) ∙ (has q).1 before
      | inr here ↦
          let equal : key ≡ q = same_Some key q (e ∙ here) in
          let P : ℕ × ℕ → Type 0 = λ x. is_eq (key_cmp key x) ≡ true in
          let same : is_eq (key_cmp key q) ≡ true = subst P equal (key_itself key) in
          absurd (cc)
    ]
  ],
)

-- a key that was there already is that of an earlier member
pub repeats_key : (numbers : List (Option ℕ)) (members : List RawMember) (end : ℕ) (m : RawMember) (old new : BTreeSet (ℕ × ℕ)) (key : Option (ℕ × ℕ)) → key ≡ key_of numbers m → AddsKey old new key true → HasKeysBelow numbers members end old → HasRepeatedKey numbers members end m
repeats_key numbers members end m old new None e adds has = let f = adds.found in absurd (cc)
repeats_key numbers members end m old new (Some key) e adds has =
    let k = (has key).0 (sym adds.found) in
    (k.0, k.1, k.2, k.3, key, k.4, sym e)

-- a key that wasn't is that of none
pub repeats_no_key : (numbers : List (Option ℕ)) (members : List RawMember) (end : ℕ) (m : RawMember) (old new : BTreeSet (ℕ × ℕ)) (key : Option (ℕ × ℕ)) → slice_get members end ≡ Some m → key ≡ key_of numbers m → AddsKey old new key false → HasKeysBelow numbers members end old → NoKeyRepeated numbers members end → NoKeyRepeated numbers members (end + 1)
repeats_no_key numbers members end m old new key at e adds has none i x lt at_i repeated =
    elim (cases_lt i end) [
      | inl less ↦ none i x less at_i repeated
      | inr more ↦
          let same_index : i ≡ end = omega arith in
          let P : ℕ → Type 0 = λ k. slice_get members k ≡ Some x in
          let same : x ≡ m = same_Some x m (sym (subst P same_index at_i) ∙ at) in
          let Q : ℕ → Type 0 = λ k. HasRepeatedKey numbers members k x in
          let R : RawMember → Type 0 = λ y. HasRepeatedKey numbers members end y in
          let here = subst R same (subst Q same_index repeated) in
          let there : contains key_cmp old here.4 ≡ true = (has here.4).1 (here.0, here.1, here.2, here.3, here.5) in
          let keyed : key ≡ Some here.4 = e ∙ here.6 in
          let S : Option (ℕ × ℕ) → Type 0 = λ k. false ≡ has_key old k in
          let no_key = subst S keyed adds.found in
          absurd cc
    ]

pub none_at_all : (numbers : List (Option ℕ)) (members : List RawMember) (end : ℕ) → length members ≤ end → NoKeyRepeated numbers members end → (i : ℕ) (x : RawMember) → slice_get members i ≡ Some x → ¬ HasRepeatedKey numbers members i x
none_at_all numbers members end le none i x at =
    let lt : i < length members = slice_get_within members i x at in
    none i x (omega arith) at
