-- Places of names, one name after the other.
use Rattle.std.proofs.Common.{◌≡◌, ℕ, ◌+◌, Bool, true, false, cond, List, [], ◌∷◌, ◌++◌, length, Option, None, Some, refl, sym, ◌∙◌, ap, arith, inl, inr, bytes_eq}
use Rattle.std.specs.Map.{update}
use Rattle.std.proofs.lemmas.Bool.{cases_Bool}
use Rattle.std.proofs.lemmas.Slice.Eq.{bytes_eq-Decides}
use Rattle.link_rules.specs.Members.{or_first}
use Rattle.link_rules.proofs.Lists.{next, position_next}
use Rattle.named_types.specs.Others.{first_place, with_place}

or_first_none : (o : Option ℕ) → or_first o None ≡ o
or_first_none None = refl
or_first_none (Some n) = refl

-- a name that has a place keeps it
pub kept : (places : List ℕ → Option ℕ) (name : List ℕ) (n m : ℕ) → places name ≡ Some m → (q : List ℕ) → places q ≡ with_place places name n q
kept places name n m known q = elim (cases_Bool (bytes_eq q name)) [
  | inl same ↦
      let is : q ≡ name = (bytes_eq-Decides q name).0 same in
      let here : places q ≡ Some m = ap places is ∙ known in
      rw (here) refl
  | inr other ↦ rw other (sym (or_first_none (places q)))
]

-- a name that has none gets this one
pub put_new : (old new : List ℕ → Option ℕ) (name : List ℕ) (n : ℕ) → ((q : List ℕ) → new q ≡ update bytes_eq old name (Some n) q) → old name ≡ None → (q : List ℕ) → new q ≡ with_place old name n q
put_new old new name n changes none q = elim (cases_Bool (bytes_eq name q)) [
  | inl same ↦
      let is : name ≡ q = (bytes_eq-Decides name q).0 same in
      let back : bytes_eq q name ≡ true = (bytes_eq-Decides q name).1 (sym is) in
      let nothing : old q ≡ None = ap old (sym is) ∙ none in
      let here : new q ≡ Some n = rw same at (changes q) in
      rw (here, nothing, back) refl
  | inr other ↦
      let stays : new q ≡ old q = rw other at (changes q) in
      stays ∙ elim (cases_Bool (bytes_eq q name)) [
        | inl same ↦ absurd (let is : bytes_eq name q ≡ true = (bytes_eq-Decides name q).1 (sym ((bytes_eq-Decides q name).0 same)) in let both : true ≡ false = sym is ∙ other in cc)
        | inr apart ↦ rw apart (sym (or_first_none (old q)))
      ]
]

next_is : (o : Option ℕ) (b : Bool) (n : ℕ) → next o b n ≡ or_first o (cond b (Some n) None)
next_is None b n = refl
next_is (Some m) b n = refl

-- one name more
pub one_more : (places : List ℕ → Option ℕ) (names : List (List ℕ)) (name : List ℕ) (n : ℕ) → ((q : List ℕ) → places q ≡ first_place names q) → n ≡ length names → (q : List ℕ) → with_place places name n q ≡ first_place (names ++ name ∷ []) q
one_more places names name n known count q =
    ap (λ (o : Option ℕ). or_first o (cond (bytes_eq q name) (Some n) None)) (known q)
    ∙ ap (λ (k : ℕ). or_first (first_place names q) (cond (bytes_eq q name) (Some k) None)) (count ∙ (let z : length names ≡ 0 + length names = omega arith in z))
    ∙ sym (next_is (first_place names q) (bytes_eq q name) (0 + length names))
    ∙ sym (position_next (bytes_eq q) 0 names name)
