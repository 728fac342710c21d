-- What the headers of classes name, one header after the other.
use Rattle.std.proofs.Common.{◌≡◌, ℕ, zero, suc, ◌+◌, ◌<◌, ◌≤◌, ◌==◌, ◌&&◌, ◌||◌, Bool, true, false, List, [], ◌∷◌, ◌++◌, length, take, slice_get, Option, None, Some, inl, inr, refl, sym, ◌∙◌, ap, arith, length-append}
use Rattle.std.specs.Option.{option_map_or}
use borrow.Author.Tests.{ne_eqb, eq-eqb}
use Rattle.std.proofs.lemmas.Bool.{cases_lt, cases_eq}
use Rattle.std.proofs.lemmas.List.{length-take-le}
use Rattle.std.proofs.lemmas.Option.{slice_get_past, slice_get_within}
use Rattle.link_rules.proofs.Lists.{before_at}
use Rattle.class_read.proofs.FindLaws.{take_next}
use Rattle.class_supers.specs.Above.{names, names_at}
use Rattle.class_supers.specs.declared.headers.ClassHeader.{ClassHeader}

pub last_at : {X : Type 0} (xs : List X) (x : X) (j : ℕ) → j ≡ length xs → slice_get (xs ++ x ∷ []) j ≡ Some x
last_at [] x zero e = refl
last_at [] x (suc j) e = absurd (omega arith)
last_at (y ∷ ys) x zero e = absurd (omega arith)
last_at (y ∷ ys) x (suc j) e = last_at ys x j (omega arith)

abbrev named_of : ℕ → Option ClassHeader → Bool
named_of d o = option_map_or (λ h. names h d) o false

or_false : (b c : Bool) → (b || (false && c)) ≡ b
or_false true c = refl
or_false false c = refl

names_push : (hs : List ClassHeader) (h : ClassHeader) (c d n : ℕ) → n ≡ length hs + 1 → (names_at hs c d || (c == n && names h d)) ≡ names_at (hs ++ h ∷ []) c d
names_push hs h zero d n e = let other : (zero == n) ≡ false = ne_eqb 0 n (λ z. omega (arith, z)) in rw other refl
names_push hs h (suc j) d n e = elim (cases_lt j (length hs)) [
  | inl less ↦
      let other : (suc j == n) ≡ false = ne_eqb (suc j) n (λ z. omega (arith, z)) in
      ap (λ b. named_of d (slice_get hs j) || (b && names h d)) other ∙ or_false (named_of d (slice_get hs j)) (names h d) ∙ ap (named_of d) (sym (before_at hs (h ∷ []) j less))
  | inr more ↦
      let none : slice_get hs j ≡ None = slice_get_past hs j more in
      elim (cases_eq j (length hs)) [
        | inl same ↦
            let equal : (suc j == n) ≡ true = eq-eqb (suc j) n (omega arith) in
            ap (λ b. named_of d (slice_get hs j) || (b && names h d)) equal ∙ ap (λ o. named_of d o || names h d) none ∙ ap (named_of d) (sym (last_at hs h j same))
        | inr different ↦
            let other : (suc j == n) ≡ false = ne_eqb (suc j) n (λ z. different (omega (arith, z))) in
            let past : length (hs ++ h ∷ []) ≤ j = omega (arith, different, length-append hs (h ∷ [])) in
            ap (λ b. named_of d (slice_get hs j) || (b && names h d)) other ∙ or_false (named_of d (slice_get hs j)) (names h d) ∙ ap (named_of d) (none ∙ sym (slice_get_past (hs ++ h ∷ []) j past))
      ]
]

pub names_more : (hs : List ClassHeader) (i : ℕ) (h : ClassHeader) → slice_get hs i ≡ Some h → (c d : ℕ) → (names_at (take i hs) c d || (c == i + 1 && names h d)) ≡ names_at (take (i + 1) hs) c d
names_more hs i h at c d =
    let lt : i < length hs = slice_get_within hs i h at in
    let count : i + 1 ≡ length (take i hs) + 1 = omega (arith, length-take-le i hs (omega arith)) in
    names_push (take i hs) h c d (i + 1) count ∙ ap (λ xs. names_at xs c d) (sym (take_next hs i h at))
