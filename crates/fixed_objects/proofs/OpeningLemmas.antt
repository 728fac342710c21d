-- The start of a program: words of its fixed objects alone, and main's Thread started.
use Rattle.std.proofs.Common.{◌≡◌, ◌<◌, ◌⊎◌, ◌==◌, ℕ, Bool, true, false, cond, Option, None, Some, IsNone, List, [], ◌∷◌, reverse, find, All, refl, sym, ◌∙◌, ap, subst, inl, inr, arith}
use Rattle.std.specs.Option.{option_map}
use Rattle.std.proofs.lemmas.Bool.{eqb-true}
use Rattle.std.proofs.lemmas.List.Elements.{All-head, All-tail}
use Rattle.std.proofs.lemmas.List.Sorted.{All-permutation, IsPermutation-reverse}
use Rattle.op_core.specs.OrdinaryState.{set_at, unused, live}
use Rattle.fixed_objects.specs.declared.FixedObject.{FixedObject}
use Rattle.fixed_objects.specs.declared.Opening.{Opening}
use Rattle.fixed_objects.specs.Fixed.{fixed_at, fixed_header, fixed_word, fixed_start}
use Rattle.fixed_objects.specs.Opening.{OnlyFixedObjectsHaveWords, StartsMain, StartedThreadsHaveBegun}

no_word : (o : Option FixedObject) (i : ℕ) → IsNone (option_map fixed_header o) → fixed_word o i ≡ 0
no_word None i none = refl
no_word (Some o) i none = cc

pub no_words : {S : Type 0} → OnlyFixedObjectsHaveWords S
no_words opening l r i none = no_word (fixed_at opening.objects r) i none

-- what is so of each element is so of the first one that passes a test
found : {X : Type 0} (Fact : X → Type 0) (test : X → Bool) (xs : List X) → All Fact xs → (x : X) → find test xs ≡ Some x → (test x ≡ true) × Fact x
found Fact test [] all x is = cc
found {X} Fact test (y ∷ ys) all x is = of (test y) refl is (found Fact test ys (All-tail Fact y ys all) x)
  where
    of : (passes : Bool) → test y ≡ passes → cond passes (Some y) (find test ys) ≡ Some x → (find test ys ≡ Some x → (test x ≡ true) × Fact x) → (test x ≡ true) × Fact x
    of true passed here behind = let same : y ≡ x = cc in (ap test (sym same) ∙ passed, subst Fact same (All-head Fact y ys all))
    of false failed here behind = behind here

-- so it is of the fixed object that a reference names
named : (objects : List FixedObject) (Fact : FixedObject → Type 0) → All Fact objects → (r : ℕ) (o : FixedObject) → fixed_at objects r ≡ Some o → (r ≡ o.reference) × Fact o
named objects Fact all r o is =
    let (here, fact) = found Fact (λ x. r == x.reference) (reverse objects) (All-permutation Fact objects (reverse objects) (IsPermutation-reverse objects) all) o is in
    (eqb-true r o.reference here, fact)

only_main : (opening : Opening) (r : ℕ) → StartsMain opening → (o : Option FixedObject) → fixed_at opening.objects r ≡ o → 0 < fixed_start o → r ≡ opening.main_thread
only_main opening r starts None is begun = absurd (omega (arith, begun))
only_main opening r starts (Some o) is begun =
    let (here, fact) = named opening.objects (λ x. x.reference ≡ opening.main_thread ⊎ (x.started ≡ 0)) starts.others r o is in
    elim fact [
      | inl main ↦ here ∙ main
      | inr none ↦ absurd (omega (arith, begun, none))
    ]

pub threads_begun : {S : Type 0} → StartedThreadsHaveBegun S
threads_begun {S} opening l r starts begun =
    let main : r ≡ opening.main_thread = only_main opening r starts (fixed_at opening.objects r) refl begun in
    let one : fixed_start (fixed_at opening.objects r) ≡ 1 = ap (λ q. fixed_start (fixed_at opening.objects q)) main ∙ starts.main in
    (main, ap (set_at (λ _. unused) 1 (live l)) one)
