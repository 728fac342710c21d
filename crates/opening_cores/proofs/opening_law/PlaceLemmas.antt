-- The object that a reference names is the one that lies over its places.
use Rattle.std.proofs.Common.{◌≡◌, ℕ, ◌+◌, ◌<◌, ◌≤◌, suc, Bool, true, false, cond, nat_eq, Option, Some, List, [], ◌∷◌, ◌++◌, length, reverse, get_or, refl, sym, ap, subst, arith}
use Rattle.std.specs.Prelude.{◌==◌, find, unwrap_or, ⊤}
use Rattle.std.specs.List.{All, AllPairs, AllByRecursion}
use Rattle.std.proofs.lemmas.Bool.Decides.{nat_tests}
use Rattle.std.proofs.lemmas.Grind.{common_steps}
use Rattle.std.proofs.lemmas.List.{reverse-append}
use Rattle.fixed_objects.specs.declared.FixedObject.{FixedObject}
use Rattle.plain_words.specs.Opening.{LiesBehind, lies_over}

-- ---- what holds of each element

each_from : {X : Type 0} (P : X → Type 0) (xs : List X) → ((k : ℕ) (d : X) → k < length xs → P (get_or xs k d)) → AllByRecursion P xs
each_from P [] all = tt
each_from P (x ∷ xs) all = (all 0 x (omega arith), each_from P xs (λ k d below. all (suc k) d (omega (arith, below))))

each_append : {X : Type 0} (P : X → Type 0) (xs : List X) (x : X) → AllByRecursion P xs → P x → AllByRecursion P (xs ++ x ∷ [])
each_append P [] x each last = (last, tt)
each_append P (y ∷ ys) x each last = (each.0, each_append P ys x each.1 last)

each_reverse : {X : Type 0} (P : X → Type 0) (xs : List X) → AllByRecursion P xs → AllByRecursion P (reverse xs)
each_reverse P [] each = tt
each_reverse P (x ∷ xs) each = subst (AllByRecursion P) (sym (reverse-append (x ∷ []) xs)) (each_append P (reverse xs) x (each_reverse P xs each.1) each.0)

found_in : {X : Type 0} (P : X → Type 0) (test : X → Bool) (xs : List X) (o : X) → AllByRecursion P xs → find test xs ≡ Some o → P o
found_in P test [] o each found = absurd cc
found_in {X} P test (x ∷ xs) o each found = by_test (test x) (λ later. found_in P test xs o each.1 later) found
  where
    by_test : (t : Bool) → (find test xs ≡ Some o → P o) → cond t (Some x) (find test xs) ≡ Some o → P o
    by_test true later found = subst P (ap (λ (y : Option X). unwrap_or y x) found) each.0
    by_test false later found = later found

pub all_found : {X : Type 0} (P : X → Type 0) (test : X → Bool) (xs : List X) (o : X) → All P xs → find test (reverse xs) ≡ Some o → P o
all_found P test xs o all found = found_in P test (reverse xs) o (each_reverse P xs (each_from P xs all)) found

pub passes : {X : Type 0} (test : X → Bool) (xs : List X) (o : X) → find test xs ≡ Some o → test o ≡ true
passes test [] o found = absurd cc
passes {X} test (x ∷ xs) o found = by_test (test x) refl (λ later. passes test xs o later) found
  where
    by_test : (t : Bool) → test x ≡ t → (find test xs ≡ Some o → test o ≡ true) → cond t (Some x) (find test xs) ≡ Some o → test o ≡ true
    by_test true is later found = subst (λ y. test y ≡ true) (ap (λ (y : Option X). unwrap_or y x) found) is
    by_test false is later found = later found

-- ---- objects that lie one after another

-- from the last on
abbrev Falling : List FixedObject → Type 0
Falling [] = ⊤
Falling (x ∷ xs) = AllByRecursion (λ y. LiesBehind y x) xs × Falling xs

falling_append : (xs : List FixedObject) (x : FixedObject) → Falling xs → AllByRecursion (λ y. LiesBehind x y) xs → Falling (xs ++ x ∷ [])
falling_append [] x falls ahead = (tt, tt)
falling_append (y ∷ ys) x falls ahead =
    (each_append (λ z. LiesBehind z y) ys x falls.0 ahead.0, falling_append ys x falls.1 ahead.1)

falling_reverse : (xs : List FixedObject) → AllPairs LiesBehind xs → Falling (reverse xs)
falling_reverse [] apart = tt
falling_reverse (x ∷ xs) apart =
    subst Falling (sym (reverse-append (x ∷ []) xs))
    (falling_append (reverse xs) x
    (falling_reverse xs (λ i j d less below. apart (suc i) (suc j) d (omega (arith, less)) (omega (arith, below))))
    (each_reverse (λ y. LiesBehind x y) xs (each_from (λ y. LiesBehind x y) xs (λ k d below. apart 0 (suc k) d (omega arith) (omega (arith, below))))))

-- the object of a reference lies over each of its places, and no other does
found_over : (xs : List FixedObject) (r p : ℕ) (o : FixedObject) → Falling xs → find (λ x. r == x.reference) xs ≡ Some o
    → r ≤ p → p < r + 2 + length o.words → find (lies_over p) xs ≡ Some o
found_over [] r p o falls found from to = absurd cc
found_over (x ∷ xs) r p o falls found from to = by_test (nat_eq r x.reference) refl (λ later. found_over xs r p o falls.1 later from to) found
  where
    by_test : (t : Bool) → nat_eq r x.reference ≡ t → (find (λ y. r == y.reference) xs ≡ Some o → find (lies_over p) xs ≡ Some o) → cond t (Some x) (find (λ y. r == y.reference) xs) ≡ Some o
        → cond (lies_over p x) (Some x) (find (lies_over p) xs) ≡ Some o
    by_test true is later found =
        let own : x ≡ o = ap (λ (y : Option FixedObject). unwrap_or y x) found in
        let over : lies_over p x ≡ true = subst (λ n. (p < r + 2 + n) → lies_over p x ≡ true) (ap (λ y. length y.words) own) (λ below. grind (arith, nat_tests, common_steps)) to in
        subst (λ t. cond t (Some x) (find (lies_over p) xs) ≡ Some o) (sym over) (ap Some own)
    by_test false is later found =
        let behind : LiesBehind o x = found_in (λ y. LiesBehind y x) (λ y. r == y.reference) xs o falls.0 found in
        let reference : nat_eq r o.reference ≡ true = passes (λ y. r == y.reference) xs o found in
        let past : lies_over p x ≡ false = grind (arith, nat_tests, common_steps) in
        subst (λ t. cond t (Some x) (find (lies_over p) xs) ≡ Some o) (sym past) (later found)

pub is_over : (objects : List FixedObject) (r p : ℕ) (o : FixedObject) → AllPairs LiesBehind objects → find (λ x. r == x.reference) (reverse objects) ≡ Some o
    → r ≤ p → p < r + 2 + length o.words → find (lies_over p) (reverse objects) ≡ Some o
is_over objects r p o apart found from to = found_over (reverse objects) r p o (falling_reverse objects apart) found from to
