-- From a test over a whole table to the rule at each entry.
use Rattle.std.proofs.Common.{◌≡◌, ◌+◌, ◌-◌, ◌<◌, ◌≤◌, ℕ, zero, suc, Bool, true, false, cond, nat_eq, List, [], ◌∷◌, length, map, refl, sym, subst, arith}
use Rattle.std.specs.Prelude.{◌↔◌, Option, Some, None, slice_get, find}
use Rattle.std.specs.List.{All, Contains, range_with_len, slice_index_or}
use Rattle.std.specs.Option.{option_map, option_map_or, IfSome, IsSome, IsSomeAnd}
use Rattle.std.specs.Str.{bytes_eq}
use Rattle.std.proofs.lemmas.Bool.{eqb-true, eqb-false}
use Rattle.std.proofs.lemmas.Slice.Eq.{bytes_eq-Decides}
use Rattle.std.proofs.lemmas.List.Elements.{All-nil, All-cons, All-head, All-tail, All-weaker}

-- two lists of answers that are one say that each entry has equal answers
pub All-from_map : {X Y : Type 0} (f g : X → Y) (xs : List X) → map f xs ≡ map g xs → All (λ x. f x ≡ g x) xs
All-from_map f g [] same = All-nil (λ x. f x ≡ g x)
All-from_map f g (x ∷ xs) same =
    All-cons (λ x. f x ≡ g x) x xs (cc) (All-from_map f g xs (cc))

-- the same of the entries of each entry
pub All-from_map_within : {X Y Z : Type 0} (entries : X → List Y) (f g : X → Y → Z) (xs : List X) → map (λ x. map (f x) (entries x)) xs ≡ map (λ x. map (g x) (entries x)) xs → All (λ x. All (λ y. f x y ≡ g x y) (entries x)) xs
All-from_map_within entries f g xs same =
    All-weaker (λ x. map (f x) (entries x) ≡ map (g x) (entries x)) (λ x. All (λ y. f x y ≡ g x y) (entries x))
    (λ x e. All-from_map (f x) (g x) (entries x) e) xs
    (All-from_map (λ x. map (f x) (entries x)) (λ x. map (g x) (entries x)) xs same)

-- a test that each entry passes
pub All-from_test : {X : Type 0} (p : X → Bool) (P : X → Type 0) → ((x : X) → p x ≡ true → P x) → (xs : List X) → map p xs ≡ map (λ _. true) xs → All P xs
All-from_test p P tells xs pass = All-weaker (λ x. p x ≡ true) P tells xs (All-from_map p (λ _. true) xs pass)

-- what is found of the shown values is what is found, shown
pub option_map-find : {X Y : Type 0} (f : X → Y) (p : Y → Bool) (xs : List X) → option_map f (find (λ x. p (f x)) xs) ≡ find p (map f xs)
option_map-find f p [] = refl
option_map-find f p (x ∷ xs) =
    elim (p (f x)) as (λ b. option_map f (cond b (Some x) (find (λ x. p (f x)) xs)) ≡ cond b (Some (f x)) (find p (map f xs)))
    [ true ↦ refl | false ↦ option_map-find f p xs ]

-- entries that are numbered from n on are found by their numbers at their places, and none below n
pub find-numbered : {X : Type 0} (number : X → ℕ) (xs : List X) (n k : ℕ) → map number xs ≡ range_with_len n (length xs) → n ≤ k → find (λ x. nat_eq (number x) k) xs ≡ slice_get xs (k - n)
find-numbered number [] n k numbers within = refl
find-numbered number (x ∷ xs) n k numbers within =
    let head : number x ≡ n = cc in
    let tail : map number xs ≡ range_with_len (n + 1) (length xs) = cc in
    let there : nat_eq (number x) k ≡ true → Some x ≡ slice_get (x ∷ xs) (k - n) = λ e.
    let same : number x ≡ k = eqb-true (number x) k e in
    let none : k - n ≡ 0 = omega arith in
    rw none in
    let later : nat_eq (number x) k ≡ false → find (λ x. nat_eq (number x) k) xs ≡ slice_get (x ∷ xs) (k - n) = λ e.
    let other : number x ≡ k → ⊥ = eqb-false (number x) k e in
    let more : k - n ≡ suc (k - (n + 1)) = omega (arith, other) in
    rw more (find-numbered number xs (n + 1) k tail (omega (arith, other))) in
    let at : (b : Bool) → nat_eq (number x) k ≡ b → cond b (Some x) (find (λ x. nat_eq (number x) k) xs) ≡ slice_get (x ∷ xs) (k - n) =
    λ b. elim b as (λ b. nat_eq (number x) k ≡ b → cond b (Some x) (find (λ x. nat_eq (number x) k) xs) ≡ slice_get (x ∷ xs) (k - n)) [ true ↦ there | false ↦ later ] in
    at (nat_eq (number x) k) refl

-- what holds of each entry holds of the one that is found
pub IfSome-find : {X : Type 0} (P : X → Type 0) (p : X → Bool) (xs : List X) → All P xs → IfSome (find p xs) P
IfSome-find P p [] all = tt
IfSome-find P p (x ∷ xs) all =
    elim (p x) as (λ b. IfSome (cond b (Some x) (find p xs)) P)
    [ true ↦ All-head P x xs all | false ↦ IfSome-find P p xs (All-tail P x xs all) ]

-- the one that is found passes the test
pub IfSome-find_passes : {X : Type 0} (p : X → Bool) (xs : List X) → IfSome (find p xs) (λ x. p x ≡ true)
IfSome-find_passes p [] = tt
IfSome-find_passes p (x ∷ xs) =
    let at : (b : Bool) → p x ≡ b → IfSome (cond b (Some x) (find p xs)) (λ y. p y ≡ true) =
    λ b. elim b as (λ b. p x ≡ b → IfSome (cond b (Some x) (find p xs)) (λ y. p y ≡ true))
    [ true ↦ (λ passes. passes) | false ↦ (λ _. IfSome-find_passes p xs) ] in
    at (p x) refl

-- a fact that follows from another
pub IfSome-weaker : {X : Type 0} (P Q : X → Type 0) → ((x : X) → P x → Q x) → (o : Option X) → IfSome o P → IfSome o Q
IfSome-weaker P Q follows None holds = tt
IfSome-weaker P Q follows (Some x) holds = follows x holds

-- a fact of what an answer shows is a fact of the answer
pub IfSome-option_map : {X Y : Type 0} (f : X → Y) (P : Y → Type 0) (o : Option X) (q : Option Y) → option_map f o ≡ q → IfSome q P → IfSome o (λ x. P (f x))
IfSome-option_map f P None q same holds = tt
IfSome-option_map f P (Some x) q same holds =
    let F : Option _ → Type 0 = λ r. IfSome r P in
    subst F (sym same) holds

-- a test of what is there, which passes where nothing is, and one which fails there
pub IfSome-from_test : {X : Type 0} (p : X → Bool) (P : X → Type 0) → ((x : X) → p x ≡ true → P x) → (o : Option X) → option_map_or p o true ≡ true → IfSome o P
IfSome-from_test p P tells None passes = tt
IfSome-from_test p P tells (Some x) passes = tells x passes

pub IsSomeAnd-from_test : {X : Type 0} (p : X → Bool) (P : X → Type 0) → ((x : X) → p x ≡ true → P x) → (o : Option X) → option_map_or p o false ≡ true → IsSomeAnd o P
IsSomeAnd-from_test p P tells None passes = cc
IsSomeAnd-from_test p P tells (Some x) passes = tells x passes

-- something is found by a name exactly where an entry has it
find_from_Contains : {X : Type 0} (name : X → List ℕ) (n : List ℕ) (xs : List X) (k : ℕ) → k < length (map name xs) → slice_index_or (map name xs) k n ≡ n → IsSome (find (λ x. bytes_eq (name x) n) xs)
find_from_Contains name n [] k within same = absurd (omega arith)
find_from_Contains name n (x ∷ xs) zero within same =
    let passes : bytes_eq (name x) n ≡ true = (bytes_eq-Decides (name x) n).1 same in
    rw passes
find_from_Contains name n (x ∷ xs) (suc k) within same =
    elim (bytes_eq (name x) n) as (λ b. IsSome (cond b (Some x) (find (λ x. bytes_eq (name x) n) xs)))
    [ true ↦ refl | false ↦ find_from_Contains name n xs k (omega arith) same ]

Contains_from_find : {X : Type 0} (name : X → List ℕ) (n : List ℕ) (xs : List X) → IsSome (find (λ x. bytes_eq (name x) n) xs) → Contains (map name xs) n
Contains_from_find name n [] found = cc
Contains_from_find name n (x ∷ xs) found =
    let at : (b : Bool) → bytes_eq (name x) n ≡ b → IsSome (cond b (Some x) (find (λ x. bytes_eq (name x) n) xs)) → Contains (map name (x ∷ xs)) n =
    λ b. elim b as (λ b. bytes_eq (name x) n ≡ b → IsSome (cond b (Some x) (find (λ x. bytes_eq (name x) n) xs)) → Contains (map name (x ∷ xs)) n) [
      | true ↦ (λ same _. (0, omega arith, (bytes_eq-Decides (name x) n).0 same))
      | false ↦ (λ _ found. let c : Contains (map name xs) n = Contains_from_find name n xs found in (suc c.0, omega arith, c.2))
    ] in
    at (bytes_eq (name x) n) refl found

pub IsSome-find_named : {X : Type 0} (name : X → List ℕ) (n : List ℕ) (xs : List X) → IsSome (find (λ x. bytes_eq (name x) n) xs) ↔ Contains (map name xs) n
IsSome-find_named name n xs =
    (Contains_from_find name n xs, λ (c : Contains (map name xs) n). find_from_Contains name n xs c.0 c.1 c.2)
