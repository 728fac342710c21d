-- Threads by their numbers.
use Rattle.std.proofs.Common.{◌≡◌, ℕ, zero, suc, ◌<◌, ◌≤◌, Option, None, Some, List, [], ◌∷◌, ◌++◌, length, get_or, slice_set, arith, refl, sym, ◌∙◌, ap}
use Rattle.std.proofs.Math.Path.{fun_ext}
use Rattle.std.specs.Prelude.{Result, Ok, Err, OnErr}
use Rattle.std.specs.Option.{option_map}
use Rattle.std.proofs.lemmas.Option.{unwrap_or-slice_get}
use Rattle.std.proofs.lemmas.List.{get_or-set_other}
use Rattle.std.proofs.lemmas.Grind.{get_or-set_at}
use Rattle.op_core.specs.declared.NoMemory.{NoMemory}
use Rattle.op_core.specs.OrdinaryState.{set_at}
use Rattle.op_core.proofs.PointwiseLemmas.{set_at-at, set_at-both, set_at-same}
use Rattle.word_machine.specs.Seats.{seat_in}

-- another one at a number
pub seats_set : {A : Type 0} (places : List (Option A)) (t : ℕ) (x : Option A) → t < length places → seat_in (slice_set places t x) ≡ set_at (seat_in places) t x
seats_set {A} places t x inside = fun_ext (λ k. sym (set_at-at (λ y. y ≡ seat_in (slice_set places t x) k) (seat_in places) t x k
    (λ here. sym (unwrap_or-slice_get (slice_set places t x) k None ∙ get_or-set_at places t k x None here inside))
    (λ other. unwrap_or-slice_get places k None ∙ sym (get_or-set_other places t k x None other) ∙ sym (unwrap_or-slice_get (slice_set places t x) k None))))

-- a place more, at which there is none
more_at : {A : Type 0} (xs : List (Option A)) (k : ℕ) → seat_in (xs ++ None ∷ []) k ≡ seat_in xs k
more_at [] zero = refl
more_at [] (suc k) = refl
more_at (x ∷ xs) zero = refl
more_at (x ∷ xs) (suc k) = more_at xs k

pub seats_more : {A : Type 0} (xs : List (Option A)) → seat_in (xs ++ None ∷ []) ≡ seat_in xs
seats_more xs = fun_ext (more_at xs)

-- what each of them is, where one is another
pub mapped_set : {A B : Type 0} (f : A → B) (seats : ℕ → Option A) (t : ℕ) (x : A) → ◌≡◌ {A = ℕ → Option B} (λ k. option_map f (set_at seats t (Some x) k)) (set_at (λ k. option_map f (seats k)) t (Some (f x)))
mapped_set {A} {B} f seats t x = fun_ext (λ k. set_at-both (λ y z. option_map f y ≡ z) seats (λ k. option_map f (seats k)) t (Some x) (Some (f x)) k (λ _. refl) (λ _. refl))

-- or is as before
pub mapped_same : {A B : Type 0} (f : A → B) (seats : ℕ → Option A) (t : ℕ) (x y : A) → seats t ≡ Some x → f y ≡ f x → ◌≡◌ {A = ℕ → Option B} (λ k. option_map f (set_at seats t (Some y) k)) (λ k. option_map f (seats k))
mapped_same f seats t x y here same = mapped_set f seats t y ∙ set_at-same (λ k. option_map f (seats k)) t (Some (f y)) (ap (option_map f) here ∙ ap Some (sym same))

-- or is as it was, as far as it counts
pub mapped_kept : {A B : Type 0} (f : A → B) (seats : ℕ → Option A) (t : ℕ) (x : Option A) → option_map f x ≡ option_map f (seats t) → ◌≡◌ {A = ℕ → Option B} (λ k. option_map f (set_at seats t x k)) (λ k. option_map f (seats k))
mapped_kept {A} {B} f seats t x same = fun_ext (λ k. set_at-at (λ y. option_map f y ≡ option_map f (seats k)) seats t x k (λ here. same ∙ ap (λ j. option_map f (seats j)) (sym here)) (λ _. refl))

pub some_same : {A : Type 0} (x y : A) → Some x ≡ Some y → x ≡ y
some_same x y is = cc

-- what is so of each, where another one that it is so of comes
pub all_set : {A : Type 0} (P : A → Type 0) (seats : ℕ → Option A) (n : ℕ) (x : Option A) → ((t : ℕ) (y : A) → seats t ≡ Some y → P y) → ((y : A) → x ≡ Some y → P y)
    → (t : ℕ) (y : A) → set_at seats n x t ≡ Some y → P y
all_set P seats n x has here t y = set_at-at (λ z. z ≡ Some y → P y) seats n x t (λ _ is. here y is) (λ _. has t y)

-- there is none from a number on, where another one comes only in place of one
pub none_set : {A : Type 0} (seats : ℕ → Option A) (n count : ℕ) (x : Option A) → ((k : ℕ) → count ≤ k → seats k ≡ None) → (seats n ≡ None → x ≡ None)
    → (k : ℕ) → count ≤ k → set_at seats n x k ≡ None
none_set seats n count x none stays k above = set_at-at (λ z. z ≡ None) seats n x k (λ here. stays (ap seats (sym here) ∙ none k above)) (λ _. none k above)

-- the thread at a place
pub seat_inside : {A : Type 0} (places : List (Option A)) (t : ℕ) (now : Option A) → now ≡ get_or places t now → t < length places → seat_in places t ≡ now
seat_inside places t now is inside = unwrap_or-slice_get places t None ∙ get_or_same places t None now inside ∙ sym is
  where
    get_or_same : {A : Type 0} (xs : List A) (k : ℕ) (d e : A) → k < length xs → get_or xs k d ≡ get_or xs k e
    get_or_same [] k d e inside = absurd (omega (arith, inside))
    get_or_same (x ∷ xs) zero d e inside = refl
    get_or_same (x ∷ xs) (suc k) d e inside = get_or_same xs k d e (omega (arith, inside))

pub seat_hit : {A : Type 0} (places : List (Option A)) (t : ℕ) (x : Option A) → t < length places → seat_in (slice_set places t x) t ≡ x
seat_hit places t x inside = unwrap_or-slice_get (slice_set places t x) t None ∙ get_or-set_at places t t x None refl inside

-- what an error gives, if it gives this
pub err_gives : {A : Type 0} (result : Result A NoMemory) (P Q : Type 0) → (P → Q) → OnErr result P → OnErr result Q
err_gives (Ok x) P Q gives has = has
err_gives (Err e) P Q gives has = gives has

pub err_has : {A : Type 0} (result : Result A NoMemory) (P : Type 0) → P → OnErr result P
err_has (Ok x) P has = tt
err_has (Err e) P has = has
