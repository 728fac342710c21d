-- Tests over lists of numbers without repeats, and over what each of some numbers has.
use Rattle.std.proofs.Common.{◌≡◌, ℕ, ◌==◌, ◌||◌, Bool, true, false, List, [], ◌∷◌, ◌++◌, All, filter, flat_map, get_or, inl, inr, refl, sym, ◌∙◌, ap, true≢false}
use Rattle.std.specs.List.{list_any}
use borrow.Author.Tests.{eqb-true}
use Rattle.std.proofs.lemmas.Bool.{cases_Bool}
use Rattle.std.proofs.lemmas.List.Elements.{filter-append}
use Rattle.std.proofs.lemmas.List.Folds.{list_any-append, list_any_at, list_any_none}
use Rattle.std.proofs.Math.Bool.{or-false}
use Rattle.search_orders.specs.Orders.{has_number, put, put_all, without_repeats}

or_or : (a b c : Bool) → ((a || b) || c) ≡ (a || (b || c))
or_or true b c = refl
or_or false b c = refl

or_again : (a b : Bool) → ((a || b) || a) ≡ (a || b)
or_again true b = refl
or_again false b = or-false b

-- a number that is there adds nothing
adds_nothing : (f : ℕ → Bool) (xs : List ℕ) (y : ℕ) → has_number xs y ≡ true → (list_any f xs || f y) ≡ list_any f xs
adds_nothing f [] y there = absurd (true≢false (sym there))
adds_nothing f (x ∷ xs) y there = elim (cases_Bool (x == y)) [
  | inl same ↦ ap (λ n. (f x || list_any f xs) || f n) (sym (eqb-true x y same)) ∙ or_again (f x) (list_any f xs)
  | inr other ↦ or_or (f x) (list_any f xs) (f y) ∙ ap (λ b. f x || b) (adds_nothing f xs y (rw other at there))
]

any_put : (f : ℕ → Bool) (xs : List ℕ) (y : ℕ) → list_any f (put xs y) ≡ (list_any f xs || f y)
any_put f xs y = elim (cases_Bool (has_number xs y)) [
  | inl there ↦ (let stays : put xs y ≡ xs = rw there refl in ap (list_any f) stays ∙ sym (adds_nothing f xs y there))
  | inr none ↦ (let new : put xs y ≡ xs ++ y ∷ [] = rw none refl in ap (list_any f) new ∙ list_any-append f xs (y ∷ []) ∙ ap (λ b. list_any f xs || b) (or-false (f y)))
]

any_put_all : (f : ℕ → Bool) (xs ys : List ℕ) → list_any f (put_all xs ys) ≡ (list_any f xs || list_any f ys)
any_put_all f xs [] = sym (or-false (list_any f xs))
any_put_all f xs (y ∷ ys) = any_put_all f (put xs y) ys ∙ ap (λ b. b || list_any f ys) (any_put f xs y) ∙ or_or (list_any f xs) (f y) (list_any f ys)

-- repeats change no test
pub any_once : (f : ℕ → Bool) (ys : List ℕ) → list_any f (without_repeats ys) ≡ list_any f ys
any_once f ys = any_put_all f [] ys

-- a test over those of each number that are kept
pub any_of_each : {X : Type 0} (f g : X → Bool) (h : ℕ → List X) (ds : List ℕ) → list_any (λ d. list_any f (filter g (h d))) ds ≡ list_any f (filter g (flat_map h ds))
any_of_each f g h [] = refl
any_of_each f g h (d ∷ ds) =
    ap (λ b. list_any f (filter g (h d)) || b) (any_of_each f g h ds)
    ∙ sym (ap (list_any f) (filter-append g (h d) (flat_map h ds)) ∙ list_any-append f (filter g (h d)) (filter g (flat_map h ds)))

-- a test that none passes
pub all_where_none : {X : Type 0} (f : X → Bool) (P : X → Type 0) (xs : List X) → ((x : X) → f x ≡ false → P x) → list_any f xs ≡ false → All P xs
all_where_none f P xs says none = λ k d lt. elim (cases_Bool (f (get_or xs k d))) [
  | inl passes ↦ absurd (true≢false (sym (list_any_at f xs k d lt passes) ∙ none))
  | inr fails ↦ says (get_or xs k d) fails
]

pub none_where_all : {X : Type 0} (f : X → Bool) (P : X → Type 0) (xs : List X) → ((x : X) → P x → f x ≡ false) → All P xs → list_any f xs ≡ false
none_where_all f P xs says all = list_any_none f xs (λ k d lt. says (get_or xs k d) (all k d lt))
