-- The classes of an order are there, and one that isn't there is alone.
use Rattle.std.proofs.Common.{◌≡◌, ◌<◌, ◌≤◌, ◌==◌, ℕ, zero, suc, true, List, [], ◌∷◌, ◌++◌, length, map, flat_map, Option, None, Some, inl, inr, refl, sym, ◌∙◌, ap, arith}
use Rattle.std.specs.Option.{option_map_or}
use Rattle.std.proofs.lemmas.Bool.{cases_Bool, eqb-true}
use borrow.Author.Tests.{eq-eqb}
use Rattle.search_orders.specs.Orders.{has_number}
use Rattle.link_rules.specs.Classes.{NamedClass, class_number, class_numbered, superclass_of, interfaces_of}
use Rattle.link_rules.specs.Supers.{superclasses, superclasses_within, superinterfaces, superinterfaces_within, method_order}
use Rattle.link_rules.proofs.Numbers.{superclass_within, class_number_within, past_all, past_super}
use Rattle.link_rules.proofs.Upward.{up_none}

-- each number of a list is a bound at most
abbrev pub Within : ℕ → List ℕ → Type 0
Within b xs = (d : ℕ) → has_number xs d ≡ true → d ≤ b

within_cons : (b x : ℕ) (xs : List ℕ) → x ≤ b → Within b xs → Within b (x ∷ xs)
within_cons b x xs le within d has = elim (cases_Bool (x == d)) [
  | inl same ↦ omega (arith, le, eqb-true x d same)
  | inr other ↦ within d (sym (rw other refl) ∙ has)
]

first_within : (b x : ℕ) (xs : List ℕ) → Within b (x ∷ xs) → x ≤ b
first_within b x xs within = within x (rw (eq-eqb x x refl) refl)

others_within : (b x : ℕ) (xs : List ℕ) → Within b (x ∷ xs) → Within b xs
others_within b x xs within d has = elim (cases_Bool (x == d)) [
  | inl same ↦ within d (rw same refl)
  | inr other ↦ within d (rw other has)
]

within_append : (b : ℕ) (xs ys : List ℕ) → Within b xs → Within b ys → Within b (xs ++ ys)
within_append b [] ys hx hy = hy
within_append b (x ∷ xs) ys hx hy = within_cons b x (xs ++ ys) (first_within b x xs hx) (within_append b xs ys (others_within b x xs hx) hy)

within_flat_map : (b : ℕ) (g : ℕ → List ℕ) (xs : List ℕ) → ((x : ℕ) → x ≤ b → Within b (g x)) → Within b xs → Within b (flat_map g xs)
within_flat_map b g [] all within = within
within_flat_map b g (x ∷ xs) all within =
    within_append b (g x) (flat_map g xs) (all x (first_within b x xs within)) (within_flat_map b g xs all (others_within b x xs within))

upward_within : (cs : List NamedClass) (n c : ℕ) → c ≤ length cs → Within (length cs) (superclasses_within cs n c)
upward_within cs zero c le = λ d has. absurd cc
upward_within cs (suc n) zero le = λ d has. absurd cc
upward_within cs (suc n) (suc c) le =
    within_cons (length cs) (suc c) (superclasses_within cs n (superclass_of cs (suc c))) le (upward_within cs n (superclass_of cs (suc c)) (superclass_within cs (suc c)))

numbers_within : (cs : List NamedClass) (names : List (List ℕ)) → Within (length cs) (map (class_number cs) names)
numbers_within cs [] = λ d has. absurd cc
numbers_within cs (name ∷ names) = within_cons (length cs) (class_number cs name) (map (class_number cs) names) (class_number_within cs name) (numbers_within cs names)

named_within : (cs : List NamedClass) (o : Option NamedClass) → Within (length cs) (option_map_or (λ (k : NamedClass). map (class_number cs) k.interfaces) o [])
named_within cs None = λ d has. absurd cc
named_within cs (Some k) = numbers_within cs k.interfaces

over_within : (cs : List NamedClass) (n c : ℕ) → Within (length cs) (superinterfaces_within cs n c)
over_within cs zero c = λ d has. absurd cc
over_within cs (suc n) c =
    within_flat_map (length cs) (λ i. i ∷ superinterfaces_within cs n i) (interfaces_of cs c)
    (λ i le. within_cons (length cs) i (superinterfaces_within cs n i) le (over_within cs n i)) (named_within cs (class_numbered cs c))

pub superclasses_within_all : (cs : List NamedClass) (c : ℕ) → c ≤ length cs → Within (length cs) (superclasses cs c)
superclasses_within_all cs c le = upward_within cs (length cs) c le

pub order_within_all : (cs : List NamedClass) (c : ℕ) → c ≤ length cs → Within (length cs) (method_order cs c)
order_within_all cs c le =
    within_append (length cs) (superclasses cs c) (flat_map (superinterfaces cs) (superclasses cs c)) (superclasses_within_all cs c le)
    (within_flat_map (length cs) (superinterfaces cs) (superclasses cs c) (λ d d_le. over_within cs (length cs) d) (superclasses_within_all cs c le))

-- a class that isn't there
pub alone : (cs : List NamedClass) (c : ℕ) → 0 < length cs → length cs < c → superclasses cs c ≡ c ∷ []
alone cs c some lt = go (length cs) c some (omega (arith, lt)) (past_super cs c lt)
  where
    go : (n c : ℕ) → 0 < n → 0 < c → superclass_of cs c ≡ 0 → superclasses_within cs n c ≡ c ∷ []
    go zero c lt some e = absurd (omega (arith, lt))
    go (suc n) zero lt some e = absurd (omega (arith, some))
    go (suc n) (suc c) lt some e = ap (λ s. suc c ∷ superclasses_within cs n s) e ∙ ap (λ xs. suc c ∷ xs) (up_none cs n)

no_interfaces : (cs : List NamedClass) (c n : ℕ) → length cs < c → superinterfaces_within cs n c ≡ []
no_interfaces cs c zero lt = refl
no_interfaces cs c (suc n) lt =
    ap (λ o. flat_map (λ i. i ∷ superinterfaces_within cs n i) (option_map_or (λ (k : NamedClass). map (class_number cs) k.interfaces) o [])) (past_all cs c lt)

pub order_alone : (cs : List NamedClass) (c : ℕ) → 0 < length cs → length cs < c → method_order cs c ≡ c ∷ []
order_alone cs c some lt =
    ap (λ xs. xs ++ flat_map (superinterfaces cs) xs) (alone cs c some lt)
    ∙ ap (λ xs. c ∷ (xs ++ [])) (no_interfaces cs c (length cs) lt)
