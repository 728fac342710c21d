-- Texts by their bytes.
use Rattle.std.proofs.Common.{◌≡◌, ◌⊎◌, ℕ, ◌<◌, ◌≤◌, ◌==◌, ◌&&◌, ◌||◌, nat_lt, true, false, List, [], ◌∷◌, bytes_eq, inl, inr, refl, sym, ap, subst, ◌∙◌, arith}
use borrow.Author.Tests.{eq-eqb, ne_eqb}
use Rattle.std.proofs.lemmas.Bool.{cases_order, cases_Bool, ltb-true, lt-ltb, true≢false}
use Rattle.std.proofs.lemmas.Slice.Eq.{bytes_eq-Decides}
use Rattle.link_rules.specs.Arrays.{is_before}

abbrev pub Before : List ℕ → List ℕ → Type 0
Before x y = is_before x y ≡ true

not_less : (a b : ℕ) → b ≤ a → nat_lt a b ≡ false
not_less a b le = elim (cases_Bool (nat_lt a b)) [ inl yes_less ↦ absurd (let lt = ltb-true a b yes_less in omega arith) | inr not_so ↦ not_so ]

pub by_less : (a b : ℕ) (x y : List ℕ) → a < b → Before (a ∷ x) (b ∷ y)
by_less a b x y lt = ap (λ t. t || (a == b && is_before x y)) (lt-ltb a b lt)

pub by_rest : (a : ℕ) (x y : List ℕ) → is_before (a ∷ x) (a ∷ y) ≡ is_before x y
by_rest a x y =
    ap (λ t. t || (a == a && is_before x y)) (not_less a a (omega arith)) ∙ ap (λ t. t && is_before x y) (eq-eqb a a refl)

-- how the first bytes compare
pub first_bytes : (a b : ℕ) (x y : List ℕ) → Before (a ∷ x) (b ∷ y) → (a < b) ⊎ ((a ≡ b) × Before x y)
first_bytes a b x y before = elim (cases_order a b) [
  | inl same ↦ inr (same, sym (by_rest a x y) ∙ ap (λ c. is_before (a ∷ x) (c ∷ y)) same ∙ before)
  | inr h ↦ elim h [
    | inl less ↦ inl less
    | inr more ↦ absurd (true≢false (sym before ∙ ap (λ t. t || (a == b && is_before x y)) (not_less a b (omega arith)) ∙ ap (λ t. t && is_before x y) (ne_eqb a b (λ e. omega (arith, e)))))
  ]
]

pub not_itself : (x : List ℕ) → Before x x → ⊥
not_itself [] before = true≢false (sym before)
not_itself (a ∷ x) before = not_itself x (sym (by_rest a x x) ∙ before)

pub through : (x y z : List ℕ) → Before x y → Before y z → Before x z
through x y [] one two = absurd (true≢false (sym two ∙ at_end y))
  where
    at_end : (t : List ℕ) → is_before t [] ≡ false
    at_end [] = refl
    at_end (b ∷ t) = refl
through [] y (c ∷ z) one two = refl
through (a ∷ x) [] (c ∷ z) one two = absurd (true≢false (sym one))
through (a ∷ x) (b ∷ y) (c ∷ z) one two = elim (first_bytes a b x y one) [
  | inl less ↦ elim (first_bytes b c y z two) [
    | inl more ↦ by_less a c x z (omega arith)
    | inr same ↦ by_less a c x z (let e = same.0 in omega arith)
  ]
  | inr same ↦ elim (first_bytes b c y z two) [
    | inl more ↦ by_less a c x z (let e = same.0 in omega arith)
    | inr rest ↦ subst (λ d. Before (a ∷ x) (d ∷ z)) (same.0 ∙ rest.0) (by_rest a x z ∙ through x y z same.1 rest.1)
  ]
]

-- of two texts one comes before the other, or they are the same
pub sides : (x y : List ℕ) → Before x y ⊎ ((x ≡ y) ⊎ Before y x)
sides [] [] = inr (inl refl)
sides [] (b ∷ y) = inl refl
sides (a ∷ x) [] = inr (inr refl)
sides (a ∷ x) (b ∷ y) = elim (cases_order a b) [
  | inl same ↦ equal same (sides x y)
  | inr h ↦ elim h [
    | inl less ↦ inl (by_less a b x y less)
    | inr more ↦ inr (inr (by_less b a y x more))
  ]
]
  where
    equal : a ≡ b → Before x y ⊎ ((x ≡ y) ⊎ Before y x) → Before (a ∷ x) (b ∷ y) ⊎ (((a ∷ x) ≡ (b ∷ y)) ⊎ Before (b ∷ y) (a ∷ x))
    equal same h = elim h [
      | inl first ↦ inl (subst (λ c. Before (a ∷ x) (c ∷ y)) same (by_rest a x y ∙ first))
      | inr other ↦ elim other [
        | inl one ↦ inr (inl (ap (λ c. c ∷ x) same ∙ ap (λ t. b ∷ t) one))
        | inr second ↦ inr (inr (subst (λ c. Before (c ∷ y) (a ∷ x)) same (by_rest a y x ∙ second)))
      ]
    ]

-- a text that neither comes before another nor is the same comes after it
pub behind : (x y : List ℕ) → is_before x y ≡ false → bytes_eq x y ≡ false → Before y x
behind x y no_before no_same = elim (sides x y) [
  | inl before ↦ absurd (true≢false (sym before ∙ no_before))
  | inr other ↦ elim other [
    | inl same ↦ absurd (true≢false (sym ((bytes_eq-Decides x y).1 same) ∙ no_same))
    | inr back ↦ back
  ]
]
