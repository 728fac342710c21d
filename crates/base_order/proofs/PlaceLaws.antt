-- The places of types, one type after the other.
use Rattle.std.proofs.Common.{◌≡◌, ◌≢◌, ℕ, zero, suc, ◌+◌, ◌<◌, List, length, slice_get, Option, None, Some, IsSome, is_some, inl, inr, refl, sym, ap, subst, ◌∙◌, replicate, arith}
use Rattle.std.specs.Option.{option_and_then, option_flatten}
use Rattle.std.proofs.lemmas.Bool.{cases_lt, cases_eq}
use Rattle.std.proofs.lemmas.Option.{same_Some, none-some, slice_get_within}
use Rattle.link_types.specs.declared.types.ElementType.{ElementType}
use Rattle.link_types.specs.declared.types.ElementType.TheVariants.{Boolean, Byte, Char, Short, Int, Long, Float, Double, Class, Other}
use Rattle.link_rules.specs.Classes.{NamedClass}
use Rattle.base_order.specs.Bases.{IsBase}
use Rattle.base_order.specs.Slots.{slot_of, kept_at}
use Rattle.base_order.specs.Places.{ArePlaces}

-- the type of a number
at_slot : ℕ → ElementType
at_slot zero = Boolean
at_slot (suc zero) = Byte
at_slot (suc (suc zero)) = Char
at_slot (suc (suc (suc zero))) = Short
at_slot (suc (suc (suc (suc zero)))) = Int
at_slot (suc (suc (suc (suc (suc zero))))) = Long
at_slot (suc (suc (suc (suc (suc (suc zero)))))) = Float
at_slot (suc (suc (suc (suc (suc (suc (suc zero))))))) = Double
at_slot (suc (suc (suc (suc (suc (suc (suc (suc c)))))))) = Class c

slot_back : (base : ElementType) (slot : ℕ) → slot_of base ≡ Some slot → at_slot slot ≡ base
unfolding at_slot
slot_back Boolean slot e = ap at_slot (sym (same_Some 0 slot e))
slot_back Byte slot e = ap at_slot (sym (same_Some 1 slot e))
slot_back Char slot e = ap at_slot (sym (same_Some 2 slot e))
slot_back Short slot e = ap at_slot (sym (same_Some 3 slot e))
slot_back Int slot e = ap at_slot (sym (same_Some 4 slot e))
slot_back Long slot e = ap at_slot (sym (same_Some 5 slot e))
slot_back Float slot e = ap at_slot (sym (same_Some 6 slot e))
slot_back Double slot e = ap at_slot (sym (same_Some 7 slot e))
slot_back (Class c) slot e =
    let number : slot ≡ suc (suc (suc (suc (suc (suc (suc (suc c))))))) = sym (same_Some (8 + c) slot e) ∙ (omega arith) in
    ap at_slot number
slot_back (Other n) slot e = absurd (none-some slot e)

one_slot : (a b : ElementType) (slot : ℕ) → slot_of a ≡ Some slot → slot_of b ≡ Some slot → a ≡ b
one_slot a b slot one other = sym (slot_back a slot one) ∙ slot_back b slot other

abbrev nothing : Option ℕ
nothing = None

pub no_places : (bases : List ElementType) (count : ℕ) (places : List (Option ℕ)) → places ≡ replicate count None → ArePlaces bases 0 places
no_places bases count places are = subst (ArePlaces bases 0) (sym are) (record {
  only = λ slot place e. absurd (never count slot place e);
  there = λ i slot base lt at its within. absurd (omega arith);
})
  where
    never : (n i place : ℕ) → slice_get (replicate n nothing) i ≡ Some (Some place) → ⊥
    never zero i place e = none-some (Some place) e
    never (suc n) zero place e = absurd cc
    never (suc n) (suc i) place e = never n i place e

pub places_more : (bases : List ElementType) (n : ℕ) (base : ElementType) (old new : List (Option ℕ)) → slice_get bases n ≡ Some base → ArePlaces bases n old → length new ≡ length old
    → ((slot : ℕ) → slot_of base ≡ Some slot → slot < length old → slice_get new slot ≡ Some (Some n)) → ((slot : ℕ) → slot_of base ≢ Some slot → slice_get new slot ≡ slice_get old slot)
    → ArePlaces bases (n + 1) new
places_more bases n base old new at are count here elsewhere = record {
  only = λ slot place e. only slot place e (slot_of base) refl;
  there = λ i slot b lt stands its within. there i slot b lt stands its (let same = count in omega arith) (slot_of base) refl;
}
  where
    only : (slot place : ℕ) → slice_get new slot ≡ Some (Some place) → (o : Option ℕ) → slot_of base ≡ o → (b : ElementType) × (slice_get bases place ≡ Some b) × (slot_of b ≡ Some slot)
    only slot place e None is = are.only slot place (sym (elsewhere slot (λ s. none-some slot (sym is ∙ s))) ∙ e)
    only slot place e (Some mine) is = elim (cases_eq mine slot) [
      | inl same ↦
          let its : slot_of base ≡ Some slot = is ∙ ap (λ s. Some s) same in
          let within : slot < length old = (let lt = slice_get_within new slot (Some place) e in omega (arith, count)) in
          let stored : Some n ≡ Some place = same_Some (Some n) (Some place) (sym (here slot its within) ∙ e) in
          (base, subst (λ k. slice_get bases k ≡ Some base) (same_Some n place stored) at, its)
      | inr other ↦ are.only slot place (sym (elsewhere slot (λ s. other (same_Some mine slot (sym is ∙ s)))) ∙ e)
    ]

    there : (i slot : ℕ) (b : ElementType) → i < n + 1 → slice_get bases i ≡ Some b → slot_of b ≡ Some slot → slot < length old → (o : Option ℕ) → slot_of base ≡ o → (place : ℕ) × (slice_get new slot ≡ Some (Some place))
    there i slot b lt stands its within None is = old_place i slot b lt stands its within (λ s. none-some slot (sym is ∙ s))
      where
        old_place : (i slot : ℕ) (b : ElementType) → i < n + 1 → slice_get bases i ≡ Some b → slot_of b ≡ Some slot → slot < length old → slot_of base ≢ Some slot → (place : ℕ) × (slice_get new slot ≡ Some (Some place))
        old_place i slot b lt stands its within other = elim (cases_lt i n) [
          | inl before ↦ (let p = are.there i slot b before stands its within in (p.0, elsewhere slot other ∙ p.1))
          | inr last ↦ absurd (let is_last : i ≡ n = omega arith in other (ap slot_of (same_Some base b (sym at ∙ ap (slice_get bases) (sym is_last) ∙ stands)) ∙ its))
        ]
    there i slot b lt stands its within (Some mine) is = elim (cases_eq mine slot) [
      | inl same ↦ (n, here slot (is ∙ ap (λ s. Some s) same) within)
      | inr other ↦ elim (cases_lt i n) [
        | inl before ↦ (let p = are.there i slot b before stands its within in (p.0, elsewhere slot (λ s. other (same_Some mine slot (sym is ∙ s))) ∙ p.1))
        | inr last ↦ absurd (let is_last : i ≡ n = omega arith in other (same_Some mine slot (sym is ∙ ap slot_of (same_Some base b (sym at ∙ ap (slice_get bases) (sym is_last) ∙ stands)) ∙ its)))
      ]
    ]

-- what is kept for a type is its place
pub kept_found : (bases : List ElementType) (n : ℕ) (places : List (Option ℕ)) (base : ElementType) (place : ℕ) → ArePlaces bases n places → kept_at places base ≡ Some place → slice_get bases place ≡ Some base
kept_found bases n places base place are e = go (slot_of base) refl e
  where
    go : (o : Option ℕ) → slot_of base ≡ o → option_and_then (λ slot. option_flatten (slice_get places slot)) o ≡ Some place → slice_get bases place ≡ Some base
    go None is e = absurd (none-some place e)
    go (Some slot) is e = of_slot (slice_get places slot) refl e
      where
        of_slot : (x : Option (Option ℕ)) → slice_get places slot ≡ x → option_flatten x ≡ Some place → slice_get bases place ≡ Some base
        of_slot None at e = absurd (none-some place e)
        of_slot (Some o) at e =
            let h = are.only slot place (at ∙ ap (λ y. Some y) e) in
            h.1 ∙ ap (λ b. Some b) (one_slot h.0 base slot h.2 is)

-- a type that is there has its place
pub kept_there : (bases : List ElementType) (places : List (Option ℕ)) (i slot : ℕ) (base : ElementType) → ArePlaces bases (length bases) places → slice_get bases i ≡ Some base → slot_of base ≡ Some slot → slot < length places → IsSome (kept_at places base)
kept_there bases places i slot base are at is within =
    let h = are.there i slot base (slice_get_within bases i base at) at is within in
    let found : kept_at places base ≡ Some h.0 = ap (option_and_then (λ s. option_flatten (slice_get places s))) is ∙ ap option_flatten h.1 in
    ap is_some found

-- types that a program has have numbers within its table
pub has_slot : (cs : List NamedClass) (base : ElementType) → IsBase cs base → (slot : ℕ) × (slot_of base ≡ Some slot) × (slot < 9 + length cs)
has_slot cs Boolean is = (0, refl, omega arith)
has_slot cs Byte is = (1, refl, omega arith)
has_slot cs Char is = (2, refl, omega arith)
has_slot cs Short is = (3, refl, omega arith)
has_slot cs Int is = (4, refl, omega arith)
has_slot cs Long is = (5, refl, omega arith)
has_slot cs Float is = (6, refl, omega arith)
has_slot cs Double is = (7, refl, omega arith)
has_slot cs (Class c) is = (8 + c, refl, (let le = is.1 in omega arith))
has_slot cs (Other n) is = absurd is
