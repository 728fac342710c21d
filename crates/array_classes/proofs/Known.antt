-- The array classes that are numbered.
use Rattle.std.proofs.Common.{◌≡◌, ℕ, zero, suc, ◌+◌, ◌-◌, ◌*◌, ◌<◌, ◌≤◌, ◌^◌, Bool, true, false, cond, nat_le, List, [], ◌∷◌, length, map, Contains, slice_get, Option, None, Some, bytes_eq, inl, inr, refl, sym, ap, subst, ◌∙◌, arith}
use Rattle.std.specs.List.{position_from}
use Rattle.std.specs.Option.{option_map, SomeIff}
use Rattle.std.proofs.lemmas.Bool.{lt-leb, le-leb}
use Rattle.std.proofs.lemmas.List.{length-map}
use Rattle.std.proofs.lemmas.List.Elements.{Contains-append_cases}
use Rattle.std.proofs.lemmas.Option.{none-some, same_Some, slice_get-map, slice_get_cases, slice_get_within, get_or_from_slice_get}
use Rattle.std.proofs.lemmas.Slice.Eq.{bytes_eq-Decides}
use Rattle.code_decode.specs.declared.code.ClassUnit.{ClassUnit}
use Rattle.link_types.specs.declared.types.ElementType.{ElementType}
use Rattle.link_rules.specs.Classes.{classes_of}
use Rattle.link_rules.specs.Arrays.{array_names}
use Rattle.link_rules.specs.Names.{program_names, array_number, array_numbered}
use Rattle.link_rules.proofs.Lists.{Found, found_at, contains_cases, contains_none, contains_at}
use Rattle.array_order.specs.Order.{array_text, arrays_in_order}
use Rattle.array_order.proofs.Arrays.{arrays_ordered, arrays_few}
use Rattle.array_table.specs.declared.place.ArrayPlace.{ArrayPlace}
use Rattle.array_table.specs.Places.{place_of, places_of_dimensions, places_from, places_in_order, is_place, number_in}
use Rattle.array_table.specs.Descriptors.{descriptor_at}
use Rattle.array_table.proofs.Descriptors.{arrays_map, number_is_place}
use Rattle.base_order.specs.declared.order.BaseOrder.{BaseOrder}
use Rattle.base_order.specs.Bases.{base_text}
use Rattle.base_order.specs.Order.{IsOrderOf}
use Rattle.base_order.proofs.BaseLaws.{contains_map}
use Rattle.array_kinds.specs.declared.kind.ArrayKind.{ArrayKind}
use Rattle.array_kinds.specs.Kinds.{array_kind}
use Rattle.array_uses.specs.Most.{IsArrayIn, IsMost, base_texts, program_arrays}
use Rattle.array_classes.specs.declared.arrays.ArrayNumbers.{ArrayNumbers}
use Rattle.array_classes.specs.Numbers.{AreNumbersOf, IsKindOf}

-- ---- places

record IsPlaceIn (most : List ℕ) (low high : ℕ) (p : ArrayPlace) : Type 0 where
  enough : low ≤ p.dimensions
  few : p.dimensions < high
  base : p.base < length most

of_dimensions : (b d : ℕ) (most : List ℕ) (p : ArrayPlace) → Contains (places_of_dimensions b most d) p → (p.dimensions ≡ d) × (p.base < b + length most)
of_dimensions b d [] p h = absurd (contains_none p h)
of_dimensions b d (m ∷ most) p h = go (nat_le d m) h (of_dimensions (suc b) d most p)
  where
    go : (t : Bool) → Contains (cond t (place_of d b ∷ places_of_dimensions (suc b) most d) (places_of_dimensions (suc b) most d)) p
        → (Contains (places_of_dimensions (suc b) most d) p → (p.dimensions ≡ d) × (p.base < suc b + length most)) → (p.dimensions ≡ d) × (p.base < b + suc (length most))
    go true h again = elim (contains_cases (place_of d b) (places_of_dimensions (suc b) most d) p h) [
      | inl same ↦ (ap (λ (q : ArrayPlace). q.dimensions) (sym same), (let is : b ≡ p.base = ap (λ (q : ArrayPlace). q.base) same in omega arith))
      | inr there ↦ (let more = again there in let lt = more.1 in (more.0, omega arith))
    ]
    go false h again = (let more = again h in let lt = more.1 in (more.0, omega arith))

from_places : (most : List ℕ) (n d : ℕ) (p : ArrayPlace) → Contains (places_from most n d) p → IsPlaceIn most d (d + n) p
unfolding places_from
from_places most zero d p h = absurd (contains_none p h)
from_places most (suc n) d p h = elim (Contains-append_cases (places_of_dimensions 0 most d) (places_from most n (suc d)) p h) [
  | inl here ↦
      let its : (p.dimensions ≡ d) × (p.base < 0 + length most) = of_dimensions 0 d most p here in
      let same = its.0 in
      let lt = its.1 in
      record { enough = omega arith; few = omega arith; base = omega arith }
  | inr there ↦
      let more : IsPlaceIn most (suc d) (suc d + n) p = from_places most n (suc d) p there in
      record { enough = (let e = more.enough in omega arith); few = (let f = more.few in omega arith); base = more.base }
]

in_places : (most : List ℕ) (p : ArrayPlace) → Contains (places_in_order most) p → IsPlaceIn most 1 256 p
unfolding places_in_order
in_places most p h = from_places most 255 1 p h

-- ---- the array classes of a program

module _ (us : List ClassUnit) (order : BaseOrder) (most : List ℕ) (order_is : IsOrderOf us order) (most_is : IsMost us order (program_arrays us) most) where
  count : length most ≡ length (base_texts us order)
  count = most_is.count ∙ sym (length-map order.bases.items (base_text (classes_of us)))

  ordered : array_names us ≡ arrays_in_order (base_texts us order) most
  ordered = arrays_ordered (program_arrays us) (base_texts us order) most order_is.bases.order most_is.are

  pub names_are : array_names us ≡ map (descriptor_at (base_texts us order)) (places_in_order most)
  names_are = ordered ∙ arrays_map (base_texts us order) most count

  pub how_many : length (array_names us) ≡ length (places_in_order most)
  how_many = ap length names_are ∙ length-map (places_in_order most) (descriptor_at (base_texts us order))

  pub few_names : length (array_names us) ≤ 255 * length most
  few_names =
      let le : length (arrays_in_order (base_texts us order) most) ≤ 255 * length (base_texts us order) = arrays_few (base_texts us order) most in
      let many : length (array_names us) ≡ length (arrays_in_order (base_texts us order) most) = ap length ordered in
      omega (arith, le, many, count)

  pub record IsPlaced (p : ArrayPlace) : Type 0 where
    pub base : ElementType
    pub there : slice_get order.bases.items p.base ≡ Some base
    pub is : IsArrayIn (classes_of us) (array_kind p.dimensions base) (descriptor_at (base_texts us order) p)

  pub placed : (p : ArrayPlace) → Contains (places_in_order most) p → IsPlaced p
  placed p h =
      let its : IsPlaceIn most 1 256 p = in_places most p h in
      let within : p.base < length order.bases.items = (let lt = its.base in omega (arith, lt, most_is.count)) in
      elim (slice_get_cases order.bases.items p.base).1 [
        | inl found ↦
            let text : slice_get (map (base_text (classes_of us)) order.bases.items) p.base ≡ Some (base_text (classes_of us) found.0) =
            slice_get-map (base_text (classes_of us)) order.bases.items p.base ∙ ap (option_map (base_text (classes_of us))) found.2 in
            record {
              base = found.0;
              there = found.2;
              is = record {
                base = order_is.bases.only found.0 (contains_at order.bases.items p.base found.0 found.2);
                spelled = ap (array_text p.dimensions) (get_or_from_slice_get (map (base_text (classes_of us)) order.bases.items) p.base (base_text (classes_of us) found.0) [] text);
                some = its.enough;
                few = (let lt = its.few in omega arith);
              };
            }
        | inr past ↦ absurd (let end = past.0 in omega arith)
      ]

  pub names_known : (text : List ℕ) → Contains (array_names us) text → (a : ArrayKind) × IsArrayIn (classes_of us) a text
  names_known text h =
      let m : (p : ArrayPlace) × Contains (places_in_order most) p × (descriptor_at (base_texts us order) p ≡ text) =
      contains_map (descriptor_at (base_texts us order)) (places_in_order most) text (subst (λ xs. Contains xs text) names_are h) in
      let its : IsPlaced m.0 = placed m.0 m.1 in
      (array_kind m.0.dimensions its.base, subst (IsArrayIn (classes_of us) (array_kind m.0.dimensions its.base)) m.2 its.is)

  pub position_is : (d i : ℕ) (base : List ℕ) → slice_get (base_texts us order) i ≡ Some base
      → position_from (bytes_eq (array_text d base)) 0 (array_names us) ≡ number_in (places_in_order most) d i
  position_is d i base at =
      ap (position_from (bytes_eq (array_text d base)) 0) ordered ∙ number_is_place (base_texts us order) most base d i order_is.bases.order count at

-- a text that isn't there has no number
pub no_number : (us : List ClassUnit) (text : List ℕ) → (Contains (array_names us) text → ⊥) → array_number (program_names us) text ≡ None
no_number us text missing = ap (option_map (λ i. suc (length (classes_of us) + i))) (go (position_from (bytes_eq text) 0 (array_names us)) refl)
  where
    go : (o : Option ℕ) → position_from (bytes_eq text) 0 (array_names us) ≡ o → o ≡ None
    go None is = refl
    go (Some i) is =
        let found : Found (bytes_eq text) (array_names us) i = found_at (bytes_eq text) (array_names us) i is in
        let same : text ≡ found.item = (bytes_eq-Decides text found.item).0 found.passes in
        absurd (missing (subst (Contains (array_names us)) (sym same) (contains_at (array_names us) i found.item found.there)))

-- ---- numbers

module _ (us : List ClassUnit) (numbers : ArrayNumbers) (are : AreNumbersOf us numbers) where
  number_is : (d i : ℕ) (base : List ℕ) (o : Option ℕ) → slice_get (base_texts us numbers.order) i ≡ Some base → o ≡ number_in (places_in_order are.most) d i
      → array_number (program_names us) (array_text d base) ≡ option_map (λ n. suc (length (classes_of us) + n)) o
  number_is d i base o at is =
      ap (option_map (λ n. suc (length (classes_of us) + n))) (position_is us numbers.order are.most are.order_is are.most_is d i base at ∙ sym is)

  pub number_none : (d i : ℕ) (base : List ℕ) → slice_get (base_texts us numbers.order) i ≡ Some base → None ≡ number_in (places_in_order are.most) d i
      → array_number (program_names us) (array_text d base) ≡ None
  number_none d i base at is = number_is d i base None at is

  sum : (n : ℕ) → suc (length (classes_of us) + n) ≡ numbers.first + n
  sum n = omega (arith, are.first_is)

  -- the number fits
  pub record IsNumber (text : List ℕ) (n : ℕ) : Type 0 where
    pub is : array_number (program_names us) text ≡ Some (numbers.first + n)
    pub fits : numbers.first + n < 2 ^ 32

  pub number_some : (d i n : ℕ) (base : List ℕ) → slice_get (base_texts us numbers.order) i ≡ Some base → Some n ≡ number_in (places_in_order are.most) d i
      → IsNumber (array_text d base) n
  number_some d i n base at is = record {
    is = number_is d i base (Some n) at is ∙ ap (λ k. Some k) (sum n);
    fits =
        let found : Found (is_place d i) (places_in_order are.most) n = found_at (is_place d i) (places_in_order are.most) n (sym is) in
        let within : n < length (places_in_order are.most) = slice_get_within (places_in_order are.most) n found.item found.there in
        let many = how_many us numbers.order are.most are.order_is are.most_is in
        let few = few_names us numbers.order are.most are.order_is are.most_is in
        let small = are.small in
        let less = are.few in
        omega (arith, within, many, few, small, less, are.first_is);
  }

  -- ---- what a number stands for

  pub kind_low : (class : ℕ) → class < numbers.first → array_numbered (program_names us) class ≡ None
  kind_low class lt =
      ap (λ b. cond b None (slice_get (array_names us) (class - suc (length (classes_of us))))) (le-leb class (length (classes_of us)) (omega (arith, lt, are.first_is)))

  high : (class n : ℕ) → numbers.first + n ≡ class → array_numbered (program_names us) class ≡ option_map (descriptor_at (base_texts us numbers.order)) (slice_get (places_in_order are.most) n)
  high class n is =
      let place : class - suc (length (classes_of us)) ≡ n = omega (arith, is, are.first_is) in
      ap (λ b. cond b None (slice_get (array_names us) (class - suc (length (classes_of us))))) (lt-leb class (length (classes_of us)) (omega (arith, is, are.first_is)))
      ∙ ap (slice_get (array_names us)) place ∙ ap (λ xs. slice_get xs n) (names_are us numbers.order are.most are.order_is are.most_is)
      ∙ slice_get-map (descriptor_at (base_texts us numbers.order)) (places_in_order are.most) n

  pub kind_past : (class n : ℕ) → numbers.first + n ≡ class → None ≡ slice_get (places_in_order are.most) n → array_numbered (program_names us) class ≡ None
  kind_past class n is none = high class n is ∙ ap (option_map (descriptor_at (base_texts us numbers.order))) (sym none)

  its_place : (n : ℕ) (p : ArrayPlace) → Some p ≡ slice_get (places_in_order are.most) n → IsPlaced us numbers.order are.most are.order_is are.most_is p
  its_place n p at = placed us numbers.order are.most are.order_is are.most_is p (contains_at (places_in_order are.most) n p (sym at))

  pub base_there : (n : ℕ) (p : ArrayPlace) → Some p ≡ slice_get (places_in_order are.most) n → None ≡ slice_get numbers.order.bases.items p.base → ⊥
  base_there n p at none = none-some (its_place n p at).base (none ∙ (its_place n p at).there)

  pub kind_is : (class n : ℕ) (p : ArrayPlace) (base : ElementType) → numbers.first + n ≡ class → Some p ≡ slice_get (places_in_order are.most) n → Some base ≡ slice_get numbers.order.bases.items p.base
      → IsKindOf (classes_of us) (Some (array_kind p.dimensions base)) (array_numbered (program_names us) class)
  kind_is class n p base is at there =
      let its = its_place n p at in
      let same : its.base ≡ base = same_Some its.base base (sym its.there ∙ sym there) in (
        descriptor_at (base_texts us numbers.order) p,
        high class n is ∙ ap (option_map (descriptor_at (base_texts us numbers.order))) (sym at),
        subst (λ b. IsArrayIn (classes_of us) (array_kind p.dimensions b) (descriptor_at (base_texts us numbers.order) p)) same its.is,
      )

-- what is there where a fact holds
pub some_where : {T : Type 0} (o : Option T) (P : Type 0) (v : T) → SomeIff o P v → P → o ≡ Some v
some_where None P v is holds = absurd (is holds)
some_where (Some x) P v is holds = ap (λ y. Some y) is.1
