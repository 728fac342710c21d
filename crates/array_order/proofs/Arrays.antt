-- Arrays by dimensions and bases are in the order of their bytes.
use Rattle.std.proofs.Common.{◌≡◌, ℕ, zero, suc, ◌+◌, ◌*◌, ◌<◌, ◌≤◌, Bool, true, false, cond, nat_le, List, [], ◌∷◌, ◌++◌, length, Contains, Some, slice_get, flat_map, inl, inr, refl, sym, ap, subst, ◌∙◌, length-append, arith}
use borrow.Author.Tests.{ne_eqb}
use Rattle.std.proofs.lemmas.Bool.{cases_lt, leb-true, le-leb}
use Rattle.std.proofs.lemmas.List.Elements.{Contains-append_cases, Contains-append_left, Contains-append_right}
use Rattle.std.proofs.lemmas.Option.{none-some, same_Some}
use Rattle.link_rules.specs.Arrays.{with_elements, in_order}
use Rattle.link_rules.proofs.Lists.{contains_head, contains_tail, contains_cases, contains_none, contains_flat_map, contains_at}
use Rattle.link_rules.proofs.Arrays.{put_before, from_flat_map}
use Rattle.link_rules.proofs.Texts.{all_put}
use Rattle.array_order.specs.Order.{array_text, StandInOrder, AreBases, arrays_of_dimensions, arrays_from, arrays_in_order, HasMost, AreMost}
use Rattle.array_order.proofs.Texts.{Before, by_less, by_rest}
use Rattle.array_order.proofs.Sorting.{all_sorted, same_in_order, joined_in_order}

-- ---- arrays with a given number of dimensions

later : (b : List ℕ) (bases : List (List ℕ)) (n : ℕ) (most : List ℕ) (base : List ℕ) (m : ℕ) → HasMost bases most base m → HasMost (b ∷ bases) (n ∷ most) base m
later b bases n most base m h = record { place = suc h.place; base_there = h.base_there; most_there = h.most_there }

-- an array among them
record IsAmong (bases : List (List ℕ)) (most : List ℕ) (d : ℕ) (y : List ℕ) : Type 0 where
  base : List ℕ
  m : ℕ
  has : HasMost bases most base m
  enough : d ≤ m
  is : y ≡ array_text d base

among_later : (b : List ℕ) (bases : List (List ℕ)) (n : ℕ) (most : List ℕ) (d : ℕ) (y : List ℕ) → IsAmong bases most d y → IsAmong (b ∷ bases) (n ∷ most) d y
among_later b bases n most d y h = record { base = h.base; m = h.m; has = later b bases n most h.base h.m h.has; enough = h.enough; is = h.is }

dimensions_have : (bases : List (List ℕ)) (most : List ℕ) (d : ℕ) (y : List ℕ) → Contains (arrays_of_dimensions bases most d) y → IsAmong bases most d y
dimensions_have [] most d y h = absurd (contains_none y h)
dimensions_have (b ∷ bases) [] d y h = absurd (contains_none y h)
dimensions_have (b ∷ bases) (n ∷ most) d y h = go (nat_le d n) refl h (dimensions_have bases most d y)
  where
    go : (t : Bool) → nat_le d n ≡ t → Contains (cond t (array_text d b ∷ arrays_of_dimensions bases most d) (arrays_of_dimensions bases most d)) y
        → (Contains (arrays_of_dimensions bases most d) y → IsAmong bases most d y) → IsAmong (b ∷ bases) (n ∷ most) d y
    go true le h again = elim (contains_cases (array_text d b) (arrays_of_dimensions bases most d) y h) [
      | inl same ↦ record {
        base = b;
        m = n;
        has = record { place = 0; base_there = refl; most_there = refl };
        enough = leb-true d n le;
        is = sym same;
      }
      | inr there ↦ among_later b bases n most d y (again there)
    ]
    go false le h again = among_later b bases n most d y (again h)

has_dimensions : (bases : List (List ℕ)) (most : List ℕ) (d : ℕ) (base : List ℕ) (m i : ℕ) → slice_get bases i ≡ Some base → slice_get most i ≡ Some m → d ≤ m → Contains (arrays_of_dimensions bases most d) (array_text d base)
has_dimensions [] most d base m i at there le = absurd (none-some base at)
has_dimensions (b ∷ bases) [] d base m i at there le = absurd (none-some m there)
has_dimensions (b ∷ bases) (n ∷ most) d base m zero at there le =
    let few : d ≤ n = subst (λ x. d ≤ x) (sym (same_Some n m there)) le in
    subst (λ t. Contains (cond t (array_text d b ∷ arrays_of_dimensions bases most d) (arrays_of_dimensions bases most d)) (array_text d base)) (sym (le-leb d n few))
    (subst (λ x. Contains (array_text d b ∷ arrays_of_dimensions bases most d) (array_text d x)) (same_Some b base at) (contains_head (array_text d b) (arrays_of_dimensions bases most d)))
has_dimensions (b ∷ bases) (n ∷ most) d base m (suc i) at there le = go (nat_le d n) (has_dimensions bases most d base m i at there le)
  where
    go : (t : Bool) → Contains (arrays_of_dimensions bases most d) (array_text d base) → Contains (cond t (array_text d b ∷ arrays_of_dimensions bases most d) (arrays_of_dimensions bases most d)) (array_text d base)
    go true h = contains_tail (array_text d b) (arrays_of_dimensions bases most d) (array_text d base) h
    go false h = h

same_depth : (d : ℕ) (x y : List ℕ) → Before x y → Before (array_text d x) (array_text d y)
same_depth zero x y before = before
same_depth (suc d) x y before = by_rest 91 (array_text d x) (array_text d y) ∙ same_depth d x y before

dimensions_in_order : (bases : List (List ℕ)) (most : List ℕ) (d : ℕ) → StandInOrder bases → StandInOrder (arrays_of_dimensions bases most d)
dimensions_in_order [] most d sorted = tt
dimensions_in_order (b ∷ bases) [] d sorted = tt
dimensions_in_order (b ∷ bases) (n ∷ most) d sorted = go (nat_le d n) (dimensions_in_order bases most d sorted.1)
  where
    go : (t : Bool) → StandInOrder (arrays_of_dimensions bases most d) → StandInOrder (cond t (array_text d b ∷ arrays_of_dimensions bases most d) (arrays_of_dimensions bases most d))
    go false rest = rest
    go true rest = (
      (λ y h.
          let among = dimensions_have bases most d y h in
          subst (Before (array_text d b)) (sym among.is) (same_depth d b among.base (sorted.0 among.base (contains_at bases among.has.place among.base among.has.base_there)))),
      rest,
    )

dimensions_few : (bases : List (List ℕ)) (most : List ℕ) (d : ℕ) → length (arrays_of_dimensions bases most d) ≤ length bases
dimensions_few [] most d = omega arith
dimensions_few (b ∷ bases) [] d = omega arith
dimensions_few (b ∷ bases) (n ∷ most) d = go (nat_le d n) (dimensions_few bases most d)
  where
    go : (t : Bool) → length (arrays_of_dimensions bases most d) ≤ length bases → length (cond t (array_text d b ∷ arrays_of_dimensions bases most d) (arrays_of_dimensions bases most d)) ≤ suc (length bases)
    go true le = omega arith
    go false le = omega arith

-- ---- arrays of some numbers of dimensions

record IsFrom (bases : List (List ℕ)) (most : List ℕ) (n d : ℕ) (y : List ℕ) : Type 0 where
  dimensions : ℕ
  low : d ≤ dimensions
  high : dimensions < d + n
  among : IsAmong bases most dimensions y

from_have : (bases : List (List ℕ)) (most : List ℕ) (n d : ℕ) (y : List ℕ) → Contains (arrays_from bases most n d) y → IsFrom bases most n d y
unfolding arrays_from
from_have bases most zero d y h = absurd (contains_none y h)
from_have bases most (suc n) d y h = elim (Contains-append_cases (arrays_of_dimensions bases most d) (arrays_from bases most n (suc d)) y h) [
  | inl here ↦ record { dimensions = d; low = omega arith; high = omega arith; among = dimensions_have bases most d y here }
  | inr there ↦
      let more : IsFrom bases most n (suc d) y = from_have bases most n (suc d) y there in
      record { dimensions = more.dimensions; low = (let low = more.low in omega arith); high = (let high = more.high in omega arith); among = more.among }
]

has_from : (bases : List (List ℕ)) (most : List ℕ) (n d e : ℕ) (y : List ℕ) → d ≤ e → e < d + n → Contains (arrays_of_dimensions bases most e) y → Contains (arrays_from bases most n d) y
unfolding arrays_from
has_from bases most zero d e y low high h = absurd (omega arith)
has_from bases most (suc n) d e y low high h = elim (cases_lt d e) [
  | inl more ↦ Contains-append_right (arrays_of_dimensions bases most d) (arrays_from bases most n (suc d)) y (has_from bases most n (suc d) e y (omega arith) (omega arith) h)
  | inr same ↦
      let is : e ≡ d = omega arith in
      Contains-append_left (arrays_of_dimensions bases most d) (arrays_from bases most n (suc d)) y (subst (λ x. Contains (arrays_of_dimensions bases most x) y) is h)
]

-- fewer dimensions come first
fewer_first : (d e : ℕ) (letter : ℕ) (rest y : List ℕ) → d < e → letter < 91 → Before (array_text d (letter ∷ rest)) (array_text e y)
fewer_first d zero letter rest y less low = absurd (omega arith)
fewer_first zero (suc e) letter rest y less low = by_less letter 91 rest (array_text e y) low
fewer_first (suc d) (suc e) letter rest y less low = by_rest 91 (array_text d (letter ∷ rest)) (array_text e y) ∙ fewer_first d e letter rest y (omega arith) low

from_in_order : (bases : List (List ℕ)) (most : List ℕ) (n d : ℕ) → AreBases bases → StandInOrder (arrays_from bases most n d)
unfolding arrays_from
from_in_order bases most zero d are = tt
from_in_order bases most (suc n) d are =
    joined_in_order (arrays_of_dimensions bases most d) (arrays_from bases most n (suc d)) (dimensions_in_order bases most d are.order) (from_in_order bases most n (suc d) are)
    (λ x y h k.
    let one : IsAmong bases most d x = dimensions_have bases most d x h in
    let other : IsFrom bases most n (suc d) y = from_have bases most n (suc d) y k in
    let begins = are.letters one.base (contains_at bases one.has.place one.base one.has.base_there) in
    subst (λ t. Before t y) (sym (one.is ∙ ap (array_text d) begins.2))
    (subst (Before (array_text d (begins.0 ∷ begins.1))) (sym other.among.is)
    (fewer_first d other.dimensions begins.0 begins.1 other.among.base (let low = other.low in omega arith) begins.3)))

from_few : (bases : List (List ℕ)) (most : List ℕ) (n d : ℕ) → length (arrays_from bases most n d) ≤ n * length bases
unfolding arrays_from
from_few bases most zero d = omega arith
from_few bases most (suc n) d =
    let sum : length (arrays_of_dimensions bases most d ++ arrays_from bases most n (suc d)) ≡ length (arrays_of_dimensions bases most d) + length (arrays_from bases most n (suc d)) = length-append (arrays_of_dimensions bases most d) (arrays_from bases most n (suc d)) in
    let first : length (arrays_of_dimensions bases most d) ≤ length bases = dimensions_few bases most d in
    let rest : length (arrays_from bases most n (suc d)) ≤ n * length bases = from_few bases most n (suc d) in
    omega arith

pub arrays_few : (bases : List (List ℕ)) (most : List ℕ) → length (arrays_in_order bases most) ≤ 255 * length bases
unfolding arrays_in_order
arrays_few bases most = from_few bases most 255 1

-- ---- the elements of an array

no_elements : (letter : ℕ) (rest : List ℕ) → letter < 91 → with_elements (letter ∷ rest) ≡ []
no_elements letter rest low = ap (λ t. cond t ((letter ∷ rest) ∷ with_elements rest) []) (ne_eqb letter 91 (λ e. omega (arith, e)))

elements_have : (d letter : ℕ) (rest y : List ℕ) → letter < 91 → Contains (with_elements (array_text d (letter ∷ rest))) y → (e : ℕ) × (0 < e) × (e ≤ d) × (y ≡ array_text e (letter ∷ rest))
elements_have zero letter rest y low h = absurd (contains_none y (subst (λ xs. Contains xs y) (no_elements letter rest low) h))
elements_have (suc d) letter rest y low h = elim (contains_cases (array_text (suc d) (letter ∷ rest)) (with_elements (array_text d (letter ∷ rest))) y h) [
  | inl same ↦ (suc d, omega arith, omega arith, sym same)
  | inr there ↦
      let more : (e : ℕ) × (0 < e) × (e ≤ d) × (y ≡ array_text e (letter ∷ rest)) = elements_have d letter rest y low there in
      (more.0, more.1, (let le = more.2 in omega arith), more.3)
]

has_elements : (d e letter : ℕ) (rest : List ℕ) → 0 < e → e ≤ d → Contains (with_elements (array_text d (letter ∷ rest))) (array_text e (letter ∷ rest))
has_elements zero e letter rest some le = absurd (omega arith)
has_elements (suc d) e letter rest some le = elim (cases_lt d e) [
  | inl last ↦
      let is : suc d ≡ e = omega arith in
      subst (λ x. Contains (with_elements (array_text (suc d) (letter ∷ rest))) (array_text x (letter ∷ rest))) is
      (contains_head (array_text (suc d) (letter ∷ rest)) (with_elements (array_text d (letter ∷ rest))))
  | inr before ↦ contains_tail (array_text (suc d) (letter ∷ rest)) (with_elements (array_text d (letter ∷ rest))) (array_text e (letter ∷ rest)) (has_elements d e letter rest some before)
]

-- ---- the law

module _ (roots bases : List (List ℕ)) (most : List ℕ) (are : AreBases bases) (its : AreMost roots bases most) where
  texts : List (List ℕ)
  texts = flat_map with_elements roots

  numbered_there : (y : List ℕ) → Contains (flat_map with_elements roots) y → Contains (arrays_from bases most 255 1) y
  numbered_there y h = of_root (from_flat_map with_elements roots y h)
    where
      of_root : (root : List ℕ) × Contains roots root × Contains (with_elements root) y → Contains (arrays_from bases most 255 1) y
      of_root (root, here, its_element) = of_base (its.within root here)
        where
          of_base : (base : List ℕ) × (m d : ℕ) × HasMost bases most base m × (0 < d) × (d ≤ m) × (root ≡ array_text d base) → Contains (arrays_from bases most 255 1) y
          of_base (base, m, d, has, some, le, is) =
              let begins = are.letters base (contains_at bases has.place base has.base_there) in
              let element = elements_have d begins.0 begins.1 y begins.3 (subst (λ t. Contains (with_elements t) y) (is ∙ ap (array_text d) begins.2) its_element) in
              let few : m ≤ 255 = its.few base m has in
              let positive : 0 < element.0 = element.1 in
              let within : element.0 ≤ d = element.2 in
              has_from bases most 255 1 element.0 y (omega arith) (omega arith)
              (subst (Contains (arrays_of_dimensions bases most element.0)) (sym (element.3 ∙ ap (array_text element.0) (sym begins.2)))
              (has_dimensions bases most element.0 base m has.place has.base_there has.most_there (omega arith)))

  there_numbered : (y : List ℕ) → Contains (arrays_from bases most 255 1) y → Contains (flat_map with_elements roots) y
  there_numbered y h =
      let from : IsFrom bases most 255 1 y = from_have bases most 255 1 y h in
      let base : List ℕ = from.among.base in
      let m : ℕ = from.among.m in
      let begins = are.letters from.among.base (contains_at bases from.among.has.place from.among.base from.among.has.base_there) in
      let low = from.low in
      let enough = from.among.enough in
      let root = its.reached from.among.base from.among.m from.among.has (omega arith) in
      contains_flat_map with_elements roots (array_text from.among.m from.among.base) y root
      (subst (λ b. Contains (with_elements (array_text from.among.m b)) y) (sym begins.2)
      (subst (Contains (with_elements (array_text from.among.m (begins.0 ∷ begins.1)))) (sym (from.among.is ∙ ap (array_text from.dimensions) begins.2))
      (has_elements from.among.m from.dimensions begins.0 begins.1 (omega arith) enough)))

  pub arrays_ordered : in_order (flat_map with_elements roots) ≡ arrays_in_order bases most
  unfolding arrays_in_order
  arrays_ordered =
      same_in_order (in_order (flat_map with_elements roots)) (arrays_from bases most 255 1)
      (all_sorted (flat_map with_elements roots) [] tt) (from_in_order bases most 255 1 are)
      (λ y h. elim (put_before (flat_map with_elements roots) [] y h) [
        | inl c ↦ numbered_there y c
        | inr c ↦ absurd (contains_none y c)
      ])
      (λ y h. all_put (flat_map with_elements roots) [] y (there_numbered y h))
