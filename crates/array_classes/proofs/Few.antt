-- A program has few bases.
use Rattle.std.proofs.Common.{◌≡◌, ℕ, ◌+◌, ◌*◌, ◌^◌, ◌<◌, ◌≤◌, replicate, Bool, true, false, List, [], ◌∷◌, ◌++◌, length, map, Contains, bytes_eq, refl, sym, ap, subst, ◌∙◌, arith}
use Rattle.std.specs.List.{AllByRecursion, range_with_len}
use Rattle.std.specs.List.{IsDistinct}
use Rattle.std.specs.Cmp.{IsEquivalence}
use Rattle.std.specs.Set.{is_member}
use Rattle.std.proofs.lemmas.List.{length-map, length-replicate}
use Rattle.std.proofs.lemmas.List.Elements.{Contains-append_right}
use Rattle.std.proofs.lemmas.List.FromFn.{length-range_with_len}
use Rattle.std.proofs.lemmas.Map.Made.{length-le_from_is_member, is_member-Decides}
use Rattle.std.proofs.lemmas.Slice.Eq.{bytes_eq-Decides}
use Rattle.code_decode.specs.declared.code.ClassUnit.{ClassUnit}
use Rattle.link_types.specs.declared.types.ElementType.{ElementType}
use Rattle.link_types.specs.declared.types.ElementType.TheVariants.{Boolean, Byte, Char, Short, Int, Long, Float, Double, Class, Other}
use Rattle.link_rules.specs.Classes.{NamedClass, classes_of}
use Rattle.link_rules.proofs.Lists.{contains_head, contains_tail, contains_at}
use Rattle.array_order.specs.Order.{StandInOrder}
use Rattle.array_order.specs.Order.{arrays_in_order}
use Rattle.array_order.proofs.Arrays.{arrays_few}
use Rattle.array_order.proofs.Texts.{Before, not_itself}
use Rattle.array_table.specs.Places.{places_in_order}
use Rattle.array_table.specs.Descriptors.{descriptor_at}
use Rattle.array_table.proofs.Descriptors.{arrays_map, same_tests}
use Rattle.array_classes.specs.declared.arrays.ArrayNumbers.{ArrayNumbers}
use Rattle.array_classes.specs.Numbers.{AreNumbersOf}
use Rattle.base_order.specs.declared.order.BaseOrder.{BaseOrder}
use Rattle.base_order.specs.Bases.{base_text, IsBase}
use Rattle.base_order.specs.Order.{IsOrderOf}
use Rattle.base_order.proofs.BaseLaws.{within_numbers, map_contains, contains_map}

all_from : {X : Type 0} (P : X → Type 0) (xs : List X) → ((x : X) → Contains xs x → P x) → AllByRecursion P xs
all_from P [] each = tt
all_from P (x ∷ xs) each = (each x (contains_head x xs), all_from P xs (λ y h. each y (contains_tail x xs y h)))

distinct : (xs : List (List ℕ)) → StandInOrder xs → IsDistinct bytes_eq xs
unfolding IsDistinct
distinct [] sorted = tt
distinct (x ∷ xs) sorted = (all_from (λ y. bytes_eq x y ≡ false) xs (λ y h. other y (bytes_eq x y) refl (sorted.0 y h)), distinct xs sorted.1)
  where
    other : (y : List ℕ) (b : Bool) → bytes_eq x y ≡ b → Before x y → b ≡ false
    other y false is before = refl
    other y true is before = absurd (not_itself y (subst (λ z. Before z y) ((bytes_eq-Decides x y).0 is) before))

texts_compare : IsEquivalence bytes_eq
texts_compare = record {
  refl = λ x. (bytes_eq-Decides x x).1 refl;
  symm = λ x y. same_tests (bytes_eq x y) (bytes_eq y x) (λ e. (bytes_eq-Decides y x).1 (sym ((bytes_eq-Decides x y).0 e))) (λ e. (bytes_eq-Decides x y).1 (sym ((bytes_eq-Decides y x).0 e)));
  congr = λ x y z e. ap (λ w. bytes_eq w z) ((bytes_eq-Decides x y).0 e);
}

abbrev primitives : List ElementType
primitives = Boolean ∷ Byte ∷ Char ∷ Short ∷ Int ∷ Long ∷ Float ∷ Double ∷ []

abbrev class_at : ℕ → ElementType
class_at c = Class c

abbrev all_bases : ℕ → List ElementType
all_bases n = primitives ++ map class_at (range_with_len 1 n)

base_among : (cs : List NamedClass) (base : ElementType) → IsBase cs base → Contains (all_bases (length cs)) base
base_among cs Boolean is = contains_at (all_bases (length cs)) 0 Boolean refl
base_among cs Byte is = contains_at (all_bases (length cs)) 1 Byte refl
base_among cs Char is = contains_at (all_bases (length cs)) 2 Char refl
base_among cs Short is = contains_at (all_bases (length cs)) 3 Short refl
base_among cs Int is = contains_at (all_bases (length cs)) 4 Int refl
base_among cs Long is = contains_at (all_bases (length cs)) 5 Long refl
base_among cs Float is = contains_at (all_bases (length cs)) 6 Float refl
base_among cs Double is = contains_at (all_bases (length cs)) 7 Double refl
base_among cs (Class c) is =
    Contains-append_right primitives (map class_at (range_with_len 1 (length cs))) (Class c)
    (map_contains class_at (range_with_len 1 (length cs)) c (within_numbers 1 (length cs) c (let some = is.0 in omega (arith, some)) (let le = is.1 in omega arith)))
base_among cs (Other n) is = absurd is

pub bases_few : (us : List ClassUnit) (order : BaseOrder) → IsOrderOf us order → length order.bases.items ≤ 8 + length (classes_of us)
bases_few us order is =
    let cs : List NamedClass = classes_of us in
    let texts : List (List ℕ) = map (base_text (classes_of us)) order.bases.items in
    let all : List (List ℕ) = map (base_text (classes_of us)) (all_bases (length (classes_of us))) in
    let le : length (map (base_text (classes_of us)) order.bases.items) ≤ length (map (base_text (classes_of us)) (all_bases (length (classes_of us)))) =
    length-le_from_is_member texts_compare (map (base_text (classes_of us)) order.bases.items) (map (base_text (classes_of us)) (all_bases (length (classes_of us)))) (distinct (map (base_text (classes_of us)) order.bases.items) is.bases.order.order) among in
    let one = length-map order.bases.items (base_text (classes_of us)) in
    let other = length-map (all_bases (length (classes_of us))) (base_text (classes_of us)) in
    let size : length (map class_at (range_with_len 1 (length (classes_of us)))) ≡ length (classes_of us) = length-map (range_with_len 1 (length (classes_of us))) class_at ∙ length-range_with_len 1 (length (classes_of us)) in
    omega (arith, le, one, other, size)
  where
    among : (q : List ℕ) → is_member bytes_eq (map (base_text (classes_of us)) order.bases.items) q ≡ true → is_member bytes_eq (map (base_text (classes_of us)) (all_bases (length (classes_of us)))) q ≡ true
    among q member =
        let h : Contains (map (base_text (classes_of us)) order.bases.items) q = (is_member-Decides bytes_eq-Decides (map (base_text (classes_of us)) order.bases.items) q).0 member in
        let b : (x : ElementType) × Contains order.bases.items x × (base_text (classes_of us) x ≡ q) = contains_map (base_text (classes_of us)) order.bases.items q h in
        (is_member-Decides bytes_eq-Decides (map (base_text (classes_of us)) (all_bases (length (classes_of us)))) q).1
        (subst (Contains (map (base_text (classes_of us)) (all_bases (length (classes_of us))))) b.2
        (map_contains (base_text (classes_of us)) (all_bases (length (classes_of us))) b.0 (base_among (classes_of us) b.0 (is.bases.only b.0 b.1))))

-- class numbers are small
places_few : (most : List ℕ) → length (places_in_order most) ≤ 255 * length most
places_few most =
    let bases : List (List ℕ) = replicate (length most) [] in
    let many : length bases ≡ length most = length-replicate (length most) [] in
    let arrays : length (arrays_in_order bases most) ≡ length (places_in_order most) =
    ap length (arrays_map bases most (sym many)) ∙ length-map (places_in_order most) (descriptor_at bases) in
    omega (arith, arrays_few bases most, arrays, many)

pub count_few : (us : List ClassUnit) (numbers : ArrayNumbers) → AreNumbersOf us numbers → numbers.count < 2 ^ 20
count_few us numbers are =
    omega (arith, are.count_is, are.first_is, are.table_is.how_many, places_few are.most, are.few, are.small)
