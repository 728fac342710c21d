-- The types of innermost elements of a program.
use Rattle.std.proofs.Common.{◌≡◌, ℕ, zero, suc, ◌+◌, ◌-◌, ◌<◌, ◌≤◌, true, List, [], ◌∷◌, ◌++◌, length, map, Contains, slice_get, Option, None, Some, bytes_eq, append_assoc, inl, inr, refl, sym, ap, subst, ◌∙◌, arith}
use Rattle.std.specs.List.{AllByRecursion, range_with_len}
use Rattle.std.specs.Option.{option_map_or}
use Rattle.std.proofs.lemmas.Bool.{cases_lt}
use Rattle.std.proofs.lemmas.List.{map-append}
use Rattle.std.proofs.lemmas.List.Elements.{Contains-append_cases, Contains-append_left, Contains-append_right}
use Rattle.std.proofs.lemmas.Option.{slice_get_past, slice_get_cases, none-some}
use Rattle.std.proofs.lemmas.Slice.Eq.{bytes_eq-Decides}
use Rattle.builtin_world.specs.BuiltinClass.{ClassRow as LibraryRow, rows, row_numbered as library_row}
use Rattle.builtin_world.specs.Library.{library}
use Rattle.code_decode.specs.declared.code.ClassUnit.{ClassUnit}
use Rattle.link_types.specs.declared.types.ElementType.{ElementType}
use Rattle.link_types.specs.declared.types.ElementType.TheVariants.{Boolean, Byte, Char, Short, Int, Long, Float, Double, Class, Other}
use Rattle.link_rules.specs.Classes.{NamedClass, classes_of, class_of_unit, class_numbered, number_of_file}
use Rattle.link_rules.proofs.Lists.{contains_head, contains_tail, contains_cases, contains_none, contains_at}
use Rattle.link_rules.proofs.Numbers.{in_library, file_class, class_count_is}
use Rattle.base_order.specs.declared.text.BaseText.{BaseText}
use Rattle.base_order.specs.Sorted.{AreInOrder}
use Rattle.base_order.specs.Bases.{name_of, base_text, text_of_base, primitive_bases, class_base, IsBase, AreBasesOf}

-- ---- names

library_names : (us : List ClassUnit) → map (λ c. bytes_eq (option_map_or (λ (r : LibraryRow). r.name) (library_row c) []) (name_of (classes_of us) c)) (range_with_len 0 29) ≡ map (λ _. true) (range_with_len 0 29)
unfolding rows library
library_names us = refl

pub library_name : (us : List ClassUnit) (c : ℕ) → c ≤ 28 → option_map_or (λ (r : LibraryRow). r.name) (library_row c) [] ≡ name_of (classes_of us) c
library_name us c low =
    (bytes_eq-Decides (option_map_or (λ (r : LibraryRow). r.name) (library_row c) []) (name_of (classes_of us) c)).0
    (in_library 0 29 (λ c. bytes_eq (option_map_or (λ (r : LibraryRow). r.name) (library_row c) []) (name_of (classes_of us) c)) (λ _. true) (library_names us) c (omega arith) (omega arith))

pub file_name_is : (us : List ClassUnit) (c : ℕ) → 28 < c → option_map_or (λ (u : ClassUnit). (class_of_unit u).name) (slice_get us (c - 29)) [] ≡ name_of (classes_of us) c
file_name_is us c high = go (slice_get us (c - 29)) refl
  where
    same : number_of_file (c - 29) ≡ c
    same = omega arith

    past_all : (c : ℕ) → length (classes_of us) < c → class_numbered (classes_of us) c ≡ None
    past_all zero lt = refl
    past_all (suc i) lt = slice_get_past (classes_of us) i (omega arith)

    go : (o : Option ClassUnit) → slice_get us (c - 29) ≡ o → option_map_or (λ (u : ClassUnit). (class_of_unit u).name) o [] ≡ name_of (classes_of us) c
    go (Some u) at = sym (ap (λ o. option_map_or (λ (k : NamedClass). k.name) o []) (ap (class_numbered (classes_of us)) (sym same) ∙ file_class us (c - 29) u at))
    go None at = elim (slice_get_cases us (c - 29)).1 [
      | inl there ↦ absurd (none-some there.0 (sym at ∙ there.2))
      | inr past ↦ sym (ap (λ o. option_map_or (λ (k : NamedClass). k.name) o []) (past_all c (let le = past.0 in let count = class_count_is us in omega arith)))
    ]

-- ---- the texts of bases

each_of : {X : Type 0} (P : X → Type 0) (xs : List X) (x : X) → AllByRecursion P xs → Contains xs x → P x
each_of P [] x all h = absurd (contains_none x h)
each_of P (y ∷ xs) x all h = elim (contains_cases y xs x h) [
  | inl same ↦ subst P same all.0
  | inr later ↦ each_of P xs x all.1 later
]

numbers_within : (a n x : ℕ) → Contains (range_with_len a n) x → (a ≤ x) × (x < a + n)
numbers_within a zero x h = absurd (contains_none x h)
numbers_within a (suc n) x h = elim (contains_cases a (range_with_len (a + 1) n) x h) [
  | inl same ↦ (omega arith, omega arith)
  | inr later ↦ (let more = numbers_within (a + 1) n x later in let low = more.0 in let high = more.1 in (omega arith, omega arith))
]

pub within_numbers : (a n x : ℕ) → a ≤ x → x < a + n → Contains (range_with_len a n) x
within_numbers a zero x low high = absurd (omega arith)
within_numbers a (suc n) x low high = elim (cases_lt a x) [
  | inl less ↦ contains_tail a (range_with_len (a + 1) n) x (within_numbers (a + 1) n x (omega arith) (omega arith))
  | inr same ↦ (let is : a ≡ x = omega arith in subst (Contains (range_with_len a (suc n))) is (contains_head a (range_with_len (a + 1) n)))
]

pub map_contains : {X Y : Type 0} (f : X → Y) (xs : List X) (x : X) → Contains xs x → Contains (map f xs) (f x)
map_contains f [] x h = absurd (contains_none x h)
map_contains f (y ∷ xs) x h = elim (contains_cases y xs x h) [
  | inl same ↦ subst (λ z. Contains (f y ∷ map f xs) (f z)) same (contains_head (f y) (map f xs))
  | inr later ↦ contains_tail (f y) (map f xs) (f x) (map_contains f xs x later)
]

pub contains_map : {X Y : Type 0} (f : X → Y) (xs : List X) (y : Y) → Contains (map f xs) y → (x : X) × Contains xs x × (f x ≡ y)
contains_map f [] y h = absurd (contains_none y h)
contains_map {X} f (x ∷ xs) y h = elim (contains_cases (f x) (map f xs) y h) [
  | inl same ↦ (x, contains_head x xs, same)
  | inr later ↦ (let more : (z : X) × Contains xs z × (f z ≡ y) = contains_map f xs y later in (more.0, contains_tail x xs more.0 more.1, more.2))
]

numbers_push : (a n : ℕ) → range_with_len a (suc n) ≡ range_with_len a n ++ (a + n) ∷ []
numbers_push a zero = (let same : a ≡ a + 0 = omega arith in ap (λ k. k ∷ []) same)
numbers_push a (suc n) = (let same : a + 1 + n ≡ a + suc n = omega arith in ap (λ xs. a ∷ xs) (numbers_push (a + 1) n ∙ ap (λ k. range_with_len (a + 1) n ++ k ∷ []) same))

-- one class more
pub texts_more : (f : ℕ → BaseText) (start old new : List BaseText) (class : ℕ) (t : BaseText) → 1 ≤ class → old ≡ start ++ map f (range_with_len 1 (class - 1)) → t ≡ f class → new ≡ old ++ t ∷ []
    → new ≡ start ++ map f (range_with_len 1 (class + 1 - 1))
texts_more f start old new class t some are is push =
    let next : suc (class - 1) ≡ class + 1 - 1 = omega arith in
    let here : 1 + (class - 1) ≡ class = omega arith in
    push ∙ ap (λ xs. xs ++ t ∷ []) are ∙ append_assoc start (map f (range_with_len 1 (class - 1))) (t ∷ [])
    ∙ ap (λ xs. start ++ xs)
    (ap (λ (x : BaseText). map f (range_with_len 1 (class - 1)) ++ x ∷ []) (is ∙ ap f (sym here))
    ∙ sym (map-append f (range_with_len 1 (class - 1)) ((1 + (class - 1)) ∷ []))
    ∙ ap (map f) (sym (numbers_push 1 (class - 1)))
    ∙ ap (λ k. map f (range_with_len 1 k)) next)

module _ (us : List ClassUnit) where
  Right : BaseText → Type 0
  Right t = (base_text (classes_of us) t.base ≡ t.text) × IsBase (classes_of us) t.base

  primitives_right : AllByRecursion Right primitive_bases
  unfolding Right
  primitives_right = ((refl, tt), ((refl, tt), ((refl, tt), ((refl, tt), ((refl, tt), ((refl, tt), ((refl, tt), ((refl, tt), tt))))))))

  all_texts : List BaseText
  all_texts = primitive_bases ++ map (class_base (classes_of us)) (range_with_len 1 (length (classes_of us)))

  text_right : (t : BaseText) → Contains (primitive_bases ++ map (class_base (classes_of us)) (range_with_len 1 (length (classes_of us)))) t → (base_text (classes_of us) t.base ≡ t.text) × IsBase (classes_of us) t.base
  unfolding Right
  text_right t h = elim (Contains-append_cases primitive_bases (map (class_base (classes_of us)) (range_with_len 1 (length (classes_of us)))) t h) [
    | inl here ↦ each_of Right primitive_bases t primitives_right here
    | inr there ↦ of_class (contains_map (class_base (classes_of us)) (range_with_len 1 (length (classes_of us))) t there)
  ]
    where
      of_class : (c : ℕ) × Contains (range_with_len 1 (length (classes_of us))) c × (class_base (classes_of us) c ≡ t) → (base_text (classes_of us) t.base ≡ t.text) × IsBase (classes_of us) t.base
      of_class (c, inside, same) =
          let range = numbers_within 1 (length (classes_of us)) c inside in
          let low = range.0 in
          let high = range.1 in
          let R : BaseText → Type 0 = λ (x : BaseText). (base_text (classes_of us) x.base ≡ x.text) × IsBase (classes_of us) x.base in
          subst (λ (x : BaseText). (base_text (classes_of us) x.base ≡ x.text) × IsBase (classes_of us) x.base) same (refl, ((λ e. omega (arith, e)), omega arith))

  letters_of : (base : ElementType) → IsBase (classes_of us) base → (letter : ℕ) × (rest : List ℕ) × (base_text (classes_of us) base ≡ letter ∷ rest) × (letter < 91)
  letters_of Boolean is = (90, [], refl, omega arith)
  letters_of Byte is = (66, [], refl, omega arith)
  letters_of Char is = (67, [], refl, omega arith)
  letters_of Short is = (83, [], refl, omega arith)
  letters_of Int is = (73, [], refl, omega arith)
  letters_of Long is = (74, [], refl, omega arith)
  letters_of Float is = (70, [], refl, omega arith)
  letters_of Double is = (68, [], refl, omega arith)
  letters_of (Class c) is = (76, name_of (classes_of us) c ++ 59 ∷ [], refl, omega arith)
  letters_of (Other n) is = absurd is

  primitive_at : (i : ℕ) (t : BaseText) → slice_get primitive_bases i ≡ Some t → Contains (primitive_bases ++ map (class_base (classes_of us)) (range_with_len 1 (length (classes_of us)))) t
  primitive_at i t at = Contains-append_left primitive_bases (map (class_base (classes_of us)) (range_with_len 1 (length (classes_of us)))) t (contains_at primitive_bases i t at)

  text_there : (base : ElementType) → IsBase (classes_of us) base → (t : BaseText) × Contains (primitive_bases ++ map (class_base (classes_of us)) (range_with_len 1 (length (classes_of us)))) t × (t.text ≡ base_text (classes_of us) base)
  text_there Boolean is = (text_of_base (90 ∷ []) Boolean, primitive_at 0 (text_of_base (90 ∷ []) Boolean) refl, refl)
  text_there Byte is = (text_of_base (66 ∷ []) Byte, primitive_at 1 (text_of_base (66 ∷ []) Byte) refl, refl)
  text_there Char is = (text_of_base (67 ∷ []) Char, primitive_at 2 (text_of_base (67 ∷ []) Char) refl, refl)
  text_there Short is = (text_of_base (83 ∷ []) Short, primitive_at 3 (text_of_base (83 ∷ []) Short) refl, refl)
  text_there Int is = (text_of_base (73 ∷ []) Int, primitive_at 4 (text_of_base (73 ∷ []) Int) refl, refl)
  text_there Long is = (text_of_base (74 ∷ []) Long, primitive_at 5 (text_of_base (74 ∷ []) Long) refl, refl)
  text_there Float is = (text_of_base (70 ∷ []) Float, primitive_at 6 (text_of_base (70 ∷ []) Float) refl, refl)
  text_there Double is = (text_of_base (68 ∷ []) Double, primitive_at 7 (text_of_base (68 ∷ []) Double) refl, refl)
  text_there (Other n) is = absurd is
  text_there (Class c) is = (
    class_base (classes_of us) c,
    Contains-append_right primitive_bases (map (class_base (classes_of us)) (range_with_len 1 (length (classes_of us)))) (class_base (classes_of us) c)
        (map_contains (class_base (classes_of us)) (range_with_len 1 (length (classes_of us))) c (within_numbers 1 (length (classes_of us)) c (let some = is.0 in omega (arith, some)) (let le = is.1 in omega arith))),
    refl,
  )

  pub bases_right : (texts : List BaseText) (bases : List ElementType) → texts ≡ primitive_bases ++ map (class_base (classes_of us)) (range_with_len 1 (length (classes_of us))) → AreInOrder (base_text (classes_of us)) texts bases → AreBasesOf us bases
  bases_right texts bases are ordered = record {
    order = record {
      order = ordered.order described;
      letters = λ text h. of_text text (contains_map (base_text (classes_of us)) bases text h);
    };
    there = λ base is. (let t = text_there base is in subst (Contains (map (base_text (classes_of us)) bases)) t.2 (ordered.there described t.0 (subst (λ xs. Contains xs t.0) (sym are) t.1)));
    only = its_base;
  }
    where
      described : (t : BaseText) → Contains texts t → base_text (classes_of us) t.base ≡ t.text
      described t h = (text_right t (subst (λ xs. Contains xs t) are h)).0

      its_base : (base : ElementType) → Contains bases base → IsBase (classes_of us) base
      its_base base h = (let t = ordered.only base h in subst (IsBase (classes_of us)) t.2 (text_right t.0 (subst (λ xs. Contains xs t.0) are t.1)).1)

      of_text : (text : List ℕ) → (base : ElementType) × Contains bases base × (base_text (classes_of us) base ≡ text) → (letter : ℕ) × (rest : List ℕ) × (text ≡ letter ∷ rest) × (letter < 91)
      of_text text (base, h, same) = (let l = letters_of base (its_base base h) in (l.0, l.1, sym same ∙ l.2, l.3))
