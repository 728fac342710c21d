-- The array classes that are used have numbers, and so have their elements.
use Rattle.std.proofs.Common.{◌≡◌, ◌⊎◌, ℕ, ◌+◌, Bool, true, false, cond, not, nat_eq, List, [], ◌∷◌, ◌++◌, drop, Contains, fold, flat_map, inl, inr, refl, sym, ap, subst, bytes_eq, arith}
use Rattle.std.specs.List.{prefix_len}
use Rattle.std.proofs.lemmas.Bool.{true≢false, ne_eqb}
use Rattle.std.proofs.lemmas.List.Elements.{Contains-append_cases, Contains-append_left, Contains-append_right}
use Rattle.class_names.specs.Reading.{is_bracket}
use Rattle.code_decode.specs.declared.code.ClassUnit.{ClassUnit}
use Rattle.link_rules.specs.Classes.{is_array_name}
use Rattle.link_rules.specs.Arrays.{is_before, put_in_order, with_elements, arrays_always, arrays_of_unit}
use Rattle.link_rules.specs.Names.{program_names}
use Rattle.link_rules.specs.Laws.{HasNumber, ArraysAreThere}
use Rattle.link_rules.proofs.Lists.{contains_head, contains_tail, contains_cases, contains_none, contains_flat_map, contains_at}
use Rattle.link_rules.proofs.Texts.{all_put, has_number}

-- ---- an array class is among those of its elements and itself

begins : (b : ℕ) (name : List ℕ) → is_array_name (b ∷ name) ≡ true → is_bracket b ≡ true
begins b name e = go (is_bracket b) e
  where
    go : (t : Bool) → not (nat_eq (cond t (1 + prefix_len is_bracket name) 0) 0) ≡ true → t ≡ true
    go true e = refl
    go false e = absurd (true≢false (sym e))

pub itself : (name : List ℕ) → is_array_name name ≡ true → Contains (with_elements name) name
itself [] e = absurd (true≢false (sym e))
itself (b ∷ name) e =
    subst (λ t. Contains (cond t ((b ∷ name) ∷ with_elements name) []) (b ∷ name)) (sym (begins b name e)) (contains_head (b ∷ name) (with_elements name))

pub closed : (root name : List ℕ) → Contains (with_elements root) name → is_array_name (drop 1 name) ≡ true → Contains (with_elements root) (drop 1 name)
closed [] name h e = absurd (contains_none name h)
closed (b ∷ root) name h e = go (is_bracket b) h (closed root name)
  where
    go : (t : Bool) → Contains (cond t ((b ∷ root) ∷ with_elements root) []) name → (Contains (with_elements root) name → is_array_name (drop 1 name) ≡ true → Contains (with_elements root) (drop 1 name)) → Contains (cond t ((b ∷ root) ∷ with_elements root) []) (drop 1 name)
    go false h later = absurd (contains_none name h)
    go true h later = elim (contains_cases (b ∷ root) (with_elements root) name h) [
      | inl same ↦ contains_tail (b ∷ root) (with_elements root) (drop 1 name)
          (subst (λ n. Contains (with_elements root) (drop 1 n)) same
          (itself root (subst (λ n. is_array_name (drop 1 n) ≡ true) (sym same) e)))
      | inr c ↦ contains_tail (b ∷ root) (with_elements root) (drop 1 name) (later c e)
    ]

-- ---- what is in order was there before

pub put_cases : (text : List ℕ) (others : List (List ℕ)) (y : List ℕ) → Contains (put_in_order text others) y → (text ≡ y) ⊎ Contains others y
put_cases text [] y h = contains_cases text [] y h
put_cases text (x ∷ xs) y h = go (is_before text x) (bytes_eq text x) h (put_cases text xs y)
  where
    go : (a b : Bool) → Contains (cond a (text ∷ x ∷ xs) (cond b (x ∷ xs) (x ∷ put_in_order text xs))) y → (Contains (put_in_order text xs) y → (text ≡ y) ⊎ Contains xs y) → (text ≡ y) ⊎ Contains (x ∷ xs) y
    go true b h later = contains_cases text (x ∷ xs) y h
    go false true h later = inr h
    go false false h later = elim (contains_cases x (put_in_order text xs) y h) [
      | inl same ↦ inr (subst (λ z. Contains (x ∷ xs) z) same (contains_head x xs))
      | inr c ↦ elim (later c) [ inl same ↦ inl same | inr d ↦ inr (contains_tail x xs y d) ]
    ]

pub put_before : (texts known : List (List ℕ)) (y : List ℕ) → Contains (fold (λ sorted text. put_in_order text sorted) known texts) y → Contains texts y ⊎ Contains known y
put_before [] known y h = inr h
put_before (t ∷ texts) known y h =
    elim (put_before texts (put_in_order t known) y h) [
      | inl c ↦ inl (contains_tail t texts y c)
      | inr c ↦ elim (put_cases t known y c) [
        | inl same ↦ inl (subst (λ z. Contains (t ∷ texts) z) same (contains_head t texts))
        | inr d ↦ inr d
      ]
    ]

pub from_flat_map : {X Y : Type 0} (f : X → List Y) (xs : List X) (y : Y) → Contains (flat_map f xs) y → (x : X) × Contains xs x × Contains (f x) y
from_flat_map f [] y h = absurd (contains_none y h)
from_flat_map {X} {Y} f (x ∷ xs) y h =
    elim (Contains-append_cases (f x) (flat_map f xs) y h) [
      | inl mine ↦ (x, contains_head x xs, mine)
      | inr c ↦ later (from_flat_map f xs y c)
    ]
  where
    later : (z : X) × Contains xs z × Contains (f z) y → (z : X) × Contains (x ∷ xs) z × Contains (f z) y
    later h = (h.0, contains_tail x xs h.0 h.1, h.2)

-- ---- the law

roots : List ClassUnit → List (List ℕ)
roots us = arrays_always ++ flat_map arrays_of_unit us

rooted : (us : List ClassUnit) (root name : List ℕ) → Contains (roots us) root → Contains (with_elements root) name → HasNumber (program_names us) name
unfolding roots
rooted us root name h k = has_number us name (all_put (flat_map with_elements (roots us)) [] name (contains_flat_map with_elements (roots us) root name h k))

pub arrays : (us : List ClassUnit) → ArraysAreThere us
unfolding roots
arrays us = record {
  always = λ name h is. rooted us name name (Contains-append_left arrays_always (flat_map arrays_of_unit us) name h) (itself name is);
  used = λ k u name here mine is.
      rooted us name name
      (Contains-append_right arrays_always (flat_map arrays_of_unit us) name (contains_flat_map arrays_of_unit us u name (contains_at us k u here) mine))
      (itself name is);
  elements = λ name h is. elim (put_before (flat_map with_elements (roots us)) [] name h) [
    | inl c ↦ element name is (from_flat_map with_elements (roots us) name c)
    | inr c ↦ absurd (contains_none name c)
  ];
}
  where
    element : (name : List ℕ) → is_array_name (drop 1 name) ≡ true → (root : List ℕ) × Contains (roots us) root × Contains (with_elements root) name → HasNumber (program_names us) (drop 1 name)
    element name is h = rooted us h.0 (drop 1 name) h.1 (closed h.0 name h.2 is)

pub begins_array : (name : List ℕ) → is_array_name (91 ∷ name) ≡ true
begins_array name = ap not (ne_eqb (1 + prefix_len is_bracket name) 0 (λ e. omega (arith, e)))
