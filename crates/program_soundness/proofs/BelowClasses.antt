-- What is below a class that is neither an interface nor Object is a class that has it above itself.
use Rattle.std.proofs.Common.{◌≡◌, ◌≢◌, ◌<◌, ◌≤◌, ◌+◌, ◌-◌, ◌==◌, ◌||◌, ℕ, suc, Bool, true, false, cond, nat_eq, nat_le, Option, None, Some, List, [], ◌∷◌, ◌++◌, length, slice_get, Contains, flat_map, bytes_eq, inl, inr, refl, sym, ap, subst, ◌∙◌, arith}
use Rattle.std.specs.Prelude.{unwrap_or, option_map}
use Rattle.std.specs.List.{list_any, position_from}
use Rattle.std.specs.Option.{option_map_or}
use Rattle.std.proofs.lemmas.Bool.{and_parts, cases_lt, eqb-true, leb-true, lt-leb, or_cases, true≢false}
use Rattle.std.proofs.lemmas.Option.{none-some, slice_get_cases, slice_get_within}
use Rattle.std.proofs.lemmas.List.Elements.{Contains-append_cases}
use Rattle.std.proofs.lemmas.Slice.Eq.{bytes_eq-Decides}
use Rattle.access_flags.specs.declared.TheConstants.{INTERFACE}
use Rattle.array_classes.proofs.ClassNames.{classes_named}
use Rattle.array_kinds.proofs.Names.{class_no_array}
use Rattle.class_names.specs.declared.kind.Kind.{Kind}
use Rattle.class_names.specs.declared.kind.Kind.TheVariants as kinds
use Rattle.class_names.specs.Names.{IsClassName}
use Rattle.builtin_world.specs.Library.{library}
use Rattle.builtin_world.specs.declared.number.TheConstants.{COUNT, OBJECT, CLASS}
use Rattle.code_decode.specs.declared.code.ClassUnit.{ClassUnit}
use Rattle.link_types.specs.declared.types.ObjectType.TheVariants.{Class, Other}
use Rattle.link_rules.specs.Arrays.{array_names, with_elements, arrays_always, arrays_of_unit}
use Rattle.link_rules.specs.Classes.{NamedClass, class_has, class_number, classes_of, is_array_name, superclass_of}
use Rattle.link_rules.specs.Descriptors.{named_kind}
use Rattle.link_rules.specs.Layout.{array_words, built_in_words, instance_words, object_words}
use Rattle.link_rules.specs.Names.{array_numbered, class_count, is_class_number, kind_object, other_number, program_names, type_named, type_numbered}
use Rattle.link_rules.specs.Supers.{method_order, superclasses, superinterfaces}
use Rattle.link_rules.proofs.Arrays.{begins_array, from_flat_map, put_before}
use Rattle.link_rules.proofs.Fields.{library_stays, library_words_are, linked_objects_grow}
use Rattle.link_rules.proofs.Lists.{Found, found_at, contains_at, contains_cases, contains_head, contains_none, contains_tail}
use Rattle.link_rules.proofs.Numbers.{class_count_is}
use Rattle.link_rules.proofs.Upward.{superclasses_step}
use Rattle.op_core.specs.OrdinaryState.{Object}
use Rattle.java_rows.specs.Program.{is_subclass}
use Rattle.row_soundness.specs.Runs.{MayStandFor, ObjectFits}
use Rattle.program_soundness.specs.SoundPrograms.{IsSound}
use Rattle.program_soundness.proofs.ClassNumbers.{type_of_class}
use Rattle.program_soundness.proofs.Hierarchy.{object_above, superinterfaces_are}
use Rattle.program_soundness.proofs.Methods.{both_true}
use Rattle.program_soundness.proofs.ClassLaws.{goes_below, subclass_parts}

class_super : (us : List ClassUnit) → superclass_of (classes_of us) CLASS ≡ OBJECT
unfolding library
class_super us = refl

-- the names of array classes begin with a bracket
bracketed : (root name : List ℕ) → Contains (with_elements root) name → is_array_name name ≡ true
bracketed [] name h = absurd (contains_none name h)
bracketed (b ∷ root) name h = go (b == 91) refl h (bracketed root name)
  where
    go : (t : Bool) → (b == 91) ≡ t → Contains (cond t ((b ∷ root) ∷ with_elements root) []) name → (Contains (with_elements root) name → is_array_name name ≡ true) → is_array_name name ≡ true
    go true e here later = elim (contains_cases (b ∷ root) (with_elements root) name here) [
      | inl same ↦ subst (λ n. is_array_name n ≡ true) same (subst (λ x. is_array_name (x ∷ root) ≡ true) (sym (eqb-true b 91 e)) (begins_array root))
      | inr more ↦ later more
    ]
    go false e here later = absurd (contains_none name here)

pub any_there : (xs : List ℕ) (d : ℕ) → list_any (λ e. e == d) xs ≡ true → Contains xs d
any_there [] d is = absurd (true≢false (sym is))
any_there (x ∷ xs) d is = go (x == d) refl is (any_there xs d)
  where
    go : (b : Bool) → (x == d) ≡ b → (b || list_any (λ e. e == d) xs) ≡ true → (list_any (λ e. e == d) xs ≡ true → Contains xs d) → Contains (x ∷ xs) d
    go true same here later = subst (λ y. Contains (x ∷ xs) y) (eqb-true x d same) (contains_head x xs)
    go false other here later = contains_tail x xs d (later here)

module _ (us : List ClassUnit) (order : List ℕ) (sound : IsSound us order) where
  pub array_named : (i : ℕ) (name : List ℕ) → slice_get (program_names us).arrays i ≡ Some name → is_array_name name ≡ true
  array_named i name at = elim (put_before (flat_map with_elements (arrays_always ++ flat_map arrays_of_unit us)) [] name (contains_at (array_names us) i name at)) [
    | inl c ↦ (let (root, listed, here) = from_flat_map with_elements (arrays_always ++ flat_map arrays_of_unit us) name c in bracketed root name here)
    | inr none ↦ absurd (contains_none name none)
  ]

  -- no class has the name of an array class
  no_class : (name : List ℕ) → is_array_name name ≡ true → class_number (classes_of us) name ≡ 0
  no_class name array = by_place (position_from (λ (c : NamedClass). bytes_eq c.name name) 0 (classes_of us)) refl
    where
      by_place : (o : Option ℕ) → position_from (λ (c : NamedClass). bytes_eq c.name name) 0 (classes_of us) ≡ o → option_map_or (λ i. suc i) o 0 ≡ 0
      by_place None e = refl
      by_place (Some i) e =
          let f : Found (λ (c : NamedClass). bytes_eq c.name name) (classes_of us) i = found_at (λ (c : NamedClass). bytes_eq c.name name) (classes_of us) i e in
          let within : i < length (classes_of us) = slice_get_within (classes_of us) i f.item f.there in
          let good : IsClassName (option_map_or (λ (k : NamedClass). k.name) (slice_get (classes_of us) i) []) = classes_named us sound.units (suc i) (omega arith, omega (arith, within)) in
          let named : option_map_or (λ (k : NamedClass). k.name) (slice_get (classes_of us) i) [] ≡ name = ap (λ o. option_map_or (λ (k : NamedClass). k.name) o []) f.there ∙ (bytes_eq-Decides f.item.name name).0 f.passes in
          absurd (true≢false (sym array ∙ class_no_array name (subst IsClassName named good)))

  pub low_number : (c : ℕ) → is_class_number (program_names us) c ≡ true → c ≢ 0
  low_number c is e = let some : 1 ≤ c = leb-true 1 c (and_parts (nat_le 1 c) (nat_le c (class_count (program_names us))) is).0 in omega (arith, e, some)

  -- the name of an array class
  pub numbered_array : (c : ℕ) (name : List ℕ) → array_numbered (program_names us) c ≡ Some name → is_array_name name ≡ true
  numbered_array c name same = listed (nat_le c (length (classes_of us))) same
    where
      listed : (b : Bool) → cond b None (slice_get (program_names us).arrays (c - suc (length (classes_of us)))) ≡ Some name → is_array_name name ≡ true
      listed true at = absurd (none-some name at)
      listed false at = array_named (c - suc (length (classes_of us))) name at

  -- what has a number and isn't an array class is a class
  pub plain_within : (c : ℕ) → is_class_number (program_names us) c ≡ true → array_numbered (program_names us) c ≡ None → c ≤ length (classes_of us)
  plain_within c is none = elim (cases_lt (length (classes_of us)) c) [
    | inr within ↦ within
    | inl past ↦ absurd (beyond past)
  ]
    where
      beyond : length (classes_of us) < c → ⊥
      beyond past = elim (slice_get_cases (program_names us).arrays (c - suc (length (classes_of us)))).1 [
        | inl h ↦ none-some h.0 (sym (sym (ap (λ b. cond b None (slice_get (program_names us).arrays (c - suc (length (classes_of us))))) (lt-leb c (length (classes_of us)) past)) ∙ none) ∙ h.2)
        | inr h ↦ (let most : c ≤ class_count (program_names us) = leb-true c (class_count (program_names us)) (and_parts (nat_le 1 c) (nat_le c (class_count (program_names us))) is).1 in
            let past_all : length (program_names us).arrays ≤ c - suc (length (classes_of us)) = h.0 in
            omega (arith, most, past_all, past))
      ]

  -- a class that has another one above itself
  pub record IsBelowClass (c d : ℕ) : Type 0 where
    pub some : c ≢ 0
    pub within : c ≤ length (classes_of us)
    pub plain : array_numbered (program_names us) c ≡ None
    pub type : type_numbered (program_names us) c ≡ Class c
    pub above : Contains (superclasses (classes_of us) c) d

  module _ (d : ℕ) (class : class_has (classes_of us) d INTERFACE ≡ false) (other : d ≢ OBJECT) where
    no_array : (name : List ℕ) → is_array_name name ≡ true → goes_below us (type_named (program_names us) name) (Class d) ≡ true → ⊥
    no_array name array below = by_kind (named_kind name) below
      where
        by_number : (b : Bool) → nat_eq (class_number (classes_of us) name) 0 ≡ b → goes_below us (cond b (Other (other_number (program_names us) name)) (Class (class_number (classes_of us) name))) (Class d) ≡ true → ⊥
        by_number true same is = other (eqb-true d OBJECT is)
        by_number false same is = true≢false (sym (ap (λ n. nat_eq n 0) (no_class name array)) ∙ same)

        by_kind : (k : Kind) → goes_below us (kind_object (program_names us) name k) (Class d) ≡ true → ⊥
        by_kind (kinds.Array n base) is = other (eqb-true d OBJECT is)
        by_kind (kinds.Base base) is = by_number (nat_eq (class_number (classes_of us) name) 0) refl is

    class_above : (c : ℕ) → goes_below us (Class c) (Class d) ≡ true → Contains (superclasses (classes_of us) c) d
    class_above c below = elim (or_cases (d == OBJECT) (list_any (λ e. e == d) (method_order (classes_of us) c)) below) [
      | inl top ↦ absurd (other (eqb-true d OBJECT top))
      | inr listed ↦ elim (Contains-append_cases (superclasses (classes_of us) c) (flat_map (superinterfaces (classes_of us)) (superclasses (classes_of us) c)) d (any_there (method_order (classes_of us) c) d listed)) [
        | inl up ↦ up
        | inr over ↦ (let (e, up, at) = from_flat_map (superinterfaces (classes_of us)) (superclasses (classes_of us) c) d over in
            absurd (true≢false (sym (superinterfaces_are us sound.linked.rules (length (classes_of us)) e d at) ∙ class)))
      ]
    ]

    pub below_class : (c : ℕ) → is_class_number (program_names us) c ≡ true → goes_below us (type_numbered (program_names us) c) (Class d) ≡ true → IsBelowClass c d
    below_class c is below = by_array (array_numbered (program_names us) c) refl below
      where
        by_array : (a : Option (List ℕ)) → array_numbered (program_names us) c ≡ a → goes_below us (unwrap_or (option_map (type_named (program_names us)) a) (Class c)) (Class d) ≡ true → IsBelowClass c d
        by_array (Some name) same under = absurd (no_array name (numbered_array c name same) under)
        by_array None same under = record {
          some = low_number c is;
          within = plain_within c is same;
          plain = same;
          type = ap (λ o. unwrap_or (option_map (type_named (program_names us)) o) (Class c)) same;
          above = class_above c under;
        }

    -- where an object of a class may be used as one of the other class
    pub stands_below : (c : ℕ) → is_class_number (program_names us) c ≡ true → MayStandFor us c (Class d) → IsBelowClass c d
    stands_below c is stands = below_class c is (sym (ap (λ b. goes_below us (type_numbered (program_names us) c) (Class (cond b OBJECT d))) class) ∙ stands)

    pub subclass_below : (c : ℕ) → d ≤ length (classes_of us) → is_subclass us c d ≡ true → IsBelowClass c d
    subclass_below c within is =
        below_class c (and_parts (is_class_number (program_names us) c) _ is).0
        (subst (λ t. goes_below us (type_numbered (program_names us) c) t ≡ true) (type_of_class (program_names us) d within) (subclass_parts us c d is))

    pub is_below : (c : ℕ) → is_class_number (program_names us) c ≡ true → is_class_number (program_names us) d ≡ true → d ≤ length (classes_of us) → MayStandFor us c (Class d) → is_subclass us c d ≡ true
    is_below c one another within stands =
        both_true (is_class_number (program_names us) c) _ one
        (both_true (is_class_number (program_names us) d) _ another
        (subst (λ t. goes_below us (type_numbered (program_names us) c) t ≡ true) (sym (type_of_class (program_names us) d within))
        (sym (ap (λ b. goes_below us (type_numbered (program_names us) c) (Class (cond b OBJECT d))) class) ∙ stands)))

  -- above the class Class are itself and Object
  pub above_class_class : (d : ℕ) → Contains (superclasses (classes_of us) CLASS) d → d ≢ CLASS → d ≡ OBJECT
  above_class_class d up other =
      let count : length (classes_of us) ≡ 28 + length us = class_count_is us in
      elim (contains_cases CLASS (superclasses (classes_of us) (superclass_of (classes_of us) CLASS)) d (subst (λ xs. Contains xs d) (superclasses_step (classes_of us) order sound.linked.order CLASS (λ e. omega (arith, e)) (omega (arith, count))) up)) [
        | inl one ↦ absurd (other (sym one))
        | inr above ↦ object_above us order sound.linked d (subst (λ c. Contains (superclasses (classes_of us) c) d) (class_super us) above)
      ]

  -- an object that is below a built-in class has the words of that class
  pub has_words : (r : ℕ) (o : Object) (d : ℕ) → ObjectFits us r o → d ≢ 0 → d ≤ COUNT → d ≢ OBJECT → d ≢ CLASS → IsBelowClass o.class d → built_in_words d ≤ o.words
  has_words r o d fits some low top class is = elim fits.words [
    | inl same ↦
        (let count : length (classes_of us) ≡ 28 + length us = class_count_is us in
        let grow : instance_words (classes_of us) d ≤ instance_words (classes_of us) o.class = linked_objects_grow us order sound.linked o.class d is.some is.within is.above in
        let its : instance_words (classes_of us) d ≡ built_in_words d = library_words_are (classes_of us) order sound.linked.order (library_stays us) d some (omega (arith, count, low)) low in
        let words : object_words (program_names us) o.class o.length ≡ instance_words (classes_of us) o.class = ap (λ x. option_map_or (λ name. array_words name o.length) x (instance_words (classes_of us) o.class)) is.plain in
        omega (arith, same, words, grow, its))
    | inr object ↦ absurd (top (above_class_class d (subst (λ c. Contains (superclasses (classes_of us) c) d) object.2 is.above) class))
  ]
