-- The words of arrays: what they hold, and that there are as many as there are elements.
use Rattle.std.proofs.Common.{◌≡◌, ◌<◌, ◌≤◌, ◌+◌, ◌*◌, ◌==◌, ◌&&◌, ◌||◌, ℕ, suc, Bool, true, false, cond, nat_eq, nat_lt, Option, None, Some, List, length, bytes_eq, codes, inl, inr, refl, sym, ap, subst, ◌∙◌, arith}
use Rattle.std.specs.Prelude.{unwrap_or, option_map, option_and_then}
use Rattle.std.specs.List.{list_any}
use Rattle.std.specs.Option.{option_map_or}
use Rattle.std.proofs.lemmas.Bool.{and_parts, eqb-true}
use Rattle.std.proofs.lemmas.Option.{none-some}
use Rattle.array_kinds.specs.Kinds.{array_kind, Spells}
use Rattle.array_kinds.proofs.Names.{type_spells}
use Rattle.array_order.specs.Order.{array_text}
use Rattle.builtin_world.specs.declared.number.TheConstants.{CLASS, THREAD}
use Rattle.class_names.specs.declared.kind.BaseKind.{BaseKind}
use Rattle.class_names.specs.declared.kind.BaseKind.TheVariants as bases
use Rattle.class_names.specs.Descriptor.{base_text}
use Rattle.code_decode.specs.declared.code.ClassUnit.{ClassUnit}
use Rattle.instructions.specs.declared.operation.ElementKind.{ElementKind}
use Rattle.instructions.specs.declared.operation.ElementKind.TheVariants as kinds
use Rattle.link_types.specs.declared.types.ElementType.{ElementType}
use Rattle.link_types.specs.declared.types.ElementType.TheVariants as elements
use Rattle.link_types.specs.declared.types.ObjectType.{ObjectType}
use Rattle.link_types.specs.declared.types.ObjectType.TheVariants.{Class, Other, Array}
use Rattle.link_types.specs.Subtypes.{is_element_below, is_object_element}
use Rattle.link_rules.specs.Classes.{class_number, classes_of}
use Rattle.link_rules.specs.Layout.{array_words, instance_words}
use Rattle.link_rules.specs.Names.{array_numbered, element_type_of, number_named, program_names, type_named, type_numbered}
use Rattle.link_rules.specs.Readers.{element_name}
use Rattle.link_rules.specs.Supers.{is_class_below}
use Rattle.link_rules.proofs.Numbers.{class_count_is}
use Rattle.link_rules.proofs.Subclasses.{right_number}
use Rattle.op_core.specs.OrdinaryState.{Object}
use Rattle.type_rules.specs.Assignable.{is_same_element}
use Rattle.type_rules.specs.Wants.{element_types, is_array_of_one, is_array_of_references}
use Rattle.java_rows.specs.Program.{is_subclass, takes_element}
use Rattle.row_soundness.specs.Senses.{number}
use Rattle.row_soundness.specs.Knowledge.{element_contents, element_place, element_type, IsNumeric}
use Rattle.row_soundness.specs.Runs.{IsThread, MayStandFor, ObjectFits, of_numbers, of_references, seen_element, seen_type}
use Rattle.row_soundness.specs.ClassesFollow.{HasEach, HasElement, HasOne}
use Rattle.program_soundness.specs.SoundPrograms.{IsSound}
use Rattle.program_soundness.proofs.ClassNumbers.{named_is, type_of_class}
use Rattle.program_soundness.proofs.BelowClasses.{subclass_below}
use Rattle.program_soundness.proofs.ClassLaws.{goes_below, raised, subclass_parts}
use Rattle.program_soundness.proofs.ThreadLaws.{thread_is_class}
use Rattle.program_soundness.proofs.ElementClasses.{element_named}
use Rattle.program_soundness.proofs.ElementTypes.{elements_go, elements_seen, elements_there, lowered}
use Rattle.program_soundness.proofs.TypesGoUp.{upward}

-- elements that are numbers
is_number : ElementType → Bool
is_number elements.Boolean = true
is_number elements.Byte = true
is_number elements.Char = true
is_number elements.Short = true
is_number elements.Int = true
is_number elements.Long = true
is_number _ = false

number_elements : (y : ElementType) → is_number y ≡ true → element_type (Array 1 y) ≡ None
unfolding is_number
number_elements elements.Boolean e = refl
number_elements elements.Byte e = refl
number_elements elements.Char e = refl
number_elements elements.Short e = refl
number_elements elements.Int e = refl
number_elements elements.Long e = refl
number_elements y e = cc

pub class_no_array : (c n : ℕ) (x : ElementType) → ◌≡◌ {A = ObjectType} (Class c) (Array n x) → ⊥
class_no_array c n x e = cc

module _ (us : List ClassUnit) where
  number_seen : (y : ElementType) → is_number y ≡ true → seen_element us y ≡ y
  unfolding is_number
  number_seen (elements.Class c) e = cc
  number_seen y e = refl

  same_number : (x y : ElementType) → is_number y ≡ true → is_element_below (is_class_below (classes_of us)) x y ≡ true → x ≡ y
  unfolding is_number
  same_number x (elements.Class d) n e = cc
  same_number x (elements.Other d) n e = cc
  same_number x elements.Float n e = cc
  same_number x elements.Double n e = cc
  same_number elements.Boolean elements.Boolean n e = refl
  same_number elements.Byte elements.Byte n e = refl
  same_number elements.Char elements.Char n e = refl
  same_number elements.Short elements.Short n e = refl
  same_number elements.Int elements.Int n e = refl
  same_number elements.Long elements.Long n e = refl
  same_number x y n e = cc

  no_object : (y : ElementType) → is_number y ≡ true → is_object_element y ≡ true → ⊥
  unfolding is_number
  no_object (elements.Class c) n e = cc
  no_object y n e = cc

  number_array : (m : ℕ) (x y : ElementType) → is_number y ≡ true → (b : Bool) → (m == 1) ≡ b → cond b (is_element_below (is_class_below (classes_of us)) x y) (nat_lt 1 m && is_object_element y) ≡ true → Array m x ≡ Array 1 y
  number_array m x y n true one e = ap (λ k. Array k x) (eqb-true m 1 one) ∙ ap (Array 1) (same_number x y n e)
  number_array m x y n false more e = absurd (no_object y n (and_parts (nat_lt 1 m) (is_object_element y) e).1)

  -- what is below an array of numbers is that array
  below_numbers : (t : ObjectType) (y : ElementType) → is_number y ≡ true → goes_below us t (Array 1 y) ≡ true → t ≡ Array 1 y
  below_numbers (Class c) y n e = cc
  below_numbers (Other c) y n e = cc
  below_numbers (Array m x) y n e = number_array m x y n (m == 1) refl e

-- ---- which elements are wanted

same_element : (x y : ElementType) → is_number x ≡ true → is_same_element x y ≡ true → y ≡ x
unfolding is_number
same_element elements.Boolean elements.Boolean n e = refl
same_element elements.Byte elements.Byte n e = refl
same_element elements.Char elements.Char n e = refl
same_element elements.Short elements.Short n e = refl
same_element elements.Int elements.Int n e = refl
same_element elements.Long elements.Long n e = refl
same_element x y n e = cc

-- a type of elements that a kind may be, and longs where it is that of longs
record IsOfKind (kind : ElementKind) (y : ElementType) : Type 0 where
  plain : is_number y ≡ true
  long : kind ≡ kinds.Long → y ≡ elements.Long

one_of : (x y : ElementType) → (is_same_element x y || false) ≡ true → is_same_element x y ≡ true
one_of x y e = by_test (is_same_element x y) e
  where
    by_test : (b : Bool) → (b || false) ≡ true → b ≡ true
    by_test true e = refl
    by_test false e = cc

of_kind : (kind : ElementKind) (y : ElementType) → IsNumeric kind → list_any (λ x. is_same_element x y) (element_types kind) ≡ true → IsOfKind kind y
unfolding is_number
of_kind kinds.Int y n e = let same = same_element elements.Int y refl (one_of elements.Int y e) in record { plain = ap is_number same; long = λ k. cc }
of_kind kinds.Long y n e = let same = same_element elements.Long y refl (one_of elements.Long y e) in record { plain = ap is_number same; long = λ k. same }
of_kind kinds.Char y n e = let same = same_element elements.Char y refl (one_of elements.Char y e) in record { plain = ap is_number same; long = λ k. cc }
of_kind kinds.Short y n e = let same = same_element elements.Short y refl (one_of elements.Short y e) in record { plain = ap is_number same; long = λ k. cc }
of_kind kinds.ByteOrBoolean elements.Byte n e = record { plain = refl; long = λ k. cc }
of_kind kinds.ByteOrBoolean elements.Boolean n e = record { plain = refl; long = λ k. cc }
of_kind kinds.ByteOrBoolean y n e = cc
of_kind kinds.Reference y n e = absurd n

-- ---- arrays

module _ (us : List ClassUnit) (order : List ℕ) (sound : IsSound us order) where
  -- an object of an array class
  record IsArray (o : Object) (d : ℕ) (x : ElementType) : Type 0 where
    name : List ℕ
    numbered : array_numbered (program_names us) o.class ≡ Some name
    named : type_named (program_names us) name ≡ Array d x
    words : o.words ≡ array_words name o.length
    no_thread : IsThread us o.class ≡ true → ⊥

  array_is : (r : ℕ) (o : Object) (d : ℕ) (x : ElementType) → ObjectFits us r o → type_numbered (program_names us) o.class ≡ Array d x → IsArray o d x
  array_is r o d x fits type = by_array (array_numbered (program_names us) o.class) refl
    where
      count : length (classes_of us) ≡ 28 + length us
      count = class_count_is us

      no_class_object : o.class ≡ CLASS → ⊥
      no_class_object same = class_no_array CLASS d x (sym (type_of_class (program_names us) CLASS (omega (arith, count))) ∙ (ap (type_numbered (program_names us)) (sym same) ∙ type))

      by_array : (a : Option (List ℕ)) → array_numbered (program_names us) o.class ≡ a → IsArray o d x
      by_array None same = absurd (class_no_array o.class d x (sym (ap (λ a. unwrap_or (option_map (type_named (program_names us)) a) (Class o.class)) same) ∙ type))
      by_array (Some name) same = record {
        name = name;
        numbered = same;
        named = sym (ap (λ a. unwrap_or (option_map (type_named (program_names us)) a) (Class o.class)) same) ∙ type;
        words = elim fits.words [
          | inl words ↦ words ∙ ap (λ a. option_map_or (λ n. array_words n o.length) a (instance_words (classes_of us) o.class)) same
          | inr object ↦ absurd (no_class_object object.2)
        ];
        no_thread = λ thread.
            class_no_array o.class d x (sym (subclass_below us order sound THREAD (thread_is_class us) (λ e. omega (arith, e)) o.class (omega (arith, count)) thread).type ∙ type);
      }

  -- an array has at least a word for each element, and two for each long
  at_least : (name : List ℕ) (n : ℕ) → n ≤ array_words name n
  at_least name n = by_longs (bytes_eq name (codes "[J"))
    where
      by_longs : (b : Bool) → n ≤ cond b (2 * n) n
      by_longs true = omega arith
      by_longs false = omega arith

  two_each : (name : List ℕ) (n : ℕ) → type_named (program_names us) name ≡ Array 1 elements.Long → array_words name n ≡ 2 * n
  two_each name n type = by_base spells.base (sym spells.base_is) spells.spelled
    where
      spells : Spells (program_names us) (array_kind 1 elements.Long) name
      spells = type_spells (program_names us) name 1 elements.Long type

      no_class : (b : Bool) (o : ℕ) (c : ℕ) → cond b (elements.Other o) (elements.Class c) ≡ elements.Long → ⊥
      no_class true o c e = cc
      no_class false o c e = cc

      by_base : (base : BaseKind) → element_type_of (program_names us) base ≡ elements.Long → name ≡ array_text 1 (base_text base) → array_words name n ≡ 2 * n
      by_base bases.Long same spelled = ap (λ t. array_words t n) spelled
      by_base bases.Int same spelled = cc
      by_base bases.Byte same spelled = cc
      by_base bases.Char same spelled = cc
      by_base bases.Short same spelled = cc
      by_base bases.Boolean same spelled = cc
      by_base bases.Float same spelled = cc
      by_base bases.Double same spelled = cc
      by_base (bases.Class c) same spelled = absurd (no_class (nat_eq (class_number (classes_of us) c) 0) _ _ same)

  module _ (r : ℕ) (o : Object) (fits : ObjectFits us r o) where
    -- ---- numbers

    number_there : (i : ℕ) (y : ElementType) → is_number y ≡ true → type_numbered (program_names us) o.class ≡ Array 1 y → i < o.words → HasOne us r o i number
    number_there i y plain type within = record {
      holds = of_numbers i (ap element_type type ∙ number_elements y plain) (1, y, type);
      within = within;
      spared = λ thread e. (array_is r o 1 y fits type).no_thread thread;
    }

    numbers_there : (i : ℕ) (kind : ElementKind) (y : ElementType) → IsNumeric kind → IsOfKind kind y → type_numbered (program_names us) o.class ≡ Array 1 y → i < o.length → HasEach us r o (element_place kind i) (element_contents kind)
    numbers_there i kinds.Long y n of type within =
        let array : IsArray o 1 y = array_is r o 1 y fits type in
        let long : y ≡ elements.Long = of.long refl in
        let words : array_words array.name o.length ≡ 2 * o.length = two_each array.name o.length (array.named ∙ ap (Array 1) long) in
        let have : o.words ≡ array_words array.name o.length = array.words in
        (number_there (2 * i) y of.plain type (omega (arith, words, have, within)), (number_there (suc (2 * i)) y of.plain type (omega (arith, words, have, within)), tt))
    numbers_there i kinds.Reference y n of type within = absurd n
    numbers_there i kind y n of type within =
        let array : IsArray o 1 y = array_is r o 1 y fits type in
        let least : o.length ≤ array_words array.name o.length = at_least array.name o.length in
        let have : o.words ≡ array_words array.name o.length = array.words in
        (number_there i y of.plain type (omega (arith, least, have, within)), tt)

    pub elements_fit : (i : ℕ) (kind : ElementKind) (s : ObjectType) → IsNumeric kind → MayStandFor us o.class s → is_array_of_one (element_types kind) s ≡ true → i < o.length → HasEach us r o (element_place kind i) (element_contents kind)
    elements_fit i kind (Class c) n stands is within = cc
    elements_fit i kind (Other c) n stands is within = cc
    elements_fit i kind (Array d y) n stands is within =
        let parts = and_parts (d == 1) (list_any (λ x. is_same_element x y) (element_types kind)) is in
        let of : IsOfKind kind y = of_kind kind y n parts.1 in
        let below : goes_below us (type_numbered (program_names us) o.class) (Array 1 y) ≡ true =
        subst (λ x. goes_below us (type_numbered (program_names us) o.class) (Array 1 x) ≡ true) (number_seen us y of.plain)
        (subst (λ k. goes_below us (type_numbered (program_names us) o.class) (Array k (seen_element us y)) ≡ true) (eqb-true d 1 parts.0) stands) in
        numbers_there i kind y n of (below_numbers us (type_numbered (program_names us) o.class) y of.plain below) within

    -- ---- references

    element_stored : (name : List ℕ) (m : ℕ) (y : ElementType) (type : ObjectType) → array_numbered (program_names us) o.class ≡ Some name → type_named (program_names us) name ≡ Array m y → element_type (Array m y) ≡ Some type
        → (d : ℕ) → takes_element us o.class d ≡ true → MayStandFor us d type
    element_stored name m y type numbered named at d takes =
        by_element (element_name name) refl (subst (λ a. option_map_or (is_subclass us d) (option_and_then (number_named (program_names us)) (option_and_then element_name a)) false ≡ true) numbered takes)
      where
        by_number : (en : List ℕ) → element_name name ≡ Some en → (x : Option ℕ) → number_named (program_names us) en ≡ x → option_map_or (is_subclass us d) x false ≡ true → MayStandFor us d type
        by_number en same None unknown e = cc
        by_number en same (Some c) known e =
            raised us (type_numbered (program_names us) d) type
            (subst (λ t. goes_below us (type_numbered (program_names us) d) t ≡ true) (sym (named_is (program_names us) en c known).type ∙ element_named (program_names us) name en m y type named at same) (subclass_parts us d c e))

        by_element : (x : Option (List ℕ)) → element_name name ≡ x → option_map_or (is_subclass us d) (option_and_then (number_named (program_names us)) x) false ≡ true → MayStandFor us d type
        by_element None none e = cc
        by_element (Some en) same e = by_number en same (number_named (program_names us) en) refl e

    reference_there : (i m : ℕ) (y : ElementType) (s type : ObjectType) → type_numbered (program_names us) o.class ≡ Array m y → MayStandFor us o.class s → is_array_of_references s ≡ true → element_type (Array m y) ≡ Some type → i < o.length
        → HasElement us r o i s
    reference_there i m y s type is stands test at within =
        let array : IsArray o m y = array_is r o m y fits is in
        let least : o.length ≤ array_words array.name o.length = at_least array.name o.length in
        let have : o.words ≡ array_words array.name o.length = array.words in
        let below : goes_below us (Array m y) (seen_type us s) ≡ true = subst (λ t. goes_below us t (seen_type us s) ≡ true) is stands in
        record {
          type = type;
          one = record { holds = of_references i type (ap element_type is ∙ at); within = omega (arith, least, have, within); spared = λ thread e. array.no_thread thread };
          up = λ c x number there stands_for.
              upward us order sound (type_numbered (program_names us) c) (seen_type us type) (seen_type us x) (right_number us order sound.linked c number) stands_for
              (elements_go us (seen_type us (Array m y)) s (seen_type us type) (seen_type us x) test (lowered us order sound (Array m y) s below) (elements_seen us (Array m y) type at) (elements_seen us s x there));
          stored = λ d number takes. element_stored array.name m y type array.numbered array.named at d takes;
        }

    pub references_fit : (i : ℕ) (s : ObjectType) → MayStandFor us o.class s → is_array_of_references s ≡ true → i < o.length → HasElement us r o i s
    references_fit i s stands test within = by_type (type_numbered (program_names us) o.class) refl (elements_there us (type_numbered (program_names us) o.class) s test stands)
      where
        by_type : (t : ObjectType) → type_numbered (program_names us) o.class ≡ t → (a : ObjectType) × (element_type (type_numbered (program_names us) o.class) ≡ Some a) → HasElement us r o i s
        by_type (Class c) is (a, at) = absurd (none-some a (ap element_type (sym is) ∙ at))
        by_type (Other c) is (a, at) = absurd (none-some a (ap element_type (sym is) ∙ at))
        by_type (Array m y) is (a, at) = reference_there i m y s a is stands test (ap element_type (sym is) ∙ at) within
