-- The fixed objects of a program: class objects, System.out, main's Thread and arguments, and the string literals.
use Rattle.std.proofs.Common.{◌≡◌, ◌≢◌, ◌⊎◌, inl, inr, ◌<◌, ◌≤◌, ◌+◌, ◌-◌, ◌*◌, ◌^◌, ℕ, suc, true, cond, nat_le, Option, None, Some, IsSomeAnd, List, [], ◌∷◌, length, map, slice_get, refl, sym, ap, subst, ◌∙◌, arith}
use Rattle.std.specs.Prelude.{option_map, unwrap_or}
use Rattle.std.specs.List.{range_with_len}
use Rattle.std.specs.Option.{option_map_or}
use Rattle.std.proofs.lemmas.Bool.{and_parts, le-leb, leb-true}
use Rattle.std.proofs.lemmas.List.{length-map}
use Rattle.std.proofs.lemmas.List.FromFn.{get_or-range_with_len, length-range_with_len}
use Rattle.std.proofs.lemmas.Option.{slice_get-get_or, slice_get-map}
use Rattle.builtin_facts.proofs.NativeLaws.{numbers as built_in}
use Rattle.builtin_world.specs.Library.{library}
use Rattle.builtin_world.specs.declared.number.TheConstants.{CLASS, PRINT_STREAM, STRING, THREAD}
use Rattle.class_names.specs.Reading.{spells_class_name, split_at_semicolon, base_at, kind_at}
use Rattle.class_names.specs.Kinds.{kinds_within}
use Rattle.code_decode.specs.declared.code.ClassUnit.{ClassUnit}
use Rattle.fixed_objects.specs.Fixed.{fixed_header}
use Rattle.link_types.specs.declared.operands.FieldOperand.{FieldOperand}
use Rattle.link_types.specs.declared.types.ElementType.TheVariants as elements
use Rattle.link_types.specs.declared.types.ObjectType.{ObjectType}
use Rattle.link_types.specs.declared.types.ObjectType.TheVariants.{Class, Array}
use Rattle.instructions.specs.declared.operation.PrimitiveType.TheVariants.{Char}
use Rattle.link_rules.specs.Arrays.{arguments_array, primitive_array}
use Rattle.link_rules.specs.Classes.{classes_of}
use Rattle.link_rules.specs.FixedObjects.{ObjectAtStart, arguments_class, arguments_object, class_object, class_object_at_start, first_free, main_thread_at_start, main_thread_object, object_at_start, objects_at_start, string_at_start, string_object, system_out_object}
use Rattle.link_rules.specs.Laws.{LieInARow}
use Rattle.link_rules.specs.Layout.{array_words, built_in_words, instance_words, object_words, static_words}
use Rattle.link_rules.specs.Names.{array_number, array_numbered, class_count, is_class_number, program_names, type_named, type_numbered}
use Rattle.link_rules.proofs.Arrays.{arrays}
use Rattle.link_rules.proofs.Fields.{library_stays, library_words_are}
use Rattle.link_rules.proofs.Lists.{before_at, contains_head, contains_tail, slice_get-behind}
use Rattle.link_rules.proofs.Numbers.{class_count_is}
use Rattle.link_rules.proofs.Objects.{class_words_are, objects_row}
use Rattle.op_core.specs.OrdinaryState.{Object}
use Rattle.java_rows.specs.Start.{fixed_object}
use Rattle.row_soundness.specs.Knowledge.{contents_of, IsField}
use Rattle.row_soundness.specs.Runs.{MayStandFor, fixed_of}
use Rattle.row_soundness.specs.ClassesFollow.{HasEach, IsFixed}
use Rattle.program_soundness.specs.SoundPrograms.{IsSound}
use Rattle.program_soundness.proofs.ClassNumbers.{array_number_is, class_is_numbered, type_of_class}
use Rattle.program_soundness.proofs.ClassLaws.{classes_go_up}
use Rattle.program_soundness.proofs.ThreadLaws.{thread_words}
use Rattle.program_soundness.proofs.BuiltInWords.{string_words}
use Rattle.program_soundness.proofs.FieldWords.{IsFieldHere, class_words_there, field_here}
use Rattle.program_soundness.proofs.FixedRows.{LiesInside, found_in_row, lies_inside}

stream_words : built_in_words PRINT_STREAM ≡ 0
unfolding library
stream_words = refl

arguments_type : (us : List ClassUnit) → type_named (program_names us) arguments_array ≡ Array 1 (elements.Class STRING)
unfolding library spells_class_name split_at_semicolon base_at kind_at kinds_within
arguments_type us = refl

pub range_at : (a n i : ℕ) → i < n → slice_get (range_with_len a n) i ≡ Some (a + i)
range_at a n i less =
    slice_get-get_or (range_with_len a n) i 0 (let many : length (range_with_len a n) ≡ n = length-range_with_len a n in omega (arith, many, less))
    ∙ ap (λ x. Some x) (get_or-range_with_len a n i 0 less)

module _ (us : List ClassUnit) where
  abbrev pub classes_at_start : List ObjectAtStart
  classes_at_start = map (class_object_at_start (program_names us) us) (range_with_len 1 (class_count (program_names us)))

  abbrev pub others_at_start : List ObjectAtStart
  others_at_start =
      object_at_start (system_out_object (program_names us)) PRINT_STREAM 0 []
      ∷ main_thread_at_start (program_names us)
      ∷ object_at_start (arguments_object (program_names us)) (arguments_class (program_names us)) 0 []
      ∷ map (string_at_start (program_names us)) (range_with_len 0 (length (program_names us).strings))

  pub many_classes : length classes_at_start ≡ class_count (program_names us)
  many_classes = length-map (range_with_len 1 (class_count (program_names us))) (class_object_at_start (program_names us) us) ∙ length-range_with_len 1 (class_count (program_names us))

  class_at_start : (c : ℕ) → is_class_number (program_names us) c ≡ true → (i : ℕ) × (slice_get (objects_at_start (program_names us) us) i ≡ Some (class_object_at_start (program_names us) us c))
  class_at_start c is =
      let low : 1 ≤ c = leb-true 1 c (and_parts (nat_le 1 c) (nat_le c (class_count (program_names us))) is).0 in
      let high : c ≤ class_count (program_names us) = leb-true c (class_count (program_names us)) (and_parts (nat_le 1 c) (nat_le c (class_count (program_names us))) is).1 in
      let count : length classes_at_start ≡ class_count (program_names us) = many_classes in
      let same : 1 + (c - 1) ≡ c = omega (arith, low) in (
        c - 1,
        before_at classes_at_start others_at_start (c - 1) (omega (arith, low, high, count))
            ∙ (slice_get-map (class_object_at_start (program_names us) us) (range_with_len 1 (class_count (program_names us))) (c - 1)
            ∙ (ap (option_map (class_object_at_start (program_names us) us)) (range_at 1 (class_count (program_names us)) (c - 1) (omega (arith, low, high)))
            ∙ ap (λ x. Some (class_object_at_start (program_names us) us x)) same)),
      )

  other_at_start : (i : ℕ) (o : ObjectAtStart) → slice_get others_at_start i ≡ Some o → (j : ℕ) × (slice_get (objects_at_start (program_names us) us) j ≡ Some o)
  other_at_start i o there = (length classes_at_start + i, slice_get-behind classes_at_start others_at_start i ∙ there)

  out_at_start : (j : ℕ) × (slice_get (objects_at_start (program_names us) us) j ≡ Some (object_at_start (system_out_object (program_names us)) PRINT_STREAM 0 []))
  out_at_start = other_at_start 0 _ refl

  thread_at_start : (j : ℕ) × (slice_get (objects_at_start (program_names us) us) j ≡ Some (main_thread_at_start (program_names us)))
  thread_at_start = other_at_start 1 _ refl

  arguments_at_start : (j : ℕ) × (slice_get (objects_at_start (program_names us) us) j ≡ Some (object_at_start (arguments_object (program_names us)) (arguments_class (program_names us)) 0 []))
  arguments_at_start = other_at_start 2 _ refl

  literal_at_start : (n : ℕ) → n < length (program_names us).strings → (j : ℕ) × (slice_get (objects_at_start (program_names us) us) j ≡ Some (string_at_start (program_names us) n))
  literal_at_start n within =
      other_at_start (suc (suc (suc n))) (string_at_start (program_names us) n)
      (slice_get-map (string_at_start (program_names us)) (range_with_len 0 (length (program_names us).strings)) n
      ∙ (ap (option_map (string_at_start (program_names us))) (range_at 0 (length (program_names us).strings) n within)
      ∙ (let same : 0 + n ≡ n = omega arith in ap (λ x. Some (string_at_start (program_names us) x)) same)))

  module _ (order : List ℕ) (sound : IsSound us order) (room : first_free (program_names us) ≤ 2 ^ 32) where
    count : length (classes_of us) ≡ 28 + length us
    count = class_count_is us

    -- where an object lies, its header is found and it is in range
    record IsThere (o : ObjectAtStart) : Type 0 where
      found : fixed_of us o.reference ≡ Some (fixed_header (fixed_object o))
      some : 0 < o.reference
      ends : o.reference + 2 + length o.words ≤ first_free (program_names us)

    is_there : (o : ObjectAtStart) → (i : ℕ) × (slice_get (objects_at_start (program_names us) us) i ≡ Some o) → IsThere o
    is_there o (i, at) =
        let row : LieInARow 1 (objects_at_start (program_names us) us) (first_free (program_names us)) = objects_row us in
        let inside : LiesInside 1 (first_free (program_names us)) o = lies_inside (objects_at_start (program_names us) us) 1 (first_free (program_names us)) i o row at in
        let begins : 1 ≤ o.reference = inside.begins in
        record {
          found = ap (option_map fixed_header) (found_in_row (objects_at_start (program_names us) us) 1 (first_free (program_names us)) i o row at);
          some = omega (arith, begins);
          ends = inside.ends;
        }

    -- an object of a class with the words that its class and its length say
    fixed_fits : (o : ObjectAtStart) (t : ObjectType) → IsThere o → is_class_number (program_names us) o.class ≡ true → o.length < 2 ^ 31
        → (length o.words ≡ object_words (program_names us) o.class o.length) ⊎ ((c : ℕ) × (o.reference ≡ class_object (program_names us) c) × (o.class ≡ CLASS) × (length o.words ≡ static_words (classes_of us) c))
        → MayStandFor us o.class t → (fixed : IsFixed us o.reference t) × (fixed.object ≡ fixed_header (fixed_object o))
    fixed_fits o t there class short words stands =
        let ends : o.reference + 2 + length o.words ≤ first_free (program_names us) = there.ends in (
          record {
            object = fixed_header (fixed_object o);
            there = there.found;
            fits = record { some = there.some; small = omega (arith, ends, room); class = class; length = short; few = omega (arith, ends, room); words = words };
            stands = stands;
          },
          refl,
        )

    class_stands : (d : ℕ) → d ≢ 0 → d ≤ 28 → MayStandFor us d (Class d)
    class_stands d some low =
        subst (MayStandFor us d) (type_of_class (program_names us) d (omega (arith, count, low)))
        ((classes_go_up us order sound).own d (class_is_numbered (program_names us) d some (omega (arith, count, low))))

    plain_words : (d n : ℕ) → d ≢ 0 → d ≤ 28 → object_words (program_names us) d n ≡ built_in_words d
    plain_words d n some low =
        let within : d ≤ length (classes_of us) = omega (arith, count, low) in
        ap (λ b. option_map_or (λ name. array_words name n) (cond b None (slice_get (program_names us).arrays (d - suc (length (classes_of us))))) (instance_words (classes_of us) d)) (le-leb d (length (classes_of us)) within)
        ∙ library_words_are (classes_of us) order sound.linked.order (library_stays us) d some within low

    -- ---- class objects

    pub class_object_there : (c : ℕ) → is_class_number (program_names us) c ≡ true
        → (fixed : IsFixed us (class_object (program_names us) c) (Class CLASS)) × (fixed.object ≡ fixed_header (fixed_object (class_object_at_start (program_names us) us c)))
    class_object_there c is =
        fixed_fits (class_object_at_start (program_names us) us c) (Class CLASS) (is_there (class_object_at_start (program_names us) us c) (class_at_start c is))
        (built_in us CLASS (omega arith) (omega arith)) (omega arith) (inr (c, refl, refl, class_words_are us c)) (class_stands CLASS (λ e. omega (arith, e)) (omega arith))

    pub class_object_fits : (c : ℕ) → is_class_number (program_names us) c ≡ true → IsFixed us (class_object (program_names us) c) (Class CLASS)
    class_object_fits c is = (class_object_there c is).0

    pub class_field_fits : (f : FieldOperand) → IsField us true f → (fixed : IsFixed us (class_object (program_names us) f.owner) (Class CLASS)) × HasEach us (class_object (program_names us) f.owner) fixed.object f.place (contents_of f.kind)
    class_field_fits f is =
        let here : IsFieldHere us order sound true f = field_here us order sound true f is in
        let read : 28 < f.owner = here.field.read in
        let number : is_class_number (program_names us) f.owner ≡ true = class_is_numbered (program_names us) f.owner (λ e. omega (arith, e, read)) here.field.within in
        let (fixed, object) = class_object_there f.owner number in (
          fixed,
          subst (λ n. HasEach us (class_object (program_names us) f.owner) fixed.object n (contents_of f.kind)) (sym here.at)
              (class_words_there us order sound (class_object (program_names us) f.owner) fixed.object f.owner here.place here.member f.kind here.typed here.field refl (ap (λ (o : Object). o.class) object) (ap (λ (o : Object). o.words) object ∙ class_words_are us f.owner)),
        )

    -- ---- the others

    pub out_fits : IsFixed us (system_out_object (program_names us)) (Class PRINT_STREAM)
    out_fits =
        (fixed_fits (object_at_start (system_out_object (program_names us)) PRINT_STREAM 0 []) (Class PRINT_STREAM) (is_there (object_at_start (system_out_object (program_names us)) PRINT_STREAM 0 []) out_at_start)
        (built_in us PRINT_STREAM (omega arith) (omega arith)) (omega arith) (inl (sym (plain_words PRINT_STREAM 0 (λ e. omega (arith, e)) (omega arith) ∙ stream_words))) (class_stands PRINT_STREAM (λ e. omega (arith, e)) (omega arith))).0

    pub main_thread_fits : IsFixed us (main_thread_object (program_names us)) (Class THREAD)
    main_thread_fits =
        (fixed_fits (main_thread_at_start (program_names us)) (Class THREAD) (is_there (main_thread_at_start (program_names us)) thread_at_start)
        (built_in us THREAD (omega arith) (omega arith)) (omega arith) (inl (sym (plain_words THREAD 0 (λ e. omega (arith, e)) (omega arith) ∙ thread_words))) (class_stands THREAD (λ e. omega (arith, e)) (omega arith))).0

    pub literal_fits : (n : ℕ) → n < length (program_names us).strings → IsFixed us (string_object (program_names us) n) (Class STRING)
    literal_fits n within =
        let there : IsThere (string_at_start (program_names us) n) = is_there (string_at_start (program_names us) n) (literal_at_start n within) in
        let ends : string_object (program_names us) n + 2 + 1 ≤ first_free (program_names us) = there.ends in
        let start : string_object (program_names us) n ≡ arguments_object (program_names us) + 2 + 3 * n = refl in
        (fixed_fits (string_at_start (program_names us) n) (Class STRING) there (built_in us STRING (omega arith) (omega arith)) (omega (arith, ends, start, room))
        (inl (sym (plain_words STRING n (λ e. omega (arith, e)) (omega arith) ∙ string_words))) (class_stands STRING (λ e. omega (arith, e)) (omega arith))).0

    pub arguments_fit : IsFixed us (arguments_object (program_names us)) (Array 1 (elements.Class STRING))
    arguments_fit = by_number (array_number (program_names us) arguments_array) refl ((arrays us).always arguments_array (contains_tail (primitive_array Char) (arguments_array ∷ []) arguments_array (contains_head arguments_array [])) refl)
      where
        by_number : (a : Option ℕ) → array_number (program_names us) arguments_array ≡ a → IsSomeAnd a (λ c. array_numbered (program_names us) c ≡ Some arguments_array) → IsFixed us (arguments_object (program_names us)) (Array 1 (elements.Class STRING))
        by_number None same is = absurd is
        by_number (Some n) same is =
            let class : arguments_class (program_names us) ≡ n = ap (λ a. unwrap_or a 0) same in
            let number = array_number_is (program_names us) arguments_array n same in
            let numbered : is_class_number (program_names us) (arguments_class (program_names us)) ≡ true = subst (λ x. is_class_number (program_names us) x ≡ true) (sym class) number.class in
            let type : type_numbered (program_names us) (arguments_class (program_names us)) ≡ Array 1 (elements.Class STRING) = ap (type_numbered (program_names us)) class ∙ (number.type ∙ arguments_type us) in
            (fixed_fits (object_at_start (arguments_object (program_names us)) (arguments_class (program_names us)) 0 []) (Array 1 (elements.Class STRING))
            (is_there (object_at_start (arguments_object (program_names us)) (arguments_class (program_names us)) 0 []) arguments_at_start) numbered (omega arith)
            (inl (sym (ap (λ c. object_words (program_names us) c 0) class ∙ ap (λ a. option_map_or (λ name. array_words name 0) a (instance_words (classes_of us) n)) is)))
            (subst (MayStandFor us (arguments_class (program_names us))) type ((classes_go_up us order sound).own (arguments_class (program_names us)) numbered))).0
