-- The state in which a sound program begins.
use Rattle.std.proofs.Common.{◌≡◌, ◌≢◌, ◌⊎◌, inl, inr, ◌<◌, ◌≤◌, ◌+◌, ◌-◌, ◌^◌, ℕ, zero, suc, Bool, true, false, cond, nat_eq, Option, None, Some, List, [], ◌∷◌, length, map, slice_get, take, refl, sym, ap, subst, ◌∙◌, arith}
use Rattle.std.specs.Prelude.{option_and_then, option_map, unwrap_or}
use Rattle.std.specs.List.{range_with_len}
use Rattle.std.specs.Option.{option_map_or}
use Rattle.std.proofs.lemmas.Bool.{cases_lt, le-leb}
use Rattle.std.proofs.lemmas.Option.{none-some, same_Some, slice_get-map, slice_get_within}
use Rattle.std.proofs.lemmas.List.FromFn.{length-range_with_len}
use Rattle.access_flags.specs.declared.TheConstants.{STATIC}
use Rattle.access_flags.specs.Flags.{has}
use Rattle.builtin_world.specs.declared.number.TheConstants.{CLASS, PRINT_STREAM, STRING, THREAD}
use Rattle.class_names.specs.Kinds.{field_kind}
use Rattle.code_decode.specs.declared.code.ClassUnit.{ClassUnit}
use Rattle.fixed_objects.specs.declared.FixedObject.{FixedObject}
use Rattle.fixed_objects.specs.Fixed.{fixed_at, fixed_header, fixed_word}
use Rattle.fixed_objects.proofs.OpeningLemmas.{no_words}
use Rattle.link_types.specs.declared.operands.MethodId.{MethodId}
use Rattle.link_types.specs.declared.types.ObjectType.{ObjectType}
use Rattle.link_types.specs.declared.types.ElementType.TheVariants as elements
use Rattle.link_types.specs.declared.types.ObjectType.TheVariants.{Class, Array}
use Rattle.link_types.specs.declared.types.ValueType.{ValueType}
use Rattle.link_types.specs.declared.types.ValueType.TheVariants as values
use Rattle.link_rules.specs.Classes.{NamedMember, classes_of, fields_of, member_of_file, number_of_file, unit_numbered, utf8_at}
use Rattle.link_rules.specs.FixedObjects.{ObjectAtStart, arguments_class, arguments_object, class_object, class_object_at_start, class_words_of_unit, constant_long, constant_word, first_constant, first_free, first_words, main_thread_at_start, main_thread_object, object_at_start, objects_at_start, string_at_start, string_object, system_out_object, two_words}
use Rattle.link_rules.specs.Layout.{field_place, field_words, instance_words, is_long, own_words}
use Rattle.link_rules.specs.Classes.{superclass_of}
use Rattle.link_rules.specs.Laws.{IsFieldOf}
use Rattle.link_rules.specs.Names.{class_count, is_class_number, program_names, value_type}
use Rattle.link_rules.proofs.Lists.{before_at, slice_get-behind}
use Rattle.link_rules.proofs.Objects.{fields_of_file}
use Rattle.op_core.specs.OrdinaryState.{Object, live, unused}
use Rattle.java_rows.specs.Start.{fixed_object, start_of_program}
use Rattle.java_rows.specs.Thread.{Local, first_state}
use Rattle.row_soundness.specs.Accepted.{Accepted, IsMain}
use Rattle.row_soundness.specs.Fits.{anything}
use Rattle.row_soundness.specs.Knowledge.{Knows, contents_of}
use Rattle.row_soundness.specs.Senses.{number, reference}
use Rattle.row_soundness.specs.Runs.{HasObject, HoldsAt, MayStand, ObjectFits, RunsLocal, WordHolds, fixed_of, runs}
use Rattle.row_soundness.specs.ClassesFollow.{IsFixed}
use Rattle.row_soundness.proofs.RunsKnow.{runs_know}
use Rattle.row_soundness.proofs.RowsTogether.{rows_fit}
use Rattle.row_soundness.proofs.FirstState.{first_fits}
use Rattle.program_soundness.specs.Soundness.{StateFits}
use Rattle.program_soundness.specs.SoundPrograms.{IsSound}
use Rattle.program_soundness.proofs.Methods.{from_map, unit_found}
use Rattle.program_soundness.proofs.AcceptedPrograms.{accepted}
use Rattle.program_soundness.specs.Programs.{IsMainMethod}
use Rattle.program_soundness.proofs.Programs.{main_begins}
use Rattle.program_soundness.proofs.BelowClasses.{low_number}
use Rattle.program_soundness.proofs.BuiltInWords.{priority_there}
use Rattle.program_soundness.proofs.FieldFacts.{contents_many}
use Rattle.program_soundness.proofs.FixedFit.{arguments_fit, class_object_fits, class_object_there, classes_at_start, literal_fits, main_thread_fits, many_classes, others_at_start, out_fits, range_at}
use Rattle.program_soundness.proofs.FixedRows.{IsInRow, row_object}
use Rattle.program_soundness.proofs.OneContent.{class_object_word, one_content, same_class}
use Rattle.program_soundness.proofs.ObjectLaws.{classes_follow}
use Rattle.program_soundness.proofs.FirstWords.{IsReferenceWord, is_null, is_literal, class_words_small, reference_at_start, words_at}

-- a reference that a field's words hold is that of a type of objects, and its first word
held_reference : (type : ValueType) (part : ℕ) (t : ObjectType) → HoldsAt (contents_of type) part (reference t) → (type ≡ values.Object t) × (part ≡ 0)
held_reference (values.Object s) zero t held = (ap (λ x. values.Object x) (same s t (same_Some (reference s) (reference t) held)), refl)
  where
    same : (a b : ObjectType) → reference a ≡ reference b → a ≡ b
    same a b e = cc
held_reference (values.Object s) (suc part) t held = absurd (none-some (reference t) held)
held_reference values.Long zero t held = cc
held_reference values.Long (suc zero) t held = cc
held_reference values.Long (suc (suc part)) t held = absurd (none-some (reference t) held)
held_reference values.Int zero t held = cc
held_reference values.Int (suc part) t held = absurd (none-some (reference t) held)
held_reference values.Byte zero t held = cc
held_reference values.Byte (suc part) t held = absurd (none-some (reference t) held)
held_reference values.Char zero t held = cc
held_reference values.Char (suc part) t held = absurd (none-some (reference t) held)
held_reference values.Short zero t held = cc
held_reference values.Short (suc part) t held = absurd (none-some (reference t) held)
held_reference values.Boolean zero t held = cc
held_reference values.Boolean (suc part) t held = absurd (none-some (reference t) held)

-- what an object is that is there from the start
pub data IsAtStart (us : List ClassUnit) (o : ObjectAtStart) : Type 0 where
  a_class : (c : ℕ) → is_class_number (program_names us) c ≡ true → o ≡ class_object_at_start (program_names us) us c → IsAtStart us o
  the_out : o ≡ object_at_start (system_out_object (program_names us)) PRINT_STREAM 0 [] → IsAtStart us o
  the_thread : o ≡ main_thread_at_start (program_names us) → IsAtStart us o
  the_arguments : o ≡ object_at_start (arguments_object (program_names us)) (arguments_class (program_names us)) 0 [] → IsAtStart us o
  a_literal : (n : ℕ) → n < length (program_names us).strings → o ≡ string_at_start (program_names us) n → IsAtStart us o

value_at : (ws : List ℕ) (i j v : ℕ) → i ≡ j → slice_get ws j ≡ Some v → unwrap_or (slice_get ws i) 0 ≡ v
value_at ws i j v same found = ap (λ n. unwrap_or (slice_get ws n) 0) same ∙ ap (λ o. unwrap_or o 0) found

header_class : (us : List ClassUnit) (c : ℕ) (x : Object) → x ≡ fixed_header (fixed_object (class_object_at_start (program_names us) us c)) → x.class ≡ CLASS
header_class us c x same = ap (λ (o : Object). o.class) same

module _ (us : List ClassUnit) where
  of_classes : (i : ℕ) (o : ObjectAtStart) → i < length (classes_at_start us) → slice_get (classes_at_start us) i ≡ Some o → IsAtStart us o
  of_classes i o within there =
      let count : length (classes_at_start us) ≡ class_count (program_names us) = many_classes us in
      let (c, at, same) = from_map (class_object_at_start (program_names us) us) (slice_get (range_with_len 1 (class_count (program_names us))) i) o (sym (slice_get-map (class_object_at_start (program_names us) us) (range_with_len 1 (class_count (program_names us))) i) ∙ there) in
      let number : 1 + i ≡ c = same_Some (1 + i) c (sym (range_at 1 (class_count (program_names us)) i (omega (arith, within, count))) ∙ at) in
      a_class c (Rattle.program_soundness.proofs.Methods.both_true (Rattle.std.specs.Prelude.nat_le 1 c) (Rattle.std.specs.Prelude.nat_le c (class_count (program_names us))) (le-leb 1 c (omega (arith, number))) (le-leb c (class_count (program_names us)) (omega (arith, number, within, count)))) (sym same)

  of_others : (i : ℕ) (o : ObjectAtStart) → slice_get (others_at_start us) i ≡ Some o → IsAtStart us o
  of_others zero o there = the_out (sym (same_Some _ o there))
  of_others (suc zero) o there = the_thread (sym (same_Some _ o there))
  of_others (suc (suc zero)) o there = the_arguments (sym (same_Some _ o there))
  of_others (suc (suc (suc n))) o there =
      let (m, at, same) = from_map (string_at_start (program_names us)) (slice_get (range_with_len 0 (length (program_names us).strings)) n) o (sym (slice_get-map (string_at_start (program_names us)) (range_with_len 0 (length (program_names us).strings)) n) ∙ there) in
      let many : length (range_with_len 0 (length (program_names us).strings)) ≡ length (program_names us).strings = length-range_with_len 0 (length (program_names us).strings) in
      let inside : n < length (range_with_len 0 (length (program_names us).strings)) = slice_get_within (range_with_len 0 (length (program_names us).strings)) n m at in
      let number : 0 + n ≡ m = same_Some (0 + n) m (sym (range_at 0 (length (program_names us).strings) n (omega (arith, inside, many))) ∙ at) in
      a_literal m (omega (arith, number, inside, many)) (sym same)

  pub is_at_start : (i : ℕ) (o : ObjectAtStart) → slice_get (objects_at_start (program_names us) us) i ≡ Some o → IsAtStart us o
  is_at_start i o there = elim (cases_lt i (length (classes_at_start us))) [
    | inl within ↦ of_classes i o within (sym (before_at (classes_at_start us) (others_at_start us) i within) ∙ there)
    | inr past ↦ (let place : length (classes_at_start us) + (i - length (classes_at_start us)) ≡ i = omega (arith, past) in
        of_others (i - length (classes_at_start us)) o (sym (slice_get-behind (classes_at_start us) (others_at_start us) (i - length (classes_at_start us))) ∙ (ap (slice_get (objects_at_start (program_names us) us)) place ∙ there)))
  ]

  module _ (order : List ℕ) (sound : IsSound us order) (room : first_free (program_names us) ≤ 2 ^ 32) where
    -- ---- objects

    fixed_known : (o : ObjectAtStart) → IsAtStart us o → (t : ObjectType) × IsFixed us o.reference t
    fixed_known o (a_class c is same) = (Class CLASS, subst (λ (x : ObjectAtStart). IsFixed us x.reference (Class CLASS)) (sym same) (class_object_fits us order sound room c is))
    fixed_known o (the_out same) = (Class PRINT_STREAM, subst (λ (x : ObjectAtStart). IsFixed us x.reference (Class PRINT_STREAM)) (sym same) (out_fits us order sound room))
    fixed_known o (the_thread same) = (Class THREAD, subst (λ (x : ObjectAtStart). IsFixed us x.reference (Class THREAD)) (sym same) (main_thread_fits us order sound room))
    fixed_known o (the_arguments same) =
        (Array 1 (elements.Class STRING), subst (λ (x : ObjectAtStart). IsFixed us x.reference (Array 1 (elements.Class STRING))) (sym same) (arguments_fit us order sound room))
    fixed_known o (a_literal n within same) = (Class STRING, subst (λ (x : ObjectAtStart). IsFixed us x.reference (Class STRING)) (sym same) (literal_fits us order sound room n within))

    object_fits : (r : ℕ) (x : Object) → fixed_of us r ≡ Some x → ObjectFits us r x
    object_fits r x e =
        let (f, found, same) = from_map fixed_header (fixed_at (map fixed_object (objects_at_start (program_names us) us)) r) x e in
        let row : IsInRow (objects_at_start (program_names us) us) r f = row_object (objects_at_start (program_names us) us) r f found in
        let (t, fixed) = fixed_known row.object (is_at_start row.place row.object row.there) in
        let one : fixed.object ≡ x = same_Some fixed.object x (sym fixed.there ∙ (ap (fixed_of us) (sym row.at) ∙ e)) in
        subst (λ n. ObjectFits us n x) (sym row.at) (subst (ObjectFits us row.object.reference) one fixed.fits)

    -- ---- words

    null_stands : (r i : ℕ) → MayStand us (fixed_of us) r i 0
    null_stands r i = (omega arith, λ x t at holds. inl refl)

    module _ (c : ℕ) (is : is_class_number (program_names us) c ≡ true) (u : ClassUnit) (k : ℕ) (class : c ≡ number_of_file k) (there : slice_get us k ≡ Some u) where
      fields_here : fields_of (classes_of us) c ≡ map (member_of_file u.file.pool) u.file.fields
      fields_here = ap (fields_of (classes_of us)) class ∙ fields_of_file us k u there

      -- the first word of a field of a type of objects is a reference of that type
      first_word : (place : ℕ) (f : NamedMember) (t : ObjectType) → IsFieldOf true (classes_of us) c place f → option_and_then (value_type (program_names us)) (field_kind f.descriptor) ≡ Some (values.Object t)
          → (w : ℕ) × (slice_get (class_words_of_unit (program_names us) u) (field_place (classes_of us) c place f) ≡ Some w) × IsReferenceWord us sound.units room k u there t w
      first_word place f t field typed =
          let (m, at, same) = from_map (member_of_file u.file.pool) (slice_get u.file.fields place) f (sym (slice_get-map (member_of_file u.file.pool) u.file.fields place) ∙ subst (λ xs. slice_get xs place ≡ Some f) fields_here field.there) in
          let words : first_words (program_names us) u.file.pool m ≡ constant_word (program_names us) u.file.pool (utf8_at u.file.pool m.descriptor) (first_constant u.file.pool m) ∷ [] =
          ap (λ b. cond b (two_words (constant_long (first_constant u.file.pool m))) (constant_word (program_names us) u.file.pool (utf8_at u.file.pool m.descriptor) (first_constant u.file.pool m) ∷ [])) (ap is_long same ∙ short (is_long f) refl many) in
          let one : length (first_words (program_names us) u.file.pool m) ≡ 1 = ap length words in
          let more : own_words true (take place (map (member_of_file u.file.pool) u.file.fields)) ≡ own_words true (take place (map (member_of_file u.file.pool) u.file.fields)) + 0 = omega arith in (
            constant_word (program_names us) u.file.pool (utf8_at u.file.pool m.descriptor) (first_constant u.file.pool m),
            ap (slice_get (class_words_of_unit (program_names us) u)) (place_is ∙ more)
                ∙ (words_at (program_names us) u.file.pool u.file.fields place 0 m at (subst (λ (x : NamedMember). has x.flags STATIC ≡ true) (sym same) field.kind) (omega (arith, one))
                ∙ ap (λ ws. slice_get ws 0) words),
            reference_at_start us sound.units room k u there place m t at (ap (λ (x : NamedMember). option_and_then (value_type (program_names us)) (field_kind x.descriptor)) same ∙ typed),
          )
        where
          place_is : field_place (classes_of us) c place f ≡ own_words true (take place (map (member_of_file u.file.pool) u.file.fields))
          place_is =
              ap (λ b. cond b (own_words true (take place (fields_of (classes_of us) c))) (instance_words (classes_of us) (superclass_of (classes_of us) c) + own_words false (take place (fields_of (classes_of us) c)))) field.kind
              ∙ ap (λ fs. own_words true (take place fs)) fields_here

          many : field_words f ≡ 1
          many = sym (contents_many us sound.units sound.linked.rules true c place f (values.Object t) field typed)

          short : (b : Bool) → is_long f ≡ b → ◌≡◌ {A = ℕ} (cond b 2 1) 1 → is_long f ≡ false
          short true long two = absurd (omega (arith, two))
          short false is_short one = is_short

      literal_there : (n : ℕ) → n < length (program_names us).strings → HasObject us (fixed_of us) (string_object (program_names us) n) (Class STRING)
      literal_there n within = let fixed : IsFixed us (string_object (program_names us) n) (Class STRING) = literal_fits us order sound room n within in record { object = fixed.object; there = fixed.there; fits = fixed.fits; stands = fixed.stands }

      class_word : (i : ℕ) (x : Object) (t : ObjectType) → fixed_of us (class_object (program_names us) c) ≡ Some x → WordHolds us (class_object (program_names us) c) x i (reference t)
          → (unwrap_or (slice_get (class_words_of_unit (program_names us) u) i) 0 ≡ 0) ⊎ HasObject us (fixed_of us) (unwrap_or (slice_get (class_words_of_unit (program_names us) u) i) 0) t
      class_word i x t at holds =
          let (fixed, header) = class_object_there us order sound room c is in
          let x_class : x.class ≡ CLASS = header_class us c x (same_Some x fixed.object (sym at ∙ fixed.there) ∙ header) in
          let (w, r_at) = class_object_word us order sound (class_object (program_names us) c) x i (reference t) x_class holds in
          let read : 28 < w.class = w.field.read in
          let some : c ≢ 0 = low_number us order sound c is in
          let same : c ≡ w.class = same_class (program_names us) c w.class (omega (arith, some)) (omega (arith, read)) r_at in
          let (type, part) = held_reference w.type w.part t w.held in
          let field : IsFieldOf true (classes_of us) c w.place w.member = subst (λ d. IsFieldOf true (classes_of us) d w.place w.member) (sym same) w.field in
          let (v, found, word) = first_word w.place w.member t field (w.typed ∙ ap (λ y. Some y) type) in
          let w_at : i ≡ field_place (classes_of us) w.class w.place w.member + w.part = w.at in
          let start : field_place (classes_of us) w.class w.place w.member ≡ field_place (classes_of us) c w.place w.member = ap (λ d. field_place (classes_of us) d w.place w.member) (sym same) in
          let place : i ≡ field_place (classes_of us) c w.place w.member = omega (arith, w_at, start, part) in
          by_word v (value_at (class_words_of_unit (program_names us) u) i (field_place (classes_of us) c w.place w.member) v place found) word
        where
          by_word : (v : ℕ) → unwrap_or (slice_get (class_words_of_unit (program_names us) u) i) 0 ≡ v → IsReferenceWord us sound.units room k u there t v
              → (unwrap_or (slice_get (class_words_of_unit (program_names us) u) i) 0 ≡ 0) ⊎ HasObject us (fixed_of us) (unwrap_or (slice_get (class_words_of_unit (program_names us) u) i) 0) t
          by_word v value (is_null null) = inl (value ∙ null)
          by_word v value (is_literal n within literal string) =
              inr (subst (λ a. HasObject us (fixed_of us) a t) (sym (value ∙ literal)) (subst (λ s. HasObject us (fixed_of us) (string_object (program_names us) n) s) (sym string) (literal_there n within)))

    class_words_stand : (c i : ℕ) → is_class_number (program_names us) c ≡ true → MayStand us (fixed_of us) (class_object (program_names us) c) i (unwrap_or (slice_get (option_map_or (class_words_of_unit (program_names us)) (unit_numbered us c) []) i) 0)
    class_words_stand c i is = by_unit (unit_numbered us c) refl
      where
        by_unit : (o : Option ClassUnit) → unit_numbered us c ≡ o → MayStand us (fixed_of us) (class_object (program_names us) c) i (unwrap_or (slice_get (option_map_or (class_words_of_unit (program_names us)) o []) i) 0)
        by_unit None none = null_stands (class_object (program_names us) c) i
        by_unit (Some u) e =
            let (k, class, there) = unit_found us c u e in
            (class_words_small us sound.units room k u there i, λ x t at holds. class_word c is u k class there i x t at holds)

    -- main's Thread has a priority, which is a number
    thread_words_stand : (i : ℕ) → MayStand us (fixed_of us) (main_thread_object (program_names us)) i (unwrap_or (slice_get (5 ∷ 0 ∷ 0 ∷ []) i) 0)
    thread_words_stand zero = (
      omega arith,
      λ x t at holds.
          let fixed : IsFixed us (main_thread_object (program_names us)) (Class THREAD) = main_thread_fits us order sound room in
          let same : fixed.object ≡ x = same_Some fixed.object x (sym fixed.there ∙ at) in
          let priority : WordHolds us (main_thread_object (program_names us)) x 0 number = subst (λ o. WordHolds us (main_thread_object (program_names us)) o 0 number) same (priority_there us order sound (main_thread_object (program_names us)) fixed.object fixed.fits fixed.stands).holds in
          absurd (no_reference t (one_content us order sound (main_thread_object (program_names us)) x 0 number (reference t) priority holds)),
    )
      where
        no_reference : (t : ObjectType) → number ≡ reference t → ⊥
        no_reference t e = cc
    thread_words_stand (suc zero) = null_stands (main_thread_object (program_names us)) 1
    thread_words_stand (suc (suc zero)) = null_stands (main_thread_object (program_names us)) 2
    thread_words_stand (suc (suc (suc i))) = null_stands (main_thread_object (program_names us)) (suc (suc (suc i)))

    literal_words_stand : (r i : ℕ) → MayStand us (fixed_of us) r i (unwrap_or (slice_get (0 ∷ []) i) 0)
    literal_words_stand r zero = null_stands r 0
    literal_words_stand r (suc i) = null_stands r (suc i)

    known_words : (o : ObjectAtStart) (i : ℕ) → IsAtStart us o → MayStand us (fixed_of us) o.reference i (unwrap_or (slice_get o.words i) 0)
    known_words o i (a_class c is same) = subst (λ (x : ObjectAtStart). MayStand us (fixed_of us) x.reference i (unwrap_or (slice_get x.words i) 0)) (sym same) (class_words_stand c i is)
    known_words o i (the_out same) = subst (λ (x : ObjectAtStart). MayStand us (fixed_of us) x.reference i (unwrap_or (slice_get x.words i) 0)) (sym same) (null_stands (system_out_object (program_names us)) i)
    known_words o i (the_thread same) = subst (λ (x : ObjectAtStart). MayStand us (fixed_of us) x.reference i (unwrap_or (slice_get x.words i) 0)) (sym same) (thread_words_stand i)
    known_words o i (the_arguments same) = subst (λ (x : ObjectAtStart). MayStand us (fixed_of us) x.reference i (unwrap_or (slice_get x.words i) 0)) (sym same) (null_stands (arguments_object (program_names us)) i)
    known_words o i (a_literal n within same) = subst (λ (x : ObjectAtStart). MayStand us (fixed_of us) x.reference i (unwrap_or (slice_get x.words i) 0)) (sym same) (literal_words_stand (string_object (program_names us) n) i)

    words_stand : (r i : ℕ) → MayStand us (fixed_of us) r i (fixed_word (fixed_at (map fixed_object (objects_at_start (program_names us) us)) r) i)
    words_stand r i = by_found (fixed_at (map fixed_object (objects_at_start (program_names us) us)) r) refl
      where
        by_found : (o : Option FixedObject) → fixed_at (map fixed_object (objects_at_start (program_names us) us)) r ≡ o → MayStand us (fixed_of us) r i (fixed_word o i)
        by_found None e = null_stands r i
        by_found (Some f) e =
            let row : IsInRow (objects_at_start (program_names us) us) r f = row_object (objects_at_start (program_names us) us) r f e in
            subst (λ (g : FixedObject). MayStand us (fixed_of us) r i (unwrap_or (slice_get g.words i) 0)) (sym row.same)
            (subst (λ n. MayStand us (fixed_of us) n i (unwrap_or (slice_get row.object.words i) 0)) (sym row.at) (known_words row.object i (is_at_start row.place row.object row.there)))

    -- ---- the first thread

    module _ (main : MethodId) (is : IsMain us main) where
      knows : Knows (runs us) us
      knows = runs_know us (classes_follow us order sound room)

      accepts : Accepted us
      accepts = accepted us order sound

      first_local : RunsLocal us (fixed_of us) (first_state us main)
      first_local = (
        (λ r o e. e),
        anything,
        first_fits (runs us) us knows accepts (λ me. rows_fit (runs us) us knows accepts) main is (record { objects = fixed_of us; fixed = λ r o e. e }),
        λ x. x,
      )

      one_thread : (t : ℕ) (l : Local) → cond (nat_eq t 1) (live (first_state us main)) unused ≡ live l → RunsLocal us (fixed_of us) l
      one_thread t l e = by_number (nat_eq t 1) e
        where
          same : (a b : Local) → live a ≡ live b → a ≡ b
          same a b e = cc

          by_number : (b : Bool) → cond b (live (first_state us main)) unused ≡ live l → RunsLocal us (fixed_of us) l
          by_number true is_live = subst (RunsLocal us (fixed_of us)) (same (first_state us main) l is_live) first_local
          by_number false none = cc

      pub start_fits : StateFits us (start_of_program us main)
      start_fits = record {
        objects = object_fits;
        words = words_stand;
        absent = no_words (Rattle.java_rows.specs.Start.opening_of us) (first_state us main);
        threads = one_thread;
      }

pub starts_fit : (us : List ClassUnit) (order : List ℕ) (main : MethodId) → IsSound us order → first_free (program_names us) ≤ 2 ^ 32 → IsMainMethod us main → StateFits us (start_of_program us main)
starts_fit us order main sound room is = start_fits us order sound room main (main_begins us order main sound is)
