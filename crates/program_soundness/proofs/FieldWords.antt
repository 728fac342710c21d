-- The words of fields: in objects, and in class objects.
use Rattle.std.proofs.Common.{◌≡◌, ◌≢◌, inl, inr, ◌<◌, ◌≤◌, ◌+◌, ℕ, zero, suc, Bool, true, false, Some, List, [], ◌∷◌, length, Contains, refl, sym, ap, subst, ◌∙◌, arith}
use Rattle.std.specs.Prelude.{option_and_then}
use Rattle.std.specs.Option.{option_map_or}
use Rattle.builtin_world.specs.declared.number.TheConstants.{CLASS, OBJECT, THREAD}
use Rattle.access_flags.specs.declared.TheConstants.{STATIC}
use Rattle.access_flags.specs.Flags.{has}
use Rattle.class_names.specs.Kinds.{field_kind}
use Rattle.code_decode.specs.declared.code.ClassUnit.{ClassUnit}
use Rattle.link_types.specs.declared.operands.FieldOperand.{FieldOperand}
use Rattle.link_types.specs.declared.types.ObjectType.TheVariants.{Class}
use Rattle.link_types.specs.declared.types.ValueType.{ValueType}
use Rattle.link_rules.specs.Classes.{NamedMember, classes_of, superclass_of}
use Rattle.link_rules.specs.FixedObjects.{class_object}
use Rattle.link_rules.specs.Layout.{array_words, built_in_words, field_place, field_words, instance_words, is_stored, static_words}
use Rattle.link_rules.specs.Laws.{IsFieldOf}
use Rattle.link_rules.specs.Names.{program_names, value_type}
use Rattle.link_rules.specs.Supers.{superclasses}
use Rattle.link_rules.proofs.FieldUses.{class_within, other_is_read, stored}
use Rattle.link_rules.proofs.Fields.{library_stays, library_words_are, linked_objects_apart, linked_objects_grow, statics_apart}
use Rattle.link_rules.proofs.Lists.{contains_cases, contains_none}
use Rattle.link_rules.proofs.Looked.{field_fits}
use Rattle.link_rules.proofs.Numbers.{class_count_is, superclass_within}
use Rattle.link_rules.proofs.Upward.{above_super, comparable, of_all, superclasses_none, superclasses_step, up_none}
use Rattle.op_core.specs.OrdinaryState.{Object}
use Rattle.row_soundness.specs.Senses.{Content}
use Rattle.row_soundness.specs.Knowledge.{contents_of, IsField}
use Rattle.row_soundness.specs.Runs.{HoldsAt, IsThread, MayStandFor, ObjectFits, of_field, of_static}
use Rattle.row_soundness.specs.ClassesFollow.{HasEach, HasOne}
use Rattle.program_soundness.specs.SoundPrograms.{IsSound}
use Rattle.program_soundness.proofs.NamedMembers.{IsNamedField, field_at}
use Rattle.program_soundness.proofs.BelowClasses.{IsBelowClass, above_class_class, stands_below, subclass_below}
use Rattle.program_soundness.proofs.ThreadLaws.{thread_is_class, thread_words}
use Rattle.program_soundness.proofs.FieldFacts.{contents_many, no_interface}

module _ (us : List ClassUnit) (order : List ℕ) (sound : IsSound us order) where
  count : length (classes_of us) ≡ 28 + length us
  count = class_count_is us

  -- above a built-in class are built-in ones
  pub library_above : (c : ℕ) → c ≢ 0 → c ≤ length (classes_of us) → (d : ℕ) → c ≤ 28 → Contains (superclasses (classes_of us) c) d → d ≤ 28
  library_above = of_all (classes_of us) order sound.linked.order (λ c. (d : ℕ) → c ≤ 28 → Contains (superclasses (classes_of us) c) d → d ≤ 28)
      (λ c some within none d low up. elim (contains_cases c [] d (subst (λ xs. Contains xs d) (superclasses_none (classes_of us) order sound.linked.order c none some within) up)) [
        | inl same ↦ subst (λ x. x ≤ 28) same low
        | inr nothing ↦ absurd (contains_none d nothing)
      ])
      (λ c some within super later d low up. elim (contains_cases c (superclasses (classes_of us) (superclass_of (classes_of us) c)) d (subst (λ xs. Contains xs d) (superclasses_step (classes_of us) order sound.linked.order c some within) up)) [
        | inl same ↦ subst (λ x. x ≤ 28) same low
        | inr above ↦ later d (library_stays us c low) above
      ])

  -- the fields of a class of a file begin after the words of a built-in class above it
  pub after_built_in : (c d i : ℕ) (f : NamedMember) → IsFieldOf false (classes_of us) c i f → d ≢ 0 → d ≤ 28 → Contains (superclasses (classes_of us) c) d → built_in_words d ≤ field_place (classes_of us) c i f
  after_built_in c d i f field some low up =
      let read : 28 < c = field.read in
      let behind : instance_words (classes_of us) (superclass_of (classes_of us) c) ≤ field_place (classes_of us) c i f = (linked_objects_apart us order sound.linked).behind c i f field in
      let its : instance_words (classes_of us) d ≡ built_in_words d = library_words_are (classes_of us) order sound.linked.order (library_stays us) d some (omega (arith, count, low)) low in
      let above : Contains (superclasses (classes_of us) (superclass_of (classes_of us) c)) d = above_super (classes_of us) order sound.linked.order c d (λ e. omega (arith, e, read)) field.within up (λ e. omega (arith, e, read, low)) in
      let grow : instance_words (classes_of us) d ≤ instance_words (classes_of us) (superclass_of (classes_of us) c) = by_super (superclass_of (classes_of us) c) refl above in
      omega (arith, behind, its, grow)
    where
      by_super : (s : ℕ) → superclass_of (classes_of us) c ≡ s → Contains (superclasses (classes_of us) s) d → instance_words (classes_of us) d ≤ instance_words (classes_of us) s
      by_super zero same h = absurd (contains_none d (subst (λ xs. Contains xs d) (up_none (classes_of us) (length (classes_of us))) h))
      by_super (suc s) same h = linked_objects_grow us order sound.linked (suc s) d (λ e. omega (arith, e)) (subst (λ x. x ≤ length (classes_of us)) same (superclass_within (classes_of us) c)) h

  -- of two classes above one, a class of a file is the lower one
  pub file_lower : (e c d : ℕ) → e ≢ 0 → e ≤ length (classes_of us) → 28 < c → d ≢ 0 → d ≤ 28 → Contains (superclasses (classes_of us) e) c → Contains (superclasses (classes_of us) e) d → Contains (superclasses (classes_of us) c) d
  file_lower e c d some within read low_some low up another = elim (comparable (classes_of us) order sound.linked.order e some within c d up another) [
    | inl above ↦ above
    | inr below ↦ (let small : c ≤ 28 = library_above d low_some (omega (arith, count, low)) c low below in absurd (omega (arith, small, read)))
  ]

  -- ---- the words of one field

  module _ (r : ℕ) (o : Object) where
    each_word : (from : ℕ) (ks : List Content) (n : ℕ) (later : List Content) → ((j : ℕ) (k : Content) → HoldsAt ks j k → HasOne us r o (from + j) k)
        → ((j : ℕ) (k : Content) → HoldsAt later j k → HoldsAt ks (n + j) k) → HasEach us r o (from + n) later
    each_word from ks n [] each at = tt
    each_word from ks n (k ∷ later) each at =
        let place : n + 0 ≡ n = omega arith in
        let next : suc (from + n) ≡ from + suc n = omega arith in (
          subst (λ m. HasOne us r o (from + m) k) place (each (n + 0) k (at 0 k refl)),
          subst (λ m. HasEach us r o m later) (sym next) (each_word from ks (suc n) later each (λ j x there. let same : n + suc j ≡ suc n + j = omega arith in subst (λ m. HoldsAt ks m x) same (at (suc j) x there))),
        )

    pub all_words : (from : ℕ) (ks : List Content) → ((j : ℕ) (k : Content) → HoldsAt ks j k → HasOne us r o (from + j) k) → HasEach us r o from ks
    all_words from ks each =
        let place : from + 0 ≡ from = omega arith in
        subst (λ m. HasEach us r o m ks) place (each_word from ks 0 ks each (λ j k there. let same : j ≡ 0 + j = omega arith in subst (λ m. HoldsAt ks m k) same there))

  pub held_within : (ks : List Content) (j : ℕ) (k : Content) → HoldsAt ks j k → j < length ks
  held_within ks j k there = Rattle.std.proofs.lemmas.Option.slice_get_within ks j k there

  module _ (r : ℕ) (o : Object) (c i : ℕ) (f : NamedMember) (t : ValueType) (typed : option_and_then (value_type (program_names us)) (field_kind f.descriptor) ≡ Some t) where
    -- a field of objects
    pub object_words_there : IsFieldOf false (classes_of us) c i f → ObjectFits us r o → MayStandFor us o.class (Class c) → HasEach us r o (field_place (classes_of us) c i f) (contents_of t)
    object_words_there field fits stands = all_words r o (field_place (classes_of us) c i f) (contents_of t) each
      where
        read : 28 < c
        read = field.read

        is : IsBelowClass us order sound o.class c
        is = stands_below us order sound c (no_interface us sound.units sound.linked.rules c i f field) (λ e. omega (arith, e, read)) o.class fits.class stands

        no_class_object : o.class ≡ CLASS → ⊥
        no_class_object same =
            let top : c ≡ OBJECT = above_class_class us order sound c (subst (λ x. Contains (superclasses (classes_of us) x) c) same is.above) (λ e. omega (arith, e, read)) in
            omega (arith, top, read)

        words : o.words ≡ instance_words (classes_of us) o.class
        words = elim fits.words [
          | inl same ↦ same ∙ ap (λ x. option_map_or (λ name. array_words name o.length) x (instance_words (classes_of us) o.class)) is.plain
          | inr object ↦ absurd (no_class_object object.2)
        ]

        inside : field_place (classes_of us) c i f + field_words f ≤ instance_words (classes_of us) o.class
        inside = (linked_objects_apart us order sound.linked).inside o.class c i f is.some is.within is.above field

        behind_thread : IsThread us o.class ≡ true → 3 ≤ field_place (classes_of us) c i f
        behind_thread thread =
            let below : IsBelowClass us order sound o.class THREAD = subclass_below us order sound THREAD (thread_is_class us) (λ e. omega (arith, e)) o.class (omega (arith, count)) thread in
            let up : Contains (superclasses (classes_of us) c) THREAD = file_lower o.class c THREAD is.some is.within read (λ e. omega (arith, e)) (omega arith) is.above below.above in
            let after : built_in_words THREAD ≤ field_place (classes_of us) c i f = after_built_in c THREAD i f field (λ e. omega (arith, e)) (omega arith) up in
            omega (arith, after, thread_words)

        each : (j : ℕ) (k : Content) → HoldsAt (contents_of t) j k → HasOne us r o (field_place (classes_of us) c i f + j) k
        each j k there = record {
          holds = of_field c i j f t k is.above field typed there;
          within =
              let less : j < length (contents_of t) = held_within (contents_of t) j k there in
              let many : length (contents_of t) ≡ field_words f = contents_many us sound.units sound.linked.rules false c i f t field typed in
              omega (arith, less, many, inside, words);
          spared = λ thread e. let after = behind_thread thread in omega (arith, after, e);
        }

    -- a static field
    pub class_words_there : IsFieldOf true (classes_of us) c i f → r ≡ class_object (program_names us) c → o.class ≡ CLASS → o.words ≡ static_words (classes_of us) c → HasEach us r o (field_place (classes_of us) c i f) (contents_of t)
    class_words_there field at class words = all_words r o (field_place (classes_of us) c i f) (contents_of t) each
      where
        inside : field_place (classes_of us) c i f + field_words f ≤ static_words (classes_of us) c
        inside = (statics_apart (classes_of us)).inside c i f field

        no_thread : IsThread us o.class ≡ true → ⊥
        no_thread thread =
            let below : IsBelowClass us order sound o.class THREAD = subclass_below us order sound THREAD (thread_is_class us) (λ e. omega (arith, e)) o.class (omega (arith, count)) thread in
            let top : THREAD ≡ OBJECT = above_class_class us order sound THREAD (subst (λ x. Contains (superclasses (classes_of us) x) THREAD) class below.above) (λ e. omega (arith, e)) in
            omega (arith, top)

        each : (j : ℕ) (k : Content) → HoldsAt (contents_of t) j k → HasOne us r o (field_place (classes_of us) c i f + j) k
        each j k there = record {
          holds = of_static c i j f t k at class field typed there;
          within =
              let less : j < length (contents_of t) = held_within (contents_of t) j k there in
              let many : length (contents_of t) ≡ field_words f = contents_many us sound.units sound.linked.rules true c i f t field typed in
              omega (arith, less, many, inside, words);
          spared = λ thread e. absurd (no_thread thread);
        }

  -- ---- what an index of a pool names

  -- the field that an operand is
  pub record IsFieldHere (static : Bool) (f : FieldOperand) : Type 0 where
    pub place : ℕ
    pub member : NamedMember
    pub field : IsFieldOf static (classes_of us) f.owner place member
    pub typed : option_and_then (value_type (program_names us)) (field_kind member.descriptor) ≡ Some f.kind
    pub at : f.place ≡ field_place (classes_of us) f.owner place member

  pub field_here : (static : Bool) (f : FieldOperand) → IsField us static f → IsFieldHere static f
  field_here static f is =
      let of : IsNamedField us f = field_at us sound.units is.this is.index f is.stands in
      let found = (field_fits (classes_of us) of.reference of.declared of.found).found in
      let kind : has of.declared.member.flags STATIC ≡ static = sym (ap (λ (x : FieldOperand). x.is_static) of.same) ∙ is.kind in
      let here : IsFieldOf static (classes_of us) of.declared.class of.declared.place of.declared.member = record {
        read = other_is_read us of.declared.class of.declared.place of.declared.member of.read found.there;
        within = class_within (classes_of us) of.declared.class of.declared.place of.declared.member found.there;
        there = found.there;
        kind = subst (λ b. is_stored b of.declared.member ≡ true) kind (stored of.declared.member);
      } in
      subst (IsFieldHere static) (sym of.same) (record { place = of.declared.place; member = of.declared.member; field = here; typed = of.typed; at = refl })

  pub object_field_fits : (r : ℕ) (o : Object) (f : FieldOperand) → IsField us false f → ObjectFits us r o → MayStandFor us o.class (Class f.owner) → HasEach us r o f.place (contents_of f.kind)
  object_field_fits r o f is fits stands =
      let here : IsFieldHere false f = field_here false f is in
      subst (λ n. HasEach us r o n (contents_of f.kind)) (sym here.at) (object_words_there r o f.owner here.place here.member f.kind here.typed here.field fits stands)
