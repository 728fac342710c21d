-- A word of an object holds one content.
use Rattle.std.proofs.Common.{◌≡◌, ◌≢◌, ◌⊎◌, inl, inr, ◌<◌, ◌≤◌, ◌+◌, ◌-◌, ◌==◌, ℕ, zero, suc, Bool, true, false, cond, Option, None, Some, List, length, slice_get, Contains, refl, sym, ap, subst, ◌∙◌, arith}
use Rattle.std.specs.Prelude.{option_and_then}
use Rattle.std.specs.Option.{option_map_or}
use Rattle.std.proofs.lemmas.Bool.{cases_eq, cases_order, eqb-true}
use Rattle.std.proofs.lemmas.Option.{none-some, same_Some}
use Rattle.builtin_world.specs.declared.number.TheConstants.{CLASS, OBJECT, RUNNABLE, STRING, STRING_BUILDER, THREAD, THROWABLE}
use Rattle.class_names.specs.Kinds.{field_kind}
use Rattle.code_decode.specs.declared.code.ClassUnit.{ClassUnit}
use Rattle.link_types.specs.declared.types.ElementType.{ElementType}
use Rattle.link_types.specs.declared.types.ObjectType.{ObjectType}
use Rattle.link_types.specs.declared.types.ObjectType.TheVariants.{Class, Array}
use Rattle.link_types.specs.declared.types.ValueType.{ValueType}
use Rattle.link_rules.specs.Classes.{NamedMember, classes_of, superclass_of}
use Rattle.link_rules.specs.FixedObjects.{class_object, class_object_size}
use Rattle.link_rules.specs.Layout.{built_in_words, field_place, field_words, static_words}
use Rattle.link_rules.specs.Laws.{IsFieldOf, LieApart}
use Rattle.link_rules.specs.Names.{ProgramNames, program_names, type_numbered, value_type}
use Rattle.link_rules.specs.Supers.{superclasses}
use Rattle.link_rules.proofs.Fields.{linked_objects_apart, statics_apart}
use Rattle.link_rules.proofs.Lists.{contains_cases, contains_none}
use Rattle.link_rules.proofs.Numbers.{class_count_is, past_super}
use Rattle.link_rules.proofs.Objects.{class_object_next}
use Rattle.link_rules.proofs.Upward.{comparable, superclasses_step, up_none}
use Rattle.link_rules.specs.Supers.{superclasses_within}
use Rattle.op_core.specs.OrdinaryState.{Object}
use Rattle.row_soundness.specs.Senses.{Content, number, reference}
use Rattle.row_soundness.specs.Texts.{char_array}
use Rattle.row_soundness.specs.Knowledge.{contents_of, element_type}
use Rattle.row_soundness.specs.Runs.{HoldsAt, WordHolds, of_field, of_static, of_references, of_numbers, of_priority, of_target, of_message, of_units, of_text}
use Rattle.program_soundness.specs.SoundPrograms.{IsSound}
use Rattle.program_soundness.proofs.ClassNumbers.{type_of_class}
use Rattle.program_soundness.proofs.Hierarchy.{object_above, some_class}
use Rattle.program_soundness.proofs.BelowClasses.{IsBelowClass, above_class_class, subclass_below}
use Rattle.program_soundness.proofs.ClassLaws.{throwable_is_class}
use Rattle.program_soundness.proofs.ThreadLaws.{thread_is_class, thread_words}
use Rattle.program_soundness.proofs.BuiltInWords.{builder_is_class, builder_super, builder_words, string_is_class, string_super, string_words, thread_super, throwable_super, throwable_words}
use Rattle.program_soundness.proofs.ElementWords.{class_no_array}
use Rattle.program_soundness.proofs.FieldFacts.{contents_many}
use Rattle.program_soundness.proofs.FieldWords.{after_built_in, file_lower, held_within}

-- ---- no two class objects are one

class_objects_rise : (p : ProgramNames) (c n : ℕ) → 0 < c → class_object p c < class_object p (suc (c + n))
class_objects_rise p zero n some = absurd (omega (arith, some))
class_objects_rise p (suc c) zero some =
    let next : class_object p (suc c) + class_object_size p.classes (suc c) ≡ class_object p (suc (suc c)) = class_object_next p c in
    let size : class_object_size p.classes (suc c) ≡ 2 + static_words p.classes (suc c) = refl in
    let same : suc (suc c + 0) ≡ suc (suc c) = omega arith in
    subst (λ k. class_object p (suc c) < class_object p k) (sym same) (omega (arith, next, size))
class_objects_rise p (suc c) (suc n) some =
    let before : class_object p (suc c) < class_object p (suc (suc c + n)) = class_objects_rise p (suc c) n some in
    let next : class_object p (suc (suc c + n)) + class_object_size p.classes (suc (suc c + n)) ≡ class_object p (suc (suc (suc c + n))) = class_object_next p (suc c + n) in
    let same : suc (suc c + suc n) ≡ suc (suc (suc c + n)) = omega arith in
    subst (λ k. class_object p (suc c) < class_object p k) (sym same) (omega (arith, before, next))

pub same_class : (p : ProgramNames) (c d : ℕ) → 0 < c → 0 < d → class_object p c ≡ class_object p d → c ≡ d
same_class p c d some other same = elim (cases_order c d) [
  | inl equal ↦ equal
  | inr h ↦ elim h [
    | inl less ↦ absurd (let rise = class_objects_rise p c (d - suc c) some in let there : suc (c + (d - suc c)) ≡ d = omega (arith, less) in let above : class_object p c < class_object p d = subst (λ k. class_object p c < class_object p k) there rise in omega (arith, above, same))
    | inr more ↦ absurd (let rise = class_objects_rise p d (c - suc d) other in let there : suc (d + (c - suc d)) ≡ c = omega (arith, more) in let above : class_object p d < class_object p c = subst (λ k. class_object p d < class_object p k) there rise in omega (arith, above, same))
  ]
]

-- ---- where a content comes from

-- what the words of built-in classes hold
abbrev built_in_word : ℕ → ℕ → Option Content
built_in_word d i =
    cond (d == THREAD) (cond (i == 0) (Some number) (cond (i == 2) (Some (reference (Class RUNNABLE))) None))
    (cond (d == THROWABLE) (cond (i == 0) (Some (reference (Class STRING))) None)
    (cond (d == STRING) (cond (i == 0) (Some (reference char_array)) None)
    (cond (d == STRING_BUILDER) (cond (i == 0) (Some (reference (Class STRING))) None) None)))

-- the content of the words of an array
abbrev element_content : ObjectType → Content
element_content t = option_map_or (λ x. reference x) (element_type t) number

module _ (us : List ClassUnit) (order : List ℕ) (sound : IsSound us order) (r : ℕ) (o : Object) where
  record IsArrayWord (k : Content) : Type 0 where
    dimensions : ℕ
    base : ElementType
    type : type_numbered (program_names us) o.class ≡ Array dimensions base
    content : k ≡ element_content (type_numbered (program_names us) o.class)

  pub record IsFieldWord (static : Bool) (i : ℕ) (k : Content) : Type 0 where
    pub class : ℕ
    pub place : ℕ
    pub part : ℕ
    pub member : NamedMember
    pub type : ValueType
    pub field : IsFieldOf static (classes_of us) class place member
    pub typed : option_and_then (value_type (program_names us)) (field_kind member.descriptor) ≡ Some type
    pub held : HoldsAt (contents_of type) part k
    pub at : i ≡ field_place (classes_of us) class place member + part

  record IsBuiltInWord (i : ℕ) (k : Content) : Type 0 where
    class : ℕ
    few : class ≤ 28
    many : 2 < class
    below : IsBelowClass us order sound o.class class
    super : superclass_of (classes_of us) class ≡ OBJECT
    inside : i < built_in_words class
    content : built_in_word class i ≡ Some k

  data Source (i : ℕ) (k : Content) : Type 0 where
    in_array : IsArrayWord k → Source i k
    in_class_object : (w : IsFieldWord true i k) → r ≡ class_object (program_names us) w.class → o.class ≡ CLASS → Source i k
    in_object : (w : IsFieldWord false i k) → Contains (superclasses (classes_of us) o.class) w.class → Source i k
    in_built_in : IsBuiltInWord i k → Source i k

  count : length (classes_of us) ≡ 28 + length us
  count = class_count_is us

  source : (i : ℕ) (k : Content) → WordHolds us r o i k → Source i k
  source _ _ (of_field c i j f t k up field typed held) = in_object (record { class = c; place = i; part = j; member = f; type = t; field = field; typed = typed; held = held; at = refl }) up
  source _ _ (of_static c i j f t k at class field typed held) = in_class_object (record { class = c; place = i; part = j; member = f; type = t; field = field; typed = typed; held = held; at = refl }) at class
  source _ _ (of_references i t at) = by_type (type_numbered (program_names us) o.class) refl
    where
      by_type : (s : ObjectType) → type_numbered (program_names us) o.class ≡ s → Source i (reference t)
      by_type (Array d x) same = in_array (record { dimensions = d; base = x; type = same; content = sym (ap (λ a. option_map_or (λ y. reference y) a number) at) })
      by_type s same = absurd (none-some t (ap element_type (sym same) ∙ at))
  source _ _ (of_numbers i at (d, x, type)) = in_array (record { dimensions = d; base = x; type = type; content = sym (ap (λ a. option_map_or (λ y. reference y) a number) at) })
  source _ _ (of_priority is) = in_built_in (record {
    class = THREAD;
    few = omega arith;
    many = omega arith;
    below = subclass_below us order sound THREAD (thread_is_class us) (λ e. omega (arith, e)) o.class (omega (arith, count)) is;
    super = thread_super us;
    inside = omega (arith, thread_words);
    content = refl;
  })
  source _ _ (of_target is) = in_built_in (record {
    class = THREAD;
    few = omega arith;
    many = omega arith;
    below = subclass_below us order sound THREAD (thread_is_class us) (λ e. omega (arith, e)) o.class (omega (arith, count)) is;
    super = thread_super us;
    inside = omega (arith, thread_words);
    content = refl;
  })
  source _ _ (of_message is) = in_built_in (record {
    class = THROWABLE;
    few = omega arith;
    many = omega arith;
    below = subclass_below us order sound THROWABLE (throwable_is_class us) (λ e. omega (arith, e)) o.class (omega (arith, count)) is;
    super = throwable_super us;
    inside = omega (arith, throwable_words);
    content = refl;
  })
  source _ _ (of_units is) = in_built_in (record {
    class = STRING;
    few = omega arith;
    many = omega arith;
    below = subclass_below us order sound STRING (string_is_class us) (λ e. omega (arith, e)) o.class (omega (arith, count)) is;
    super = string_super us;
    inside = omega (arith, string_words);
    content = refl;
  })
  source _ _ (of_text is) = in_built_in (record {
    class = STRING_BUILDER;
    few = omega arith;
    many = omega arith;
    below = subclass_below us order sound STRING_BUILDER (builder_is_class us) (λ e. omega (arith, e)) o.class (omega (arith, count)) is;
    super = builder_super us;
    inside = omega (arith, builder_words);
    content = refl;
  })

  -- ---- no two of them meet

  array_alone : {k : Content} → IsArrayWord k → o.class ≤ length (classes_of us) → ⊥
  array_alone w within = class_no_array o.class w.dimensions w.base (sym (type_of_class (program_names us) o.class within) ∙ w.type)

  class_within : o.class ≡ CLASS → o.class ≤ length (classes_of us)
  class_within same = omega (arith, same, count)

  -- above a number past all classes is nothing else
  field_within : (c : ℕ) → c ≤ length (classes_of us) → Contains (superclasses (classes_of us) o.class) c → o.class ≤ length (classes_of us)
  field_within c within up = elim (Rattle.std.proofs.lemmas.Bool.cases_lt (length (classes_of us)) o.class) [
    | inr small ↦ small
    | inl past ↦ absurd (by_number o.class past up (past_super (classes_of us) o.class past))
  ]
    where
      by_bound : (n m : ℕ) → length (classes_of us) < suc m → Contains (superclasses_within (classes_of us) n (suc m)) c → superclass_of (classes_of us) (suc m) ≡ 0 → ⊥
      by_bound zero m past h none = contains_none c h
      by_bound (suc n) m past h none = elim (contains_cases (suc m) (superclasses_within (classes_of us) n (superclass_of (classes_of us) (suc m))) c h) [
        | inl same ↦ omega (arith, same, past, within)
        | inr more ↦ contains_none c (subst (λ xs. Contains xs c) (up_none (classes_of us) n) (subst (λ s. Contains (superclasses_within (classes_of us) n s) c) none more))
      ]

      by_number : (m : ℕ) → length (classes_of us) < m → Contains (superclasses (classes_of us) m) c → superclass_of (classes_of us) m ≡ 0 → ⊥
      by_number zero past h none = omega (arith, past)
      by_number (suc m) past h none = by_bound (length (classes_of us)) m past h none

  -- the words of one field hold one content at each place
  one_field : (static : Bool) (i : ℕ) (k j : Content) (v : IsFieldWord static i k) (w : IsFieldWord static i j) → v.class ≡ w.class → v.place ≡ w.place → k ≡ j
  one_field static i k j v w class place = same_Some k j (sym v.held ∙ (ap (λ t. slice_get (contents_of t) v.part) type ∙ (ap (slice_get (contents_of w.type)) part ∙ w.held)))
    where
      member : v.member ≡ w.member
      member = same_Some v.member w.member (sym v.field.there ∙ (ap (λ c. slice_get (Rattle.link_rules.specs.Classes.fields_of (classes_of us) c) v.place) class ∙ (ap (slice_get (Rattle.link_rules.specs.Classes.fields_of (classes_of us) w.class)) place ∙ w.field.there)))

      type : v.type ≡ w.type
      type = same_Some v.type w.type (sym v.typed ∙ (ap (λ (m : NamedMember). option_and_then (value_type (program_names us)) (field_kind m.descriptor)) member ∙ w.typed))

      start : field_place (classes_of us) v.class v.place v.member ≡ field_place (classes_of us) w.class w.place w.member
      start = ap (λ c. field_place (classes_of us) c v.place v.member) class ∙ (ap (λ n. field_place (classes_of us) w.class n v.member) place ∙ ap (λ m. field_place (classes_of us) w.class w.place m) member)

      part : v.part ≡ w.part
      part = let one = v.at in let other = w.at in omega (arith, one, other, start)

  -- fields that lie apart have no word in common
  apart_fields : (static : Bool) (i : ℕ) (k j : Content) (v : IsFieldWord static i k) (w : IsFieldWord static i j) → LieApart (classes_of us) v.class v.place v.member w.class w.place w.member → ⊥
  apart_fields static i k j v w apart =
      let one : i ≡ field_place (classes_of us) v.class v.place v.member + v.part = v.at in
      let other : i ≡ field_place (classes_of us) w.class w.place w.member + w.part = w.at in
      let v_in : v.part < length (contents_of v.type) = held_within us order sound (contents_of v.type) v.part k v.held in
      let w_in : w.part < length (contents_of w.type) = held_within us order sound (contents_of w.type) w.part j w.held in
      let v_many : length (contents_of v.type) ≡ field_words v.member = contents_many us sound.units sound.linked.rules static v.class v.place v.member v.type v.field v.typed in
      let w_many : length (contents_of w.type) ≡ field_words w.member = contents_many us sound.units sound.linked.rules static w.class w.place w.member w.type w.field w.typed in
      elim apart [
        | inl before ↦ omega (arith, one, other, v_in, w_in, v_many, w_many, before)
        | inr after ↦ omega (arith, one, other, v_in, w_in, v_many, w_many, after)
      ]

  static_fields : (i : ℕ) (k j : Content) (v : IsFieldWord true i k) (w : IsFieldWord true i j) → r ≡ class_object (program_names us) v.class → r ≡ class_object (program_names us) w.class → k ≡ j
  static_fields i k j v w at there = elim (cases_eq v.place w.place) [
    | inl same ↦ one_field true i k j v w class same
    | inr other ↦ absurd (apart_fields true i k j v w (subst (λ c. LieApart (classes_of us) v.class v.place v.member c w.place w.member) class
        ((statics_apart (classes_of us)).apart v.class v.place w.place v.member w.member v.field (subst (λ c. IsFieldOf true (classes_of us) c w.place w.member) (sym class) w.field) other)))
  ]
    where
      class : v.class ≡ w.class
      class = let one = v.field.read in let other = w.field.read in same_class (program_names us) v.class w.class (omega (arith, one)) (omega (arith, other)) (sym at ∙ there)

  object_fields : (i : ℕ) (k j : Content) (v : IsFieldWord false i k) (w : IsFieldWord false i j) → Contains (superclasses (classes_of us) o.class) v.class → Contains (superclasses (classes_of us) o.class) w.class → k ≡ j
  object_fields i k j v w up there = elim (cases_eq v.class w.class) [
    | inl class ↦ elim (cases_eq v.place w.place) [ inl place ↦ one_field false i k j v w class place | inr other ↦ absurd (apart_fields false i k j v w (lie (inr other))) ]
    | inr other ↦ absurd (apart_fields false i k j v w (lie (inl other)))
  ]
    where
      lie : (v.class ≢ w.class) ⊎ (v.place ≢ w.place) → LieApart (classes_of us) v.class v.place v.member w.class w.place w.member
      lie differ = (linked_objects_apart us order sound.linked).apart o.class v.class w.class v.place w.place v.member w.member (some_class us order sound.linked o.class v.class up) (field_within v.class v.field.within up) up there v.field w.field differ

  -- a field of a class of a file comes after the words of a built-in class
  field_after : (i : ℕ) (k j : Content) (v : IsFieldWord false i k) (w : IsBuiltInWord i j) → Contains (superclasses (classes_of us) o.class) v.class → ⊥
  field_after i k j v w up =
      let read : 28 < v.class = v.field.read in
      let few : w.class ≤ 28 = w.few in
      let many : 2 < w.class = w.many in
      let above : Contains (superclasses (classes_of us) v.class) w.class = file_lower us order sound o.class v.class w.class w.below.some w.below.within read (λ e. omega (arith, e, many)) few up w.below.above in
      let after : built_in_words w.class ≤ field_place (classes_of us) v.class v.place v.member = after_built_in us order sound v.class w.class v.place v.member v.field (λ e. omega (arith, e, many)) few above in
      let at : i ≡ field_place (classes_of us) v.class v.place v.member + v.part = v.at in
      let inside : i < built_in_words w.class = w.inside in
      omega (arith, after, at, inside)

  -- of a class of a file there are no fields in class objects
  no_class_field : (c : ℕ) → 28 < c → o.class ≡ CLASS → Contains (superclasses (classes_of us) o.class) c → ⊥
  no_class_field c read class up =
      let top : c ≡ OBJECT = above_class_class us order sound c (subst (λ x. Contains (superclasses (classes_of us) x) c) class up) (λ e. omega (arith, e, read)) in
      omega (arith, top, read)

  no_class_word : (i : ℕ) (k : Content) (w : IsBuiltInWord i k) → o.class ≡ CLASS → ⊥
  no_class_word i k w class =
      let many : 2 < w.class = w.many in
      let top : w.class ≡ OBJECT = above_class_class us order sound w.class (subst (λ x. Contains (superclasses (classes_of us) x) w.class) class w.below.above) (λ e. omega (arith, e, many)) in
      omega (arith, top, many)

  -- no object has words of two built-in classes
  one_built_in : (i : ℕ) (k j : Content) (v : IsBuiltInWord i k) (w : IsBuiltInWord i j) → k ≡ j
  one_built_in i k j v w = same_Some k j (sym v.content ∙ (ap (λ d. built_in_word d i) class ∙ w.content))
    where
      lower : (d e : ℕ) → 2 < d → d ≤ 28 → 2 < e → superclass_of (classes_of us) d ≡ OBJECT → Contains (superclasses (classes_of us) d) e → d ≡ e
      lower d e many few other super up =
          elim (contains_cases d (superclasses (classes_of us) (superclass_of (classes_of us) d)) e (subst (λ xs. Contains xs e) (superclasses_step (classes_of us) order sound.linked.order d (λ z. omega (arith, z, many)) (omega (arith, few, count))) up)) [
            | inl same ↦ same
            | inr above ↦ absurd (let top : e ≡ OBJECT = object_above us order sound.linked e (subst (λ c. Contains (superclasses (classes_of us) c) e) super above) in omega (arith, top, other))
          ]

      class : v.class ≡ w.class
      class = elim (comparable (classes_of us) order sound.linked.order o.class v.below.some v.below.within v.class w.class v.below.above w.below.above) [
        | inl above ↦ lower v.class w.class v.many v.few w.many v.super above
        | inr below ↦ sym (lower w.class v.class w.many w.few v.many w.super below)
      ]

  one_source : (i : ℕ) (k j : Content) → Source i k → Source i j → k ≡ j
  one_source i k j (in_array v) (in_array w) = v.content ∙ sym w.content
  one_source i k j (in_array v) (in_class_object w at class) = absurd (array_alone v (class_within class))
  one_source i k j (in_array v) (in_object w up) = absurd (array_alone v (field_within w.class w.field.within up))
  one_source i k j (in_array v) (in_built_in w) = absurd (array_alone v w.below.within)
  one_source i k j (in_class_object v at class) (in_array w) = absurd (array_alone w (class_within class))
  one_source i k j (in_class_object v at class) (in_class_object w there _) = static_fields i k j v w at there
  one_source i k j (in_class_object v at class) (in_object w up) = absurd (no_class_field w.class w.field.read class up)
  one_source i k j (in_class_object v at class) (in_built_in w) = absurd (no_class_word i j w class)
  one_source i k j (in_object v up) (in_array w) = absurd (array_alone w (field_within v.class v.field.within up))
  one_source i k j (in_object v up) (in_class_object w at class) = absurd (no_class_field v.class v.field.read class up)
  one_source i k j (in_object v up) (in_object w there) = object_fields i k j v w up there
  one_source i k j (in_object v up) (in_built_in w) = absurd (field_after i k j v w up)
  one_source i k j (in_built_in v) (in_array w) = absurd (array_alone w v.below.within)
  one_source i k j (in_built_in v) (in_class_object w at class) = absurd (no_class_word i k v class)
  one_source i k j (in_built_in v) (in_object w up) = absurd (field_after i j k w v up)
  one_source i k j (in_built_in v) (in_built_in w) = one_built_in i k j v w

  pub one_content : (i : ℕ) (k j : Content) → WordHolds us r o i k → WordHolds us r o i j → k ≡ j
  one_content i k j first second = one_source i k j (source i k first) (source i j second)

  -- what a word of a class object holds is what a static field holds
  pub class_object_word : (i : ℕ) (k : Content) → o.class ≡ CLASS → WordHolds us r o i k → (w : IsFieldWord true i k) × (r ≡ class_object (program_names us) w.class)
  class_object_word i k class holds = by_source (source i k holds)
    where
      by_source : Source i k → (w : IsFieldWord true i k) × (r ≡ class_object (program_names us) w.class)
      by_source (in_class_object w at _) = (w, at)
      by_source (in_array w) = absurd (array_alone w (class_within class))
      by_source (in_object w up) = absurd (no_class_field w.class w.field.read class up)
      by_source (in_built_in w) = absurd (no_class_word i k w class)
