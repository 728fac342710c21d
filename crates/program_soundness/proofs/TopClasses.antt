-- Built-in classes right below Object: no object is of two of them, and fields come after their words.
use Rattle.std.proofs.Common.{◌≡◌, ◌≢◌, ◌⊎◌, inl, inr, ◌<◌, ◌≤◌, ◌+◌, ℕ, true, false, List, length, Contains, refl, sym, subst, arith}
use Rattle.std.proofs.lemmas.Bool.{and_parts, ltb-true, leb-true}
use Rattle.std.specs.Prelude.{nat_le, nat_lt}
use Rattle.access_flags.specs.declared.TheConstants.{INTERFACE}
use Rattle.builtin_world.specs.Library.{library}
use Rattle.builtin_world.specs.declared.number.TheConstants.{OBJECT, CLASS, COUNT, PRINT_STREAM, STRING, STRING_BUILDER, THREAD, THROWABLE}
use Rattle.code_decode.specs.declared.code.ClassUnit.{ClassUnit}
use Rattle.link_types.specs.declared.operands.FieldOperand.{FieldOperand}
use Rattle.link_types.specs.declared.types.ElementType.{ElementType}
use Rattle.link_types.specs.declared.types.ObjectType.TheVariants.{Class, Array}
use Rattle.link_rules.specs.Classes.{class_has, classes_of, superclass_of}
use Rattle.link_rules.specs.Layout.{built_in_words, field_place}
use Rattle.link_rules.specs.Names.{program_names, type_numbered, is_class_number}
use Rattle.link_rules.specs.Supers.{superclasses}
use Rattle.link_rules.proofs.Lists.{contains_cases}
use Rattle.link_rules.proofs.Numbers.{class_count_is}
use Rattle.link_rules.proofs.Upward.{above_super, comparable, superclasses_step}
use Rattle.op_core.specs.OrdinaryState.{Object}
use Rattle.java_rows.specs.Program.{is_of_file, is_subclass}
use Rattle.row_soundness.specs.Knowledge.{IsField}
use Rattle.row_soundness.specs.Runs.{MayStandFor, ObjectFits, seen_type}
use Rattle.program_soundness.specs.SoundPrograms.{IsSound}
use Rattle.program_soundness.proofs.Hierarchy.{object_above}
use Rattle.program_soundness.proofs.BelowClasses.{IsBelowClass, is_below, stands_below, subclass_below}
use Rattle.program_soundness.proofs.ClassLaws.{goes_below, throwable_is_class}
use Rattle.program_soundness.proofs.ThreadLaws.{thread_is_class}
use Rattle.program_soundness.proofs.BuiltInWords.{string_is_class, builder_is_class, thread_super, throwable_super, string_super, builder_super}
use Rattle.program_soundness.proofs.FieldFacts.{no_interface}
use Rattle.program_soundness.proofs.FieldWords.{IsFieldHere, after_built_in, field_here, file_lower}
use Rattle.program_soundness.specs.Seen.{IsTypeBelow}

class_is_class : (us : List ClassUnit) → class_has (classes_of us) CLASS INTERFACE ≡ false
unfolding library
class_is_class us = refl

stream_is_class : (us : List ClassUnit) → class_has (classes_of us) PRINT_STREAM INTERFACE ≡ false
unfolding library
stream_is_class us = refl

stream_super : (us : List ClassUnit) → superclass_of (classes_of us) PRINT_STREAM ≡ OBJECT
unfolding library
stream_super us = refl

class_super : (us : List ClassUnit) → superclass_of (classes_of us) CLASS ≡ OBJECT
unfolding library
class_super us = refl

-- a built-in class right below Object
pub record IsTopClass (us : List ClassUnit) (k : ℕ) : Type 0 where
  pub class : class_has (classes_of us) k INTERFACE ≡ false
  pub low : 1 < k
  pub few : k ≤ 28
  pub super : superclass_of (classes_of us) k ≡ OBJECT

pub class_top : (us : List ClassUnit) → IsTopClass us CLASS
class_top us = record { class = class_is_class us; low = omega arith; few = omega arith; super = class_super us }

pub stream_top : (us : List ClassUnit) → IsTopClass us PRINT_STREAM
stream_top us = record { class = stream_is_class us; low = omega arith; few = omega arith; super = stream_super us }

pub thread_top : (us : List ClassUnit) → IsTopClass us THREAD
thread_top us = record { class = thread_is_class us; low = omega arith; few = omega arith; super = thread_super us }

pub throwable_top : (us : List ClassUnit) → IsTopClass us THROWABLE
throwable_top us = record { class = throwable_is_class us; low = omega arith; few = omega arith; super = throwable_super us }

pub string_top : (us : List ClassUnit) → IsTopClass us STRING
string_top us = record { class = string_is_class us; low = omega arith; few = omega arith; super = string_super us }

pub builder_top : (us : List ClassUnit) → IsTopClass us STRING_BUILDER
builder_top us = record { class = builder_is_class us; low = omega arith; few = omega arith; super = builder_super us }

module _ (us : List ClassUnit) (order : List ℕ) (sound : IsSound us order) where
  count : length (classes_of us) ≡ 28 + length us
  count = class_count_is us

  -- above a class right below Object are itself and Object
  right_below : (d e : ℕ) → IsTopClass us d → Contains (superclasses (classes_of us) d) e → (d ≡ e) ⊎ (e ≡ OBJECT)
  right_below d e top up =
      let low : 1 < d = top.low in
      let few : d ≤ 28 = top.few in
      elim (contains_cases d (superclasses (classes_of us) (superclass_of (classes_of us) d)) e (subst (λ xs. Contains xs e) (superclasses_step (classes_of us) order sound.linked.order d (λ z. omega (arith, z, low)) (omega (arith, few, count))) up)) [
        | inl same ↦ inl same
        | inr above ↦ inr (object_above us order sound.linked e (subst (λ c. Contains (superclasses (classes_of us) c) e) top.super above))
      ]

  -- no class is below two of them
  two_above : (c d e : ℕ) → c ≢ 0 → c ≤ length (classes_of us) → d ≢ e → IsTopClass us d → IsTopClass us e → Contains (superclasses (classes_of us) c) d → Contains (superclasses (classes_of us) c) e → ⊥
  two_above c d e some within other first second up above =
      let low : 1 < d = first.low in
      let low_too : 1 < e = second.low in
      elim (comparable (classes_of us) order sound.linked.order c some within d e up above) [
        | inl over ↦ elim (right_below d e first over) [ inl same ↦ other same | inr top ↦ omega (arith, top, low_too) ]
        | inr under ↦ elim (right_below e d second under) [ inl same ↦ other (sym same) | inr top ↦ omega (arith, top, low) ]
      ]

  throwable_below : (c : ℕ) → is_subclass us c THROWABLE ≡ true → IsBelowClass us order sound c THROWABLE
  throwable_below c is = subclass_below us order sound THROWABLE (throwable_is_class us) (λ e. omega (arith, e)) c (omega (arith, count)) is

  module _ (k : ℕ) (top : IsTopClass us k) where
    some : k ≢ 0
    some e = let low : 1 < k = top.low in omega (arith, e, low)

    no_object : k ≢ OBJECT
    no_object e = let low : 1 < k = top.low in omega (arith, e, low)

    within : k ≤ length (classes_of us)
    within = let few : k ≤ 28 = top.few in omega (arith, few, count)

    -- a class whose number is below
    pub number_below : (c : ℕ) → is_subclass us c k ≡ true → IsBelowClass us order sound c k
    number_below c is = subclass_below us order sound k top.class no_object c within is

    -- what may be used as one of it is below
    pub used_below : (c : ℕ) → is_class_number (program_names us) k ≡ true → is_class_number (program_names us) c ≡ true → MayStandFor us c (Class k) → is_subclass us c k ≡ true
    used_below c number is stands = is_below us order sound k top.class no_object c is number within stands

    -- and what may be used as one of another isn't
    pub apart : (d : ℕ) → IsTopClass us d → d ≢ k → (c : ℕ) → is_class_number (program_names us) c ≡ true → MayStandFor us c (Class d) → is_subclass us c k ≡ true → ⊥
    apart d other ne c is stands below =
        let low : 1 < d = other.low in
        let one : IsBelowClass us order sound c d = stands_below us order sound d other.class (λ e. omega (arith, e, low)) c is stands in
        let two : IsBelowClass us order sound c k = number_below c below in
        two_above c d k one.some one.within ne other top one.above two.above

    -- the numbers past all classes are those of arrays
    pub no_array_number : (c : ℕ) → length (classes_of us) < c → is_subclass us c k ≡ true → ⊥
    no_array_number c past is = let below : IsBelowClass us order sound c k = number_below c is in omega (arith, past, below.within)

    -- what may be used as an array isn't below
    pub no_array : (c n : ℕ) (x : ElementType) → MayStandFor us c (Array n x) → is_subclass us c k ≡ true → ⊥
    no_array c n x stands is =
        let below : IsBelowClass us order sound c k = number_below c is in
        let bad : goes_below us (Class c) (seen_type us (Array n x)) ≡ true = subst (λ t. goes_below us t (seen_type us (Array n x)) ≡ true) below.type stands in
        cc

    -- the type of a class that is below, and what is above a class of a file
    pub type_below : (c : ℕ) → is_subclass us c k ≡ true → IsTypeBelow us k (type_numbered (program_names us) c)
    type_below c is = let below : IsBelowClass us order sound c k = number_below c is in subst (λ t. IsTypeBelow us k t) (sym below.type) below.above

    pub super_below : (c : ℕ) → is_of_file us c ≡ true → IsTypeBelow us k (Class c) → IsTypeBelow us k (Class (superclass_of (classes_of us) c))
    super_below c file up =
        let parts = and_parts (nat_lt COUNT c) (nat_le c (length (classes_of us))) file in
        let past : COUNT < c = ltb-true COUNT c parts.0 in
        let few : k ≤ 28 = top.few in
        above_super (classes_of us) order sound.linked.order c k (λ e. omega (arith, e, past)) (leb-true c (length (classes_of us)) parts.1) up (λ e. omega (arith, e, past, few))

    -- Object and StringBuilder aren't below, and neither is what is below Throwable
    pub no_type_below : (c : ℕ) → k ≢ STRING_BUILDER → (c ≡ OBJECT) ⊎ (c ≡ STRING_BUILDER) → IsTypeBelow us k (Class c) → ⊥
    no_type_below c ne (inl same) up =
        let low : 1 < k = top.low in
        let above : k ≡ OBJECT = object_above us order sound.linked k (subst (λ x. Contains (superclasses (classes_of us) x) k) same up) in
        omega (arith, above, low)
    no_type_below c ne (inr same) up =
        let low : 1 < k = top.low in
        elim (right_below STRING_BUILDER k (builder_top us) (subst (λ x. Contains (superclasses (classes_of us) x) k) same up)) [
          | inl is ↦ ne (sym is)
          | inr above ↦ omega (arith, above, low)
        ]

    pub no_throwable_type : (c : ℕ) → k ≢ THROWABLE → is_subclass us c THROWABLE ≡ true → IsTypeBelow us k (Class c) → ⊥
    no_throwable_type c ne is up =
        let below : IsBelowClass us order sound c THROWABLE = throwable_below c is in
        two_above c THROWABLE k below.some below.within (λ e. ne (sym e)) (throwable_top us) top below.above up

    pub no_thrown : (c : ℕ) → k ≢ THROWABLE → is_subclass us c THROWABLE ≡ true → is_subclass us c k ≡ true → ⊥
    no_thrown c ne is other = let below : IsBelowClass us order sound c k = number_below c other in no_throwable_type c ne is below.above

    -- the fields of a class that is below come after its words
    pub field_after : (r : ℕ) (o : Object) (f : FieldOperand) → 1 ≤ built_in_words k → IsField us false f → ObjectFits us r o → MayStandFor us o.class (Class f.owner) → is_subclass us o.class k ≡ true → 1 ≤ f.place
    field_after r o f words is fits stands other =
        let here : IsFieldHere us order sound false f = field_here us order sound false f is in
        let read : 28 < f.owner = here.field.read in
        let below : IsBelowClass us order sound o.class f.owner = stands_below us order sound f.owner (no_interface us sound.units sound.linked.rules f.owner here.place here.member here.field) (λ e. omega (arith, e, read)) o.class fits.class stands in
        let own : IsBelowClass us order sound o.class k = number_below o.class other in
        let up : Contains (superclasses (classes_of us) f.owner) k = file_lower us order sound o.class f.owner k below.some below.within read some top.few below.above own.above in
        let after : built_in_words k ≤ field_place (classes_of us) f.owner here.place here.member = after_built_in us order sound f.owner k here.place here.member here.field some top.few up in
        omega (arith, after, here.at, words)
