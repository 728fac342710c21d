-- What is known in runs: the objects that there are.
use Rattle.std.specs.Prelude.{◌≡◌, ◌≢◌, ◌⊎◌, ◌<◌, ◌≤◌, ◌+◌, ◌^◌, ℕ, Bool, true, false, None, Some, List, length, Contains, option_map, option_and_then, if◌then◌else◌}
use Rattle.builtin_world.specs.declared.number.TheConstants.{OBJECT, CLASS, THREAD, THROWABLE, RUNNABLE, STRING, STRING_BUILDER}
use Rattle.builtin_world.specs.declared.word.TheConstants.{STRING_UNITS, BUILDER_TEXT, THREAD_PRIORITY, THREAD_TARGET, THROWABLE_MESSAGE}
use Rattle.class_names.specs.Kinds.{field_kind}
use Rattle.code_decode.specs.declared.code.ClassUnit.{ClassUnit}
use Rattle.link_types.specs.declared.types.ElementType.{ElementType}
use Rattle.link_types.specs.declared.types.ObjectType.{ObjectType}
use Rattle.link_types.specs.declared.types.ObjectType.TheVariants.{Class, Other, Array}
use Rattle.link_types.specs.declared.types.ValueType.{ValueType}
use Rattle.link_types.specs.Subtypes.{is_object_below}
use Rattle.link_rules.specs.Classes.{NamedMember, classes_of}
use Rattle.link_rules.specs.Supers.{superclasses, is_class_below}
use Rattle.link_rules.specs.FixedObjects.{class_object}
use Rattle.link_rules.specs.Layout.{field_place, object_words, static_words}
use Rattle.link_rules.specs.Laws.{IsFieldOf}
use Rattle.link_rules.specs.Names.{program_names, type_numbered, is_class_number, value_type}
use Rattle.op_core.specs.declared.Op.{Op}
use Rattle.op_core.specs.declared.Op.TheVariants.{ClassOf, Read, Write, New, Enter, Exit, Wait, Rewake, Notify, Print, Start, Join, Init, InitDone, End}
use Rattle.op_core.specs.OrdinaryState.{Object}
use Rattle.fixed_objects.specs.Fixed.{fixed_header, fixed_at}
use Rattle.java_rows.specs.Start.{opening_of}
use Rattle.type_rules.specs.Environments.{hierarchy_of}
use Rattle.java_rows.specs.Program.{is_subclass, is_of_file}
use Rattle.java_rows.specs.Thread.{Local}
use Rattle.row_soundness.specs.Senses.{Content, number, reference, Sense, PlainSteps}
use Rattle.row_soundness.specs.Fits.{Preceding, LocalFits, IsTheEnd}
use Rattle.row_soundness.specs.Knowledge.{contents_of, element_type, CanBeMade}
use Rattle.row_soundness.specs.Texts.{char_array}
use Rattle.kept_states.specs.Kept.{Objects, Extends, IsObject, IsTrueReply}
use Rattle.link_types.specs.declared.types.ElementType.TheVariants as elements

-- ---- types: an interface means some object, so it is taken as Object

abbrev pub seen_class : List ClassUnit → ℕ → ℕ
seen_class us c = if (hierarchy_of (classes_of us)).is_interface c then OBJECT else c

abbrev pub seen_element : List ClassUnit → ElementType → ElementType
seen_element us (elements.Class c) = elements.Class (seen_class us c)
seen_element us x = x

abbrev pub seen_type : List ClassUnit → ObjectType → ObjectType
seen_type us (Class c) = Class (seen_class us c)
seen_type us (Other m) = Other m
seen_type us (Array n x) = Array n (seen_element us x)

-- an object of the class may be used where the type is wanted
abbrev pub MayStandFor : List ClassUnit → ℕ → ObjectType → Type 0
MayStandFor us c t = is_object_below (is_class_below (classes_of us)) (type_numbered (program_names us) c) (seen_type us t) ≡ true

-- ---- objects

-- a new object has the words of its class and length, and a class object its static fields
pub record ObjectFits (us : List ClassUnit) (r : ℕ) (o : Object) : Type 0 where
  pub some : 0 < r
  pub small : r < 2 ^ 32
  pub class : is_class_number (program_names us) o.class ≡ true
  pub length : o.length < 2 ^ 31
  pub few : o.words ≤ 2 ^ 32
  pub words : (o.words ≡ object_words (program_names us) o.class o.length)
      ⊎ ((c : ℕ) × (r ≡ class_object (program_names us) c) × (o.class ≡ CLASS) × (o.words ≡ static_words (classes_of us) c))

-- the word at a place of a field's words holds this
abbrev pub HoldsAt : List Content → ℕ → Content → Type 0
HoldsAt ks j k = Rattle.std.specs.Prelude.slice_get ks j ≡ Some k

-- what a word of an object holds
pub data WordHolds (us : List ClassUnit) (r : ℕ) (o : Object) : ℕ → Content → Type 0 where
  of_field : (c i j : ℕ) (f : NamedMember) (t : ValueType) (k : Content) → Contains (superclasses (classes_of us) o.class) c → IsFieldOf false (classes_of us) c i f
      → option_and_then (value_type (program_names us)) (field_kind f.descriptor) ≡ Some t → HoldsAt (contents_of t) j k → WordHolds us r o (field_place (classes_of us) c i f + j) k
  of_static : (c i j : ℕ) (f : NamedMember) (t : ValueType) (k : Content) → r ≡ class_object (program_names us) c → o.class ≡ CLASS → IsFieldOf true (classes_of us) c i f
      → option_and_then (value_type (program_names us)) (field_kind f.descriptor) ≡ Some t → HoldsAt (contents_of t) j k → WordHolds us r o (field_place (classes_of us) c i f + j) k
  of_references : (i : ℕ) (t : ObjectType) → element_type (type_numbered (program_names us) o.class) ≡ Some t → WordHolds us r o i (reference t)
  of_numbers : (i : ℕ) → element_type (type_numbered (program_names us) o.class) ≡ None → (n : ℕ) × (x : ElementType) × (type_numbered (program_names us) o.class ≡ Array n x) → WordHolds us r o i number
  of_priority : is_subclass us o.class THREAD ≡ true → WordHolds us r o THREAD_PRIORITY number
  of_target : is_subclass us o.class THREAD ≡ true → WordHolds us r o THREAD_TARGET (reference (Class RUNNABLE))
  of_message : is_subclass us o.class THROWABLE ≡ true → WordHolds us r o THROWABLE_MESSAGE (reference (Class STRING))
  of_units : is_subclass us o.class STRING ≡ true → WordHolds us r o STRING_UNITS (reference char_array)
  of_text : is_subclass us o.class STRING_BUILDER ≡ true → WordHolds us r o BUILDER_TEXT (reference (Class STRING))

pub record HasObject (us : List ClassUnit) (h : Objects) (r : ℕ) (t : ObjectType) : Type 0 where
  pub object : Object
  pub there : h r ≡ Some object
  pub fits : ObjectFits us r object
  pub stands : MayStandFor us object.class t

abbrev pub IsThread : List ClassUnit → ℕ → Bool
IsThread us c = is_subclass us c THREAD

-- a word of an object that is there; no start word of a Thread
pub record HasWordFor (us : List ClassUnit) (h : Objects) (r i : ℕ) (k : Content) : Type 0 where
  pub object : Object
  pub there : h r ≡ Some object
  pub fits : ObjectFits us r object
  pub holds : WordHolds us r object i k
  pub within : i < object.words
  pub spared : IsThread us object.class ≡ true → i ≢ 1

-- a word may be at a place: where references of a type are held there, it is null or an object of that type
abbrev pub MayStand : List ClassUnit → Objects → ℕ → ℕ → ℕ → Type 0
MayStand us h r i v =
    (v < 2 ^ 32) × ((o : Object) (t : ObjectType) → h r ≡ Some o → WordHolds us r o i (reference t) → (v ≡ 0) ⊎ HasObject us h v t)

pub record HasAny (us : List ClassUnit) (h : Objects) (r : ℕ) : Type 0 where
  pub object : Object
  pub there : h r ≡ Some object
  pub fits : ObjectFits us r object

pub record IsThrownAt (us : List ClassUnit) (h : Objects) (r c : ℕ) : Type 0 where
  pub object : Object
  pub there : h r ≡ Some object
  pub fits : ObjectFits us r object
  pub class : object.class ≡ c
  pub can : is_subclass us c THROWABLE ≡ true

abbrev pub RunsWant : List ClassUnit → Objects → Op → Type 0
RunsWant us h (ClassOf r) = HasAny us h r
RunsWant us h (Read r i) = (k : Content) × HasWordFor us h r i k
RunsWant us h (Write r i v) = (k : Content) × HasWordFor us h r i k × MayStand us h r i v
RunsWant us h (New c n) = CanBeMade us c n
RunsWant us h (Enter r) = HasAny us h r
RunsWant us h (Exit r) = HasAny us h r
RunsWant us h (Wait r) = HasAny us h r
RunsWant us h (Rewake r) = HasAny us h r
RunsWant us h (Notify r) = HasAny us h r
RunsWant us h (Print line) = Unit {0}
RunsWant us h (Start r p) = HasObject us h r (Class THREAD) × (p < 2 ^ 8)
RunsWant us h (Join r) = HasObject us h r (Class THREAD)
RunsWant us h (Init c) = is_of_file us c ≡ true
RunsWant us h (InitDone c ok) = is_of_file us c ≡ true
RunsWant us h (End x) = Unit {0}

-- the fixed objects of a program
abbrev pub fixed_of : List ClassUnit → Objects
fixed_of us = λ r. option_map fixed_header (fixed_at (opening_of us).objects r)

-- objects among which are the fixed ones
pub record Known (us : List ClassUnit) : Type 0 where
  pub objects : Objects
  pub fixed : Extends (fixed_of us) objects

abbrev pub runs : (us : List ClassUnit) → Sense (Known us)
runs us = record {
  extends = λ h h'. Extends h.objects h'.objects;
  exact = Unit {0};
  is_priority = λ p. p < 2 ^ 32;
  is_there = λ h r. HasAny us h.objects r;
  is_raw = λ h r t. HasObject us h.objects r t;
  is_of = λ h r t. HasObject us h.objects r t;
  is_exactly = λ h r c n. IsObject (ObjectFits us) h.objects r c n;
  is_thrown = λ h r c. IsThrownAt us h.objects r c;
  has_word = λ h r i k. HasWordFor us h.objects r i k;
  is_text = λ h r. HasObject us h.objects r char_array;
  may_want = λ h op. RunsWant us h.objects op;
  may_come = λ h op reply. IsTrueReply (ObjectFits us) (MayStand us) h.objects op reply;
  steps = PlainSteps (λ h h'. Extends h.objects h'.objects) (λ h op. RunsWant us h.objects op) (λ h op reply. IsTrueReply (ObjectFits us) (MayStand us) h.objects op reply);
}

-- ---- local states of live threads

abbrev pub RunsLocal : List ClassUnit → Objects → Local → Type 0
RunsLocal us h l =
    (fixed : Extends (fixed_of us) h) × (b : Preceding) × LocalFits (runs us) us b (record { objects = h; fixed = fixed }) l × (IsTheEnd b → ⊥)
