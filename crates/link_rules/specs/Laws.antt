-- What holds of linked programs.
use Rattle.std.specs.Prelude.{◌≡◌, ◌≢◌, ◌⊎◌, ◌↔◌, ℕ, ◌+◌, ◌<◌, ◌≤◌, Bool, true, false, None, Some, List, [], ◌∷◌, length, drop, slice_get, codes, Contains, IsSomeAnd}
use Rattle.std.specs.List.{last_or}
use Rattle.builtin_world.specs.declared.number.TheConstants.{COUNT, OBJECT, STRING_BUILDER, THROWABLE}
use Rattle.class_walk.specs.declared.class.Constant.TheVariants.{Str}
use Rattle.class_pool.specs.Pool.{Reference}
use Rattle.code_decode.specs.declared.code.ClassUnit.{ClassUnit}
use Rattle.link_types.specs.declared.operands.MethodId.{MethodId}
use Rattle.access_flags.specs.declared.TheConstants.{PRIVATE, STATIC, NATIVE, ABSTRACT}
use Rattle.access_flags.specs.Flags.{has}
use Rattle.link_rules.specs.Classes.{NamedClass, NamedMember, classes_of, class_number, class_numbered, number_of_file, superclass_of, fields_of, methods_of, utf8_at, is_array_name}
use Rattle.link_rules.specs.Supers.{IsAbove, superclasses, field_order, method_order, is_class_below}
use Rattle.link_rules.specs.Members.{Declared, is_virtual, is_initializer, holder}
use Rattle.link_rules.specs.Methods.{method_named, parameter_types, result_type, select_virtual}
use Rattle.link_rules.specs.Arrays.{arrays_always, array_names, arrays_of_unit}
use Rattle.link_rules.specs.Strings.{literal_text, string_texts}
use Rattle.link_rules.specs.Names.{ProgramNames, program_names, array_number, array_numbered, string_number, is_class_number, is_subclass}
use Rattle.link_rules.specs.Layout.{is_stored, field_words, field_place, instance_words, static_words}
use Rattle.link_rules.specs.FixedObjects.{ObjectAtStart}

-- the superclasses of a class are itself and those of its superclass, and the last of them is Object
pub record RunsUp (cs : List NamedClass) (c : ℕ) : Type 0 where
  pub step : superclasses cs c ≡ c ∷ superclasses cs (superclass_of cs c)
  pub last : last_or None (superclasses cs c) ≡ Some OBJECT

-- a selected method is declared by the class or a superclass, and is one of this name and descriptor that is neither
-- static nor private
pub record IsSelected (cs : List NamedClass) (c : ℕ) (r : Reference) (d : Declared) : Type 0 where
  pub above : Contains (superclasses cs c) d.class
  pub there : slice_get (methods_of cs d.class) d.place ≡ Some d.member
  pub name : d.member.name ≡ r.name
  pub descriptor : d.member.descriptor ≡ r.descriptor
  pub virtual : is_virtual d.member ≡ true

-- a static or another field of a class of a file
pub record IsFieldOf (static : Bool) (cs : List NamedClass) (c i : ℕ) (f : NamedMember) : Type 0 where
  pub read : COUNT < c
  pub within : c ≤ length cs
  pub there : slice_get (fields_of cs c) i ≡ Some f
  pub kind : is_stored static f ≡ true

-- the words of the first field end before those of the second begin
abbrev pub EndsBefore : List NamedClass → ℕ → ℕ → NamedMember → ℕ → ℕ → NamedMember → Type 0
EndsBefore cs c i f d j g = field_place cs c i f + field_words f ≤ field_place cs d j g

abbrev pub LieApart : List NamedClass → ℕ → ℕ → NamedMember → ℕ → ℕ → NamedMember → Type 0
LieApart cs c i f d j g = EndsBefore cs c i f d j g ⊎ EndsBefore cs d j g c i f

-- the words of a static field lie in the class object of its class, apart from those of the others
pub record StaticFieldsLieApart (cs : List NamedClass) : Type 0 where
  pub inside : (c i : ℕ) (f : NamedMember) → IsFieldOf true cs c i f → field_place cs c i f + field_words f ≤ static_words cs c
  pub apart : (c i j : ℕ) (f g : NamedMember) → IsFieldOf true cs c i f → IsFieldOf true cs c j g → i ≢ j → LieApart cs c i f c j g

-- the words of another field lie in each object of its class and of the classes below it, after the words of the
-- superclass's objects, and apart from those of the other fields
pub record ObjectFieldsLieApart (cs : List NamedClass) : Type 0 where
  pub behind : (c i : ℕ) (f : NamedMember) → IsFieldOf false cs c i f → instance_words cs (superclass_of cs c) ≤ field_place cs c i f
  pub inside : (e c i : ℕ) (f : NamedMember) → e ≢ 0 → e ≤ length cs → Contains (superclasses cs e) c → IsFieldOf false cs c i f
      → field_place cs c i f + field_words f ≤ instance_words cs e
  pub apart : (e c d i j : ℕ) (f g : NamedMember) → e ≢ 0 → e ≤ length cs → Contains (superclasses cs e) c → Contains (superclasses cs e) d
      → IsFieldOf false cs c i f → IsFieldOf false cs d j g → ((c ≢ d) ⊎ (i ≢ j)) → LieApart cs c i f d j g

-- an object of a class begins with the words of an object of its superclass
abbrev pub ObjectsGrow : List NamedClass → Type 0
ObjectsGrow cs = (c d : ℕ) → c ≢ 0 → c ≤ length cs → Contains (superclasses cs c) d → instance_words cs d ≤ instance_words cs c

-- objects lie one after the other, from a place up to another one: header, monitor and words
abbrev pub LieInARow : ℕ → List ObjectAtStart → ℕ → Type 0
LieInARow at [] end = at ≡ end
LieInARow at (o ∷ os) end = (o.reference ≡ at) × LieInARow (at + 2 + length o.words) os end

-- the method that initializes a class is a static one of a class of a file, isn't native, takes nothing and gives nothing
pub record InitializesClass (p : ProgramNames) (c : ℕ) (id : MethodId) : Type 0 where
  pub read : COUNT < c
  pub owner : id.class ≡ c
  pub method : NamedMember
  pub there : method_named p.classes id ≡ Some method
  pub name : method.name ≡ codes "<clinit>"
  pub static : has method.flags STATIC ≡ true
  pub native : has method.flags NATIVE ≡ false
  pub takes : parameter_types p method.descriptor ≡ []
  pub gives : result_type p method.descriptor ≡ None

-- a class is the one that its name gives
abbrev pub NamesHaveOneNumber : List NamedClass → Type 0
NamesHaveOneNumber cs = (c : ℕ) (k : NamedClass) → class_numbered cs c ≡ Some k → class_number cs k.name ≡ c

-- a member that look-up finds is declared by its class, and has the name and the descriptor of the reference
pub record IsFound (members : ℕ → List NamedMember) (r : Reference) (d : Declared) : Type 0 where
  pub there : slice_get (members d.class) d.place ≡ Some d.member
  pub name : d.member.name ≡ r.name
  pub descriptor : d.member.descriptor ≡ r.descriptor

pub record IsFoundField (cs : List NamedClass) (r : Reference) (d : Declared) : Type 0 where
  pub found : IsFound (fields_of cs) r d
  pub above : Contains (field_order cs (holder cs r)) d.class

pub record IsFoundMethod (cs : List NamedClass) (r : Reference) (d : Declared) : Type 0 where
  pub found : IsFound (methods_of cs) r d
  pub constructor : is_initializer r ≡ true → d.class ≡ holder cs r
  pub above : is_initializer r ≡ false → Contains (method_order cs (holder cs r)) d.class

-- the classes of the exceptions that the library has are Throwable or below it
abbrev pub ExceptionsAreThrowable : List NamedClass → Type 0
ExceptionsAreThrowable cs = (c : ℕ) → THROWABLE ≤ c → c < STRING_BUILDER → Contains (superclasses cs c) THROWABLE

-- the literal of each Str entry is found at its number
abbrev pub LiteralsAreThere : List ClassUnit → Type 0
LiteralsAreThere us =
    (k i at : ℕ) (u : ClassUnit) → slice_get us k ≡ Some u → slice_get u.file.pool i ≡ Some (Str at)
    → slice_get (string_texts us) (string_number (program_names us) (literal_text (utf8_at u.file.pool at))) ≡ Some (literal_text (utf8_at u.file.pool at))

-- an array class has a number, which is that of its descriptor
abbrev pub HasNumber : ProgramNames → List ℕ → Type 0
HasNumber p name = IsSomeAnd (array_number p name) (λ c. array_numbered p c ≡ Some name)

-- the array classes that instructions make, test or name as owners have numbers, and so have their elements that are
-- arrays, and those that each program has
pub record ArraysAreThere (us : List ClassUnit) : Type 0 where
  pub always : (name : List ℕ) → Contains arrays_always name → is_array_name name ≡ true → HasNumber (program_names us) name
  pub used : (k : ℕ) (u : ClassUnit) (name : List ℕ) → slice_get us k ≡ Some u → Contains (arrays_of_unit u) name → is_array_name name ≡ true → HasNumber (program_names us) name
  pub elements : (name : List ℕ) → Contains (array_names us) name → is_array_name (drop 1 name) ≡ true → HasNumber (program_names us) (drop 1 name)

-- a method that isn't abstract, of the name and the descriptor of this one
abbrev pub Implements : List NamedClass → NamedMember → MethodId → Type 0
Implements cs m id =
    IsSomeAnd (method_named cs id) (λ n. (has n.flags ABSTRACT ≡ false) × (n.name ≡ m.name) × (n.descriptor ≡ m.descriptor))

-- an object of a class of a file that isn't abstract has an implementation of each method of its class and its
-- superclasses that is neither static nor private
abbrev pub ObjectsSelectMethods : List ClassUnit → Type 0
ObjectsSelectMethods us =
    (k : ℕ) (u : ClassUnit) (id : MethodId) (m : NamedMember)
    → slice_get us k ≡ Some u → has u.file.flags ABSTRACT ≡ false
    → Contains (superclasses (classes_of us) (number_of_file k)) id.class → method_named (classes_of us) id ≡ Some m → is_virtual m ≡ true
    → IsSomeAnd (select_virtual (program_names us) (number_of_file k) id) (Implements (classes_of us) m)

-- and of each abstract method of its class and all above it
abbrev pub ObjectsHaveMethods : List ClassUnit → Type 0
ObjectsHaveMethods us =
    (k : ℕ) (u : ClassUnit) (id : MethodId) (m : NamedMember)
    → slice_get us k ≡ Some u → has u.file.flags ABSTRACT ≡ false
    → Contains (method_order (classes_of us) (number_of_file k)) id.class → method_named (classes_of us) id ≡ Some m
    → has m.flags ABSTRACT ≡ true → has m.flags PRIVATE ≡ false
    → IsSomeAnd (select_virtual (program_names us) (number_of_file k) id) (Implements (classes_of us) m)

-- A class is below itself and below Object, and below what the classes that it is below are below.
pub record ClassesAreOrdered (cs : List NamedClass) : Type 0 where
  pub itself : (c : ℕ) → c ≢ 0 → c ≤ length cs → is_class_below cs c c ≡ true
  pub top : (c : ℕ) → is_class_below cs c OBJECT ≡ true
  pub upward : (c d e : ℕ) → c ≢ 0 → c ≤ length cs → d ≢ 0 → d ≤ length cs → e ≢ 0 → is_class_below cs c d ≡ true → is_class_below cs d e ≡ true → is_class_below cs c e ≡ true

-- a class is below another one exactly where that is Object, the class, or above it
abbrev pub BelowMeansAbove : List NamedClass → Type 0
BelowMeansAbove cs = (c d : ℕ) → c ≢ 0 → c ≤ length cs → d ≢ 0 → (is_class_below cs c d ≡ true) ↔ ((d ≡ OBJECT) ⊎ ((c ≡ d) ⊎ IsAbove cs c d))

-- Each class and array class passes instanceof of itself and of Object, and of what those pass that it passes.
pub record SubclassesAreOrdered (p : ProgramNames) : Type 0 where
  pub itself : (c : ℕ) → is_class_number p c ≡ true → is_subclass p c c ≡ true
  pub top : (c : ℕ) → is_class_number p c ≡ true → is_subclass p c OBJECT ≡ true
  pub upward : (c d e : ℕ) → is_subclass p c d ≡ true → is_subclass p d e ≡ true → is_subclass p c e ≡ true
