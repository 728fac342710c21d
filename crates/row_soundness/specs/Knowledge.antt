-- What the rows need to know of objects, of their words and of replies.
use Rattle.std.specs.Prelude.{◌≡◌, ◌⊎◌, ◌<◌, ◌≤◌, ◌^◌, ◌*◌, ◌%◌, ℕ, suc, Bool, true, false, Option, None, Some, List, [], ◌∷◌, length}
use Rattle.access_flags.specs.declared.TheConstants.{PRIVATE}
use Rattle.builtin_world.specs.declared.number.TheConstants.{OBJECT, THROWABLE, THREAD, CLASS, STRING, STRING_BUILDER, PRINT_STREAM, RUNNABLE}
use Rattle.builtin_world.specs.declared.word.TheConstants.{STRING_UNITS, BUILDER_TEXT, THREAD_PRIORITY, THREAD_TARGET, THROWABLE_MESSAGE}
use Rattle.builtin_world.specs.Laws.{is_throwable}
use Rattle.code_decode.specs.declared.code.ClassUnit.{ClassUnit}
use Rattle.link_types.specs.declared.operands.MethodId.{MethodId}
use Rattle.link_types.specs.declared.operands.FieldOperand.{FieldOperand}
use Rattle.link_types.specs.declared.types.ObjectType.{ObjectType}
use Rattle.link_types.specs.declared.types.ObjectType.TheVariants.{Class, Array}
use Rattle.link_types.specs.declared.types.ValueType.{ValueType}
use Rattle.link_rules.specs.Classes.{classes_of, superclass_of}
use Rattle.link_rules.specs.FixedObjects.{class_object, system_out_object, string_object, arguments_object, main_thread_object}
use Rattle.link_rules.specs.Names.{program_names, type_numbered, is_class_number}
use Rattle.op_core.specs.declared.Op.{Op}
use Rattle.op_core.specs.declared.Op.TheVariants.{ClassOf, Read, Write, New, Enter, Exit, Wait, Rewake, Notify, Print, Start, Join, Init, InitDone, End}
use Rattle.op_core.specs.declared.Line.{Line}
use Rattle.op_core.specs.declared.Reply.{Reply}
use Rattle.op_core.specs.Replies.{Fits}
use Rattle.type_rules.specs.Assignable.{is_object_assignable}
use Rattle.type_rules.specs.Environments.{hierarchy_of}
use Rattle.instructions.specs.declared.operation.ElementKind.{ElementKind}
use Rattle.type_rules.specs.declared.types.VerificationType.{VerificationType}
use Rattle.type_rules.specs.declared.types.VerificationType.TheVariants.{Object}
use Rattle.type_rules.specs.FrameAfter.{element_of}
use Rattle.type_rules.specs.Wants.{element_types, is_array_of_one, is_array_of_references}
use Rattle.java_rows.specs.Program.{is_subclass, is_of_file, method_has, select, takes_element}
use Rattle.row_soundness.specs.Senses.{Content, number, reference, Sense, WordFits}
use Rattle.row_soundness.specs.Texts.{char_array, AreWords}
use Rattle.row_soundness.specs.Fits.{Returns, Preceding, Follows, PlanFits, after_reply, anything, making_of}
use Rattle.java_rows.specs.Plan.{Plan, want}
use Rattle.java_rows.specs.Texts.{makes_array}
use Rattle.link_types.specs.declared.operands.Operand.TheVariants as operands
use Rattle.link_types.specs.declared.types.ElementType.TheVariants as element_types_
use Rattle.link_types.specs.declared.types.ValueType.TheVariants as values
use Rattle.op_core.specs.declared.Line.TheVariants as lines
use Rattle.op_core.specs.declared.Reply.TheVariants as replies
use Rattle.instructions.specs.declared.operation.ElementKind.TheVariants as elements

-- what the words of a value hold, the low half of a long first
abbrev pub contents_of : ValueType → List Content
contents_of values.Long = number ∷ number ∷ []
contents_of (values.Object t) = reference t ∷ []
contents_of _ = number ∷ []

-- an object has words that hold this, from a place on
abbrev pub HasWords : {P : Type 0} → Sense P → P → ℕ → ℕ → List Content → Type 0
HasWords know h r i [] = Unit {0}
HasWords know h r i (k ∷ ks) = know.has_word h r i k × HasWords know h r (suc i) ks

-- a line of a String that the program made names its array
abbrev pub LineFits : {P : Type 0} → Sense P → P → Line → Type 0
LineFits know h (lines.Made r) = know.is_text h r
LineFits know h line = Unit {0}

-- a new object may have this class and this length
pub record CanBeMade (us : List ClassUnit) (c n : ℕ) : Type 0 where
  pub class : is_class_number (program_names us) c ≡ true
  pub length : n < 2 ^ 31

-- a field that some index of the constant pool of a class names
pub record IsField (us : List ClassUnit) (static : Bool) (f : FieldOperand) : Type 0 where
  pub this : ℕ
  pub index : ℕ
  pub stands : Rattle.link_rules.specs.Operands.operand us this index ≡ operands.Field f
  pub kind : f.is_static ≡ static

-- the type of the elements of arrays of references
abbrev pub element_reference : VerificationType → Option ObjectType
element_reference (Object t) = Some t
element_reference _ = None

abbrev pub element_type : ObjectType → Option ObjectType
element_type t = element_reference (element_of (Object t))

-- the words of an element that is a number
abbrev pub element_contents : ElementKind → List Content
element_contents elements.Long = number ∷ number ∷ []
element_contents _ = number ∷ []

abbrev pub element_place : ElementKind → ℕ → ℕ
element_place elements.Long i = 2 * i
element_place _ i = i

abbrev pub IsNumeric : ElementKind → Type 0
IsNumeric elements.Reference = ⊥
IsNumeric _ = Unit {0}

-- what is read of an array of class c, seen as of type s, whose elements are of type e, and what may be stored there
pub record AreElements {P : Type 0} (know : Sense P) (us : List ClassUnit) (h : P) (c : ℕ) (s e : ObjectType) : Type 0 where
  pub up : (h' : P) (v : ℕ) (x : ObjectType) → know.extends h h' → element_type s ≡ Some x → know.is_of h' v e → know.is_of h' v x
  pub stored : (h' : P) (v d n : ℕ) → know.extends h h' → know.is_of h' v (Class OBJECT) → know.is_exactly h' v d n → takes_element us c d ≡ true → know.is_of h' v e

pub record Knows {P : Type 0} (know : Sense P) (us : List ClassUnit) : Type 0 where
  -- knowledge grows
  pub itself : (h : P) → know.extends h h
  pub both : (h h' h'' : P) → know.extends h h' → know.extends h' h'' → know.extends h h''
  pub there_more : (h h' : P) (r : ℕ) → know.extends h h' → know.is_there h r → know.is_there h' r
  pub raw_more : (h h' : P) (r : ℕ) (t : ObjectType) → know.extends h h' → know.is_raw h r t → know.is_raw h' r t
  pub of_more : (h h' : P) (r : ℕ) (t : ObjectType) → know.extends h h' → know.is_of h r t → know.is_of h' r t
  pub exactly_more : (h h' : P) (r c n : ℕ) → know.extends h h' → know.is_exactly h r c n → know.is_exactly h' r c n
  pub thrown_more : (h h' : P) (r c : ℕ) → know.extends h h' → know.is_thrown h r c → know.is_thrown h' r c
  pub word_more : (h h' : P) (r i : ℕ) (k : Content) → know.extends h h' → know.has_word h r i k → know.has_word h' r i k
  pub text_more : (h h' : P) (r : ℕ) → know.extends h h' → know.is_text h r → know.is_text h' r
  pub want_more : (h h' : P) (op : Op) → know.extends h h' → know.may_want h op → know.may_want h' op
  pub fits : (h : P) (op : Op) (reply : Reply) → know.may_come h op reply → Fits op reply
  -- a plan fits that wants an operation which may be wanted, where what follows fits after each reply that may come
  pub asks : (res : Option Returns) (b : Preceding) (h : P) (op : Op) (k : Reply → Plan) → Follows b op → making_of b ≡ None → know.may_want h op
      → ((h' : P) (reply : Reply) → know.extends h h' → know.may_come h' op reply → PlanFits know us res (after_reply op reply) (k reply) h') → PlanFits know us res b (want op k) h
  pub asks_more : (res : Option Returns) (b : Preceding) (h h' : P) (op : Op) (k : Reply → Plan) → know.extends h h' → PlanFits know us res b (want op k) h → PlanFits know us res b (want op k) h'
  pub small : (h : P) (r : ℕ) → know.is_there h r → know.exact → r < 2 ^ 32
  -- types
  pub up : (h : P) (r : ℕ) (s t : ObjectType) → know.is_of h r s → is_object_assignable (hierarchy_of (classes_of us)) s t ≡ true → know.is_of h r t
  pub raw_of : (h : P) (r : ℕ) (t : ObjectType) → know.is_of h r t → know.is_raw h r t
  pub raw_super : (h : P) (r c : ℕ) → is_of_file us c ≡ true → know.is_raw h r (Class c) → know.is_raw h r (Class (superclass_of (classes_of us) c))
  pub there_of : (h : P) (r : ℕ) (t : ObjectType) → know.is_raw h r t → know.is_there h r
  pub set : (h : P) (r c d : ℕ) → know.is_raw h r (Class c) → know.is_of h r (Class d) → know.is_of h r (Class c)
  -- operations that may always be wanted
  pub looks : (h : P) (r : ℕ) → know.is_there h r → know.may_want h (ClassOf r)
  pub enters : (h : P) (r : ℕ) → know.is_there h r → know.may_want h (Enter r)
  pub exits : (h : P) (r : ℕ) → know.is_there h r → know.may_want h (Exit r)
  pub waits : (h : P) (r : ℕ) → know.is_there h r → know.may_want h (Wait r)
  pub rewakes : (h : P) (r : ℕ) → know.is_there h r → know.may_want h (Rewake r)
  pub notifies : (h : P) (r : ℕ) → know.is_there h r → know.may_want h (Notify r)
  pub prints : (h : P) (line : Line) → LineFits know h line → know.may_want h (Print line)
  pub starts : (h : P) (r p : ℕ) → know.is_of h r (Class THREAD) → know.is_priority p → know.may_want h (Start r (p % 2 ^ 8))
  pub joins : (h : P) (r : ℕ) → know.is_of h r (Class THREAD) → know.may_want h (Join r)
  pub inits : (h : P) (c : ℕ) → is_of_file us c ≡ true → know.may_want h (Init c)
  pub settles : (h : P) (c : ℕ) (ok : Bool) → is_of_file us c ≡ true → know.may_want h (InitDone c ok)
  pub ends : (h : P) (x : Option ℕ) → know.may_want h (End x)
  -- objects that are made
  pub makes : (h : P) (c n : ℕ) → CanBeMade us c n → know.may_want h (New c n)
  pub made : (h : P) (c n r : ℕ) → CanBeMade us c n → know.may_come h (New c n) (replies.Made r) → know.is_raw h r (type_numbered (program_names us) c)
  -- An array needs no initialization, and neither does an object of Object or a StringBuilder. What a constructor of
  -- Throwable leaves is initialized, and so is a Thread after its priority was written.
  pub made_array : (h : P) (c n r : ℕ) → CanBeMade us c n → length (classes_of us) < c → know.may_come h (New c n) (replies.Made r) → know.is_of h r (type_numbered (program_names us) c)
  pub made_object : (h : P) (r c : ℕ) → (c ≡ OBJECT) ⊎ (c ≡ STRING_BUILDER) → know.is_raw h r (Class c) → know.is_of h r (Class OBJECT)
  pub made_throwable : (h : P) (r c : ℕ) → is_subclass us c THROWABLE ≡ true → know.is_raw h r (Class c) → know.is_of h r (Class c)
  pub made_thread : (h : P) (r p : ℕ) → know.is_raw h r (Class THREAD) → know.is_priority p → know.may_come h (Write r THREAD_PRIORITY p) replies.Done → know.is_of h r (Class THREAD)
  pub made_thrown : (h : P) (c r : ℕ) → is_throwable c ≡ true → know.may_come h (New c 0) (replies.Made r) → know.is_thrown h r c
  pub made_exactly : (h : P) (c n r : ℕ) → know.may_come h (New c n) (replies.Made r) → know.is_exactly h r c n
  -- words
  pub reads : (h : P) (r i : ℕ) (k : Content) → know.has_word h r i k → know.may_want h (Read r i)
  pub read : (h : P) (r i v : ℕ) (k : Content) → know.has_word h r i k → know.may_come h (Read r i) (replies.Value v) → WordFits know h v k
  pub writes : (h : P) (r i v : ℕ) (k : Content) → know.has_word h r i k → WordFits know h v k → know.may_want h (Write r i v)
  pub fields : (h : P) (r : ℕ) (f : FieldOperand) → IsField us false f → know.is_raw h r (Class f.owner) → HasWords know h r f.place (contents_of f.kind)
  pub statics : (h : P) (f : FieldOperand) → IsField us true f → HasWords know h (class_object (program_names us) f.owner) f.place (contents_of f.kind)
  pub target : (h : P) (r : ℕ) → know.is_raw h r (Class THREAD) → know.has_word h r THREAD_TARGET (reference (Class RUNNABLE))
  pub message : (h : P) (r : ℕ) → know.is_raw h r (Class THROWABLE) → know.has_word h r THROWABLE_MESSAGE (reference (Class STRING))
  pub text : (h : P) (r : ℕ) → know.is_raw h r (Class STRING_BUILDER) → know.has_word h r BUILDER_TEXT (reference (Class STRING))
  -- texts: the word of a String is null or an array with its units, and a thread may make a new array and its String
  pub asks_text : (h : P) (r : ℕ) → know.is_of h r (Class STRING) → know.may_want h (Read r STRING_UNITS)
  pub units : (h : P) (r v : ℕ) → know.is_of h r (Class STRING) → know.may_come h (Read r STRING_UNITS) (replies.Value v) → (v ≡ 0) ⊎ know.is_text h v
  pub text_there : (h : P) (r : ℕ) → know.is_text h r → know.is_there h r
  pub asks_unit : (h : P) (r c n i : ℕ) → know.is_text h r → know.is_exactly h r c n → i < n → know.may_want h (Read r i)
  pub makes_text : (res : Option Returns) (h : P) (c : ℕ) (units : List ℕ) (k : ℕ → Plan) → CanBeMade us c (length units) → length (classes_of us) < c → type_numbered (program_names us) c ≡ char_array → CanBeMade us STRING 0 → AreWords units
      → ((h' : P) (s : ℕ) → know.extends h h' → know.is_of h' s (Class STRING) → PlanFits know us res anything (k s) h') → PlanFits know us res anything (makes_array c units k) h
  -- the priority of a Thread: it may be written before the Thread is initialized, and is read after that alone
  pub priorities : (p : ℕ) → 1 ≤ p → p ≤ 10 → know.is_priority p
  pub priority_words : (p : ℕ) → know.is_priority p → know.exact → p < 2 ^ 32
  pub asks_priority : (h : P) (r : ℕ) → know.is_of h r (Class THREAD) → know.may_want h (Read r THREAD_PRIORITY)
  pub priority : (h : P) (r p : ℕ) → know.is_of h r (Class THREAD) → know.may_come h (Read r THREAD_PRIORITY) (replies.Value p) → know.is_priority p
  pub sets_priority : (h : P) (r p : ℕ) → know.is_raw h r (Class THREAD) → know.is_priority p → know.may_want h (Write r THREAD_PRIORITY p)
  -- the class of an object
  pub exactly : (h : P) (r c n : ℕ) → know.may_come h (ClassOf r) (replies.Class c n) → know.is_exactly h r c n
  pub length_fits : (h : P) (r c n : ℕ) → know.is_exactly h r c n → know.exact → n < 2 ^ 32
  pub thrown : (h : P) (r c n : ℕ) → know.is_of h r (Class THROWABLE) → know.is_exactly h r c n → know.is_thrown h r c
  pub caught : (h : P) (r c d : ℕ) → know.is_thrown h r c → is_subclass us c d ≡ true → know.is_of h r (type_numbered (program_names us) d)
  pub cast : (h : P) (r c n d : ℕ) → know.is_of h r (Class OBJECT) → know.is_exactly h r c n → is_subclass us c d ≡ true → know.is_of h r (type_numbered (program_names us) d)
  pub own : (h : P) (r c n : ℕ) → know.is_of h r (Class OBJECT) → know.is_exactly h r c n → know.is_of h r (type_numbered (program_names us) c)
  pub caught_all : (h : P) (r c : ℕ) → know.is_thrown h r c → know.is_of h r (Class THROWABLE)
  pub selected : (h : P) (r c n : ℕ) (t : ObjectType) (id found : MethodId) → know.is_of h r t → know.is_exactly h r c n → (method_has us id PRIVATE ≡ true → know.is_of h r (Class id.class)) → select us c id ≡ Some found → know.is_of h r (Class found.class)
  -- fixed objects
  pub class_objects : (h : P) (c : ℕ) → is_class_number (program_names us) c ≡ true → know.is_of h (class_object (program_names us) c) (Class CLASS)
  pub literals : (h : P) (n : ℕ) → n < length (program_names us).strings → know.is_of h (string_object (program_names us) n) (Class STRING)
  pub arguments : (h : P) → know.is_of h (arguments_object (program_names us)) (Array 1 (element_types_.Class STRING))
  pub main_thread : (h : P) → know.is_of h (main_thread_object (program_names us)) (Class THREAD)
  pub out : (h : P) → know.is_of h (system_out_object (program_names us)) (Class PRINT_STREAM)
  -- elements of arrays
  pub elements : (h : P) (r c n i : ℕ) (kind : ElementKind) (s : ObjectType) → IsNumeric kind → know.is_of h r s → is_array_of_one (element_types kind) s ≡ true → know.is_exactly h r c n → i < n
      → HasWords know h r (element_place kind i) (element_contents kind)
  pub references : (h : P) (r c n i : ℕ) (s : ObjectType) → know.is_of h r s → is_array_of_references s ≡ true → know.is_exactly h r c n → i < n
      → (e : ObjectType) × know.has_word h r i (reference e) × AreElements know us h c s e
