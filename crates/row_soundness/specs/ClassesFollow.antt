-- What is asked of the classes of a linked program, so that all is known in runs that the rows need.
use Rattle.std.specs.Prelude.{◌≡◌, ◌≢◌, ◌<◌, ℕ, suc, true, false, Some, List, [], ◌∷◌, length}
use Rattle.access_flags.specs.declared.TheConstants.{PRIVATE}
use Rattle.builtin_world.specs.declared.number.TheConstants.{OBJECT, THREAD, THROWABLE, CLASS, STRING, STRING_BUILDER, PRINT_STREAM, RUNNABLE}
use Rattle.builtin_world.specs.declared.word.TheConstants.{STRING_UNITS, BUILDER_TEXT, THREAD_PRIORITY, THREAD_TARGET, THROWABLE_MESSAGE}
use Rattle.builtin_world.specs.Laws.{is_throwable}
use Rattle.code_decode.specs.declared.code.ClassUnit.{ClassUnit}
use Rattle.instructions.specs.declared.operation.ElementKind.{ElementKind}
use Rattle.link_types.specs.declared.operands.FieldOperand.{FieldOperand}
use Rattle.link_types.specs.declared.operands.MethodId.{MethodId}
use Rattle.link_types.specs.declared.types.ObjectType.{ObjectType}
use Rattle.link_types.specs.declared.types.ObjectType.TheVariants.{Class, Array}
use Rattle.link_rules.specs.Classes.{classes_of, superclass_of}
use Rattle.link_rules.specs.FixedObjects.{class_object, system_out_object, string_object, arguments_object, main_thread_object}
use Rattle.link_rules.specs.Names.{program_names, type_numbered, is_class_number}
use Rattle.op_core.specs.OrdinaryState.{Object}
use Rattle.type_rules.specs.Assignable.{is_object_assignable}
use Rattle.type_rules.specs.Environments.{hierarchy_of}
use Rattle.type_rules.specs.Wants.{element_types, is_array_of_one, is_array_of_references}
use Rattle.java_rows.specs.Program.{is_subclass, is_of_file, method_has, select, takes_element}
use Rattle.row_soundness.specs.Senses.{Content, number, reference}
use Rattle.row_soundness.specs.Knowledge.{contents_of, element_contents, element_place, element_type, IsNumeric, IsField}
use Rattle.row_soundness.specs.Texts.{char_array}
use Rattle.row_soundness.specs.Runs.{ObjectFits, WordHolds, MayStandFor, IsThread, fixed_of}
use Rattle.link_types.specs.declared.types.ElementType.TheVariants as element_types_

-- an object has a word at a place, which holds this and is no start word
pub record HasOne (us : List ClassUnit) (r : ℕ) (o : Object) (i : ℕ) (k : Content) : Type 0 where
  pub holds : WordHolds us r o i k
  pub within : i < o.words
  pub spared : IsThread us o.class ≡ true → i ≢ 1

abbrev pub HasEach : List ClassUnit → ℕ → Object → ℕ → List Content → Type 0
HasEach us r o i [] = Unit {0}
HasEach us r o i (k ∷ ks) = HasOne us r o i k × HasEach us r o (suc i) ks

-- a fixed object of a class
pub record IsFixed (us : List ClassUnit) (r : ℕ) (t : ObjectType) : Type 0 where
  pub object : Object
  pub there : fixed_of us r ≡ Some object
  pub fits : ObjectFits us r object
  pub stands : MayStandFor us object.class t

-- the elements of an array of references, seen as of type s
pub record HasElement (us : List ClassUnit) (r : ℕ) (o : Object) (i : ℕ) (s : ObjectType) : Type 0 where
  pub type : ObjectType
  pub one : HasOne us r o i (reference type)
  pub up : (c : ℕ) (x : ObjectType) → is_class_number (program_names us) c ≡ true → element_type s ≡ Some x → MayStandFor us c type → MayStandFor us c x
  pub stored : (d : ℕ) → is_class_number (program_names us) d ≡ true → takes_element us o.class d ≡ true → MayStandFor us d type

pub record ClassesFollow (us : List ClassUnit) : Type 0 where
  pub up : (c : ℕ) (s t : ObjectType) → is_class_number (program_names us) c ≡ true → is_object_assignable (hierarchy_of (classes_of us)) s t ≡ true → MayStandFor us c s → MayStandFor us c t
  pub above : (c d : ℕ) → is_of_file us c ≡ true → is_class_number (program_names us) d ≡ true → MayStandFor us d (Class c) → MayStandFor us d (Class (superclass_of (classes_of us) c))
  pub own : (c : ℕ) → is_class_number (program_names us) c ≡ true → MayStandFor us c (type_numbered (program_names us) c)
  pub exceptions : (c : ℕ) → is_throwable c ≡ true → is_subclass us c THROWABLE ≡ true
  pub throwable : (c : ℕ) → is_class_number (program_names us) c ≡ true → MayStandFor us c (Class THROWABLE) → is_subclass us c THROWABLE ≡ true
  pub below : (c d : ℕ) → is_subclass us c d ≡ true → MayStandFor us c (type_numbered (program_names us) d)
  pub below_throwable : (c : ℕ) → is_subclass us c THROWABLE ≡ true → MayStandFor us c (Class THROWABLE)
  pub selected : (c : ℕ) (id found : MethodId) → is_class_number (program_names us) c ≡ true → (method_has us id PRIVATE ≡ true → MayStandFor us c (Class id.class)) → select us c id ≡ Some found → MayStandFor us c (Class found.class)
  -- a word holds one content
  pub one : (r i : ℕ) (o : Object) (k j : Content) → ObjectFits us r o → WordHolds us r o i k → WordHolds us r o i j → k ≡ j
  pub object_field : (r : ℕ) (o : Object) (f : FieldOperand) → IsField us false f → ObjectFits us r o → MayStandFor us o.class (Class f.owner) → HasEach us r o f.place (contents_of f.kind)
  pub class_field : (f : FieldOperand) → IsField us true f → (fixed : IsFixed us (class_object (program_names us) f.owner) (Class CLASS)) × HasEach us (class_object (program_names us) f.owner) fixed.object f.place (contents_of f.kind)
  pub priority : (r : ℕ) (o : Object) → ObjectFits us r o → MayStandFor us o.class (Class THREAD) → HasOne us r o THREAD_PRIORITY number
  pub target : (r : ℕ) (o : Object) → ObjectFits us r o → MayStandFor us o.class (Class THREAD) → HasOne us r o THREAD_TARGET (reference (Class RUNNABLE))
  pub message : (r : ℕ) (o : Object) → ObjectFits us r o → MayStandFor us o.class (Class THROWABLE) → HasOne us r o THROWABLE_MESSAGE (reference (Class STRING))
  pub units : (r : ℕ) (o : Object) → ObjectFits us r o → MayStandFor us o.class (Class STRING) → HasOne us r o STRING_UNITS (reference char_array)
  pub text : (r : ℕ) (o : Object) → ObjectFits us r o → MayStandFor us o.class (Class STRING_BUILDER) → HasOne us r o BUILDER_TEXT (reference (Class STRING))
  pub top : (c : ℕ) → MayStandFor us c (Class OBJECT)
  pub elements : (r i : ℕ) (o : Object) (kind : ElementKind) (s : ObjectType) → IsNumeric kind → ObjectFits us r o → MayStandFor us o.class s → is_array_of_one (element_types kind) s ≡ true → i < o.length
      → HasEach us r o (element_place kind i) (element_contents kind)
  pub references : (r i : ℕ) (o : Object) (s : ObjectType) → ObjectFits us r o → MayStandFor us o.class s → is_array_of_references s ≡ true → i < o.length → HasElement us r o i s
  pub class_objects : (c : ℕ) → is_class_number (program_names us) c ≡ true → IsFixed us (class_object (program_names us) c) (Class CLASS)
  pub literals : (n : ℕ) → n < length (program_names us).strings → IsFixed us (string_object (program_names us) n) (Class STRING)
  pub out : IsFixed us (system_out_object (program_names us)) (Class PRINT_STREAM)
  pub arguments : IsFixed us (arguments_object (program_names us)) (Array 1 (element_types_.Class STRING))
  pub main_thread : IsFixed us (main_thread_object (program_names us)) (Class THREAD)
