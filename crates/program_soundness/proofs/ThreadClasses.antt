-- No class of another kind is a Thread's, and no field has the place of a Thread's priority.
use Rattle.std.proofs.Common.{◌≡◌, ◌⊎◌, ◌<◌, ◌≤◌, ℕ, true, false, List, length, arith}
use Rattle.builtin_world.specs.declared.number.TheConstants.{OBJECT, CLASS, PRINT_STREAM, STRING, STRING_BUILDER, THREAD, THROWABLE}
use Rattle.code_decode.specs.declared.code.ClassUnit.{ClassUnit}
use Rattle.link_types.specs.declared.operands.FieldOperand.{FieldOperand}
use Rattle.link_types.specs.declared.types.ElementType.{ElementType}
use Rattle.link_types.specs.declared.types.ObjectType.TheVariants.{Class, Array}
use Rattle.link_rules.specs.Classes.{classes_of, superclass_of}
use Rattle.link_rules.specs.Names.{program_names, type_numbered, is_class_number}
use Rattle.op_core.specs.OrdinaryState.{Object}
use Rattle.java_rows.specs.Program.{is_of_file, is_subclass}
use Rattle.row_soundness.specs.Knowledge.{IsField}
use Rattle.row_soundness.specs.Runs.{IsThread, MayStandFor, ObjectFits}
use Rattle.program_soundness.specs.SoundPrograms.{IsSound}
use Rattle.program_soundness.proofs.ThreadLaws.{thread_words}
use Rattle.program_soundness.specs.Seen.{IsTypeBelow}
use Rattle.program_soundness.proofs.TopClasses.{apart, builder_top, class_top, no_thrown, no_type_below, stream_top, string_top, super_below, thread_top, throwable_top, type_below}
use Rattle.program_soundness.proofs.TopClasses as tops

module _ (us : List ClassUnit) (order : List ℕ) (sound : IsSound us order) where
  pub no_throwable : (c : ℕ) → is_class_number (program_names us) c ≡ true → MayStandFor us c (Class THROWABLE) → IsThread us c ≡ true → ⊥
  no_throwable = apart us order sound THREAD (thread_top us) THROWABLE (throwable_top us) (λ e. omega (arith, e))

  pub no_string : (c : ℕ) → is_class_number (program_names us) c ≡ true → MayStandFor us c (Class STRING) → IsThread us c ≡ true → ⊥
  no_string = apart us order sound THREAD (thread_top us) STRING (string_top us) (λ e. omega (arith, e))

  pub no_builder : (c : ℕ) → is_class_number (program_names us) c ≡ true → MayStandFor us c (Class STRING_BUILDER) → IsThread us c ≡ true → ⊥
  no_builder = apart us order sound THREAD (thread_top us) STRING_BUILDER (builder_top us) (λ e. omega (arith, e))

  pub no_class_object : (c : ℕ) → is_class_number (program_names us) c ≡ true → MayStandFor us c (Class CLASS) → IsThread us c ≡ true → ⊥
  no_class_object = apart us order sound THREAD (thread_top us) CLASS (class_top us) (λ e. omega (arith, e))

  pub no_stream : (c : ℕ) → is_class_number (program_names us) c ≡ true → MayStandFor us c (Class PRINT_STREAM) → IsThread us c ≡ true → ⊥
  no_stream = apart us order sound THREAD (thread_top us) PRINT_STREAM (stream_top us) (λ e. omega (arith, e))

  pub no_array_number : (c : ℕ) → length (classes_of us) < c → IsThread us c ≡ true → ⊥
  no_array_number = tops.no_array_number us order sound THREAD (thread_top us)

  pub no_array : (c n : ℕ) (x : ElementType) → MayStandFor us c (Array n x) → IsThread us c ≡ true → ⊥
  no_array = tops.no_array us order sound THREAD (thread_top us)

  pub thread_type : (c : ℕ) → IsThread us c ≡ true → IsTypeBelow us THREAD (type_numbered (program_names us) c)
  thread_type = type_below us order sound THREAD (thread_top us)

  pub super_thread : (c : ℕ) → is_of_file us c ≡ true → IsTypeBelow us THREAD (Class c) → IsTypeBelow us THREAD (Class (superclass_of (classes_of us) c))
  super_thread = super_below us order sound THREAD (thread_top us)

  pub no_thread_type : (c : ℕ) → (c ≡ OBJECT) ⊎ (c ≡ STRING_BUILDER) → IsTypeBelow us THREAD (Class c) → ⊥
  no_thread_type c = no_type_below us order sound THREAD (thread_top us) c (λ e. omega (arith, e))

  pub no_throwable_type : (c : ℕ) → is_subclass us c THROWABLE ≡ true → IsTypeBelow us THREAD (Class c) → ⊥
  no_throwable_type c = tops.no_throwable_type us order sound THREAD (thread_top us) c (λ e. omega (arith, e))

  pub no_thrown_thread : (c : ℕ) → is_subclass us c THROWABLE ≡ true → IsThread us c ≡ true → ⊥
  no_thrown_thread c = no_thrown us order sound THREAD (thread_top us) c (λ e. omega (arith, e))

  pub field_after : (r : ℕ) (o : Object) (f : FieldOperand) → IsField us false f → ObjectFits us r o → MayStandFor us o.class (Class f.owner) → IsThread us o.class ≡ true → 1 ≤ f.place
  field_after r o f = tops.field_after us order sound THREAD (thread_top us) r o f (omega (arith, thread_words))
