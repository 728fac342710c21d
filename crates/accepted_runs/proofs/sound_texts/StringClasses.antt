-- No class of another kind is a String's, and no field has the place of a String's array.
use Rattle.std.proofs.Common.{◌≡◌, ◌⊎◌, ◌<◌, ◌≤◌, ℕ, true, false, List, length, sym, arith, ◌∙◌}
use Rattle.builtin_world.specs.declared.number.TheConstants.{OBJECT, CLASS, PRINT_STREAM, STRING, STRING_BUILDER, THREAD, THROWABLE}
use Rattle.code_decode.specs.declared.code.ClassUnit.{ClassUnit}
use Rattle.link_types.specs.declared.operands.FieldOperand.{FieldOperand}
use Rattle.link_types.specs.declared.types.ElementType.{ElementType}
use Rattle.link_types.specs.declared.types.ObjectType.TheVariants.{Class, Array}
use Rattle.link_rules.specs.Classes.{classes_of, superclass_of}
use Rattle.link_rules.specs.Names.{program_names, type_numbered, is_class_number}
use Rattle.op_core.specs.OrdinaryState.{Object}
use Rattle.java_rows.specs.Program.{is_of_file, is_subclass}
use Rattle.row_soundness.specs.Knowledge.{IsField}
use Rattle.row_soundness.specs.Runs.{MayStandFor, ObjectFits}
use Rattle.row_soundness.specs.Texts.{char_array}
use Rattle.builtin_facts.proofs.NativeLaws as natives
use Rattle.program_soundness.specs.SoundPrograms.{IsSound}
use Rattle.program_soundness.proofs.BelowClasses.{IsBelowClass}
use Rattle.program_soundness.proofs.BuiltInWords.{string_words}
use Rattle.program_soundness.specs.Seen.{IsTypeBelow}
use Rattle.program_soundness.proofs.TopClasses.{apart, builder_top, class_top, no_thrown, no_type_below, number_below, stream_top, string_top, super_below, thread_top, throwable_top, type_below, used_below}
use Rattle.program_soundness.proofs.TopClasses as tops
use Rattle.accepted_runs.specs.KnownTexts.{IsCharArray, IsString}

module _ (us : List ClassUnit) (order : List ℕ) (sound : IsSound us order) where
  pub no_throwable : (c : ℕ) → is_class_number (program_names us) c ≡ true → MayStandFor us c (Class THROWABLE) → IsString us c ≡ true → ⊥
  no_throwable = apart us order sound STRING (string_top us) THROWABLE (throwable_top us) (λ e. omega (arith, e))

  pub no_thread : (c : ℕ) → is_class_number (program_names us) c ≡ true → MayStandFor us c (Class THREAD) → IsString us c ≡ true → ⊥
  no_thread = apart us order sound STRING (string_top us) THREAD (thread_top us) (λ e. omega (arith, e))

  pub no_builder : (c : ℕ) → is_class_number (program_names us) c ≡ true → MayStandFor us c (Class STRING_BUILDER) → IsString us c ≡ true → ⊥
  no_builder = apart us order sound STRING (string_top us) STRING_BUILDER (builder_top us) (λ e. omega (arith, e))

  pub no_class_object : (c : ℕ) → is_class_number (program_names us) c ≡ true → MayStandFor us c (Class CLASS) → IsString us c ≡ true → ⊥
  no_class_object = apart us order sound STRING (string_top us) CLASS (class_top us) (λ e. omega (arith, e))

  pub no_stream : (c : ℕ) → is_class_number (program_names us) c ≡ true → MayStandFor us c (Class PRINT_STREAM) → IsString us c ≡ true → ⊥
  no_stream = apart us order sound STRING (string_top us) PRINT_STREAM (stream_top us) (λ e. omega (arith, e))

  pub no_array_number : (c : ℕ) → length (classes_of us) < c → IsString us c ≡ true → ⊥
  no_array_number = tops.no_array_number us order sound STRING (string_top us)

  pub no_array : (c n : ℕ) (x : ElementType) → MayStandFor us c (Array n x) → IsString us c ≡ true → ⊥
  no_array = tops.no_array us order sound STRING (string_top us)

  pub string_type : (c : ℕ) → IsString us c ≡ true → IsTypeBelow us STRING (type_numbered (program_names us) c)
  string_type = type_below us order sound STRING (string_top us)

  pub super_string : (c : ℕ) → is_of_file us c ≡ true → IsTypeBelow us STRING (Class c) → IsTypeBelow us STRING (Class (superclass_of (classes_of us) c))
  super_string = super_below us order sound STRING (string_top us)

  pub no_string_type : (c : ℕ) → (c ≡ OBJECT) ⊎ (c ≡ STRING_BUILDER) → IsTypeBelow us STRING (Class c) → ⊥
  no_string_type c = no_type_below us order sound STRING (string_top us) c (λ e. omega (arith, e))

  pub no_throwable_type : (c : ℕ) → is_subclass us c THROWABLE ≡ true → IsTypeBelow us STRING (Class c) → ⊥
  no_throwable_type c = tops.no_throwable_type us order sound STRING (string_top us) c (λ e. omega (arith, e))

  pub no_thrown_string : (c : ℕ) → is_subclass us c THROWABLE ≡ true → IsString us c ≡ true → ⊥
  no_thrown_string c = no_thrown us order sound STRING (string_top us) c (λ e. omega (arith, e))

  pub field_after : (r : ℕ) (o : Object) (f : FieldOperand) → IsField us false f → ObjectFits us r o → MayStandFor us o.class (Class f.owner) → IsString us o.class ≡ true → 1 ≤ f.place
  field_after r o f = tops.field_after us order sound STRING (string_top us) r o f (omega (arith, string_words))

  -- the class of char arrays isn't one
  pub no_char_array : (c : ℕ) → IsCharArray us c → IsString us c ≡ true → ⊥
  no_char_array c array is = let below : IsBelowClass us order sound c STRING = number_below us order sound STRING (string_top us) c is in let bad : Class c ≡ char_array = sym below.type ∙ array in cc

  -- what may be used as a String is one
  pub is_string : (c : ℕ) → is_class_number (program_names us) c ≡ true → MayStandFor us c (Class STRING) → IsString us c ≡ true
  is_string c is stands = used_below us order sound STRING (string_top us) c (natives.numbers us STRING (omega arith) (omega arith)) is stands
