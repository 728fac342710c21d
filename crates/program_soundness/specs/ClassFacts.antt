-- What holds of the classes of an accepted program: a part of what runs know of objects, and of what room they have.
use Rattle.std.specs.Prelude.{◌≡◌, ◌<◌, ◌^◌, ℕ, true, Some, List}
use Rattle.access_flags.specs.declared.TheConstants.{PRIVATE}
use Rattle.builtin_world.specs.declared.number.TheConstants.{OBJECT, THROWABLE}
use Rattle.builtin_world.specs.Laws.{is_throwable}
use Rattle.code_decode.specs.declared.code.ClassUnit.{ClassUnit}
use Rattle.link_types.specs.declared.operands.MethodId.{MethodId}
use Rattle.link_types.specs.declared.types.ObjectType.TheVariants.{Class}
use Rattle.link_rules.specs.Names.{program_names, type_numbered, is_class_number}
use Rattle.java_rows.specs.Program.{is_of_file, is_subclass, method_has, select}
use Rattle.row_soundness.specs.Runs.{MayStandFor}

-- an object of a class may be used where the class, one above it, or the class of a selected method is wanted
pub record ClassesGoUp (us : List ClassUnit) : Type 0 where
  pub own : (c : ℕ) → is_class_number (program_names us) c ≡ true → MayStandFor us c (type_numbered (program_names us) c)
  pub exceptions : (c : ℕ) → is_throwable c ≡ true → is_subclass us c THROWABLE ≡ true
  pub throwable : (c : ℕ) → is_class_number (program_names us) c ≡ true → MayStandFor us c (Class THROWABLE) → is_subclass us c THROWABLE ≡ true
  pub below : (c d : ℕ) → is_subclass us c d ≡ true → MayStandFor us c (type_numbered (program_names us) d)
  pub below_throwable : (c : ℕ) → is_subclass us c THROWABLE ≡ true → MayStandFor us c (Class THROWABLE)
  pub selected : (c : ℕ) (id found : MethodId) → is_class_number (program_names us) c ≡ true → (method_has us id PRIVATE ≡ true → MayStandFor us c (Class id.class)) → select us c id ≡ Some found → MayStandFor us c (Class found.class)
  pub top : (c : ℕ) → MayStandFor us c (Class OBJECT)

-- numbers of classes are words
pub record NumbersAreWords (us : List ClassUnit) : Type 0 where
  pub numbers : (c : ℕ) → is_class_number (program_names us) c ≡ true → c < 2 ^ 32
  pub files : (c : ℕ) → is_of_file us c ≡ true → c < 2 ^ 32
