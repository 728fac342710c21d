-- What is taken from the linking and the verification of an accepted program.
use Rattle.std.specs.Prelude.{◌≡◌, ◌⊎◌, ◌<◌, ◌≤◌, ◌^◌, ℕ, ℤ, true, false, None, Some, List, [], ◌∷◌, length, slice_get}
use Rattle.std.specs.Int.{w32, w64, cast_unsigned}
use Rattle.builtin_world.specs.declared.number.TheConstants.{COUNT, RUNNABLE, STRING}
use Rattle.link_rules.specs.Names.{program_names, is_class_number, type_numbered}
use Rattle.type_rules.specs.MapFrames.{object_type}
use Rattle.type_rules.specs.FrameAfter.{primitive_element, array_type_of}
use Rattle.instructions.specs.declared.operation.PrimitiveType.{PrimitiveType}
use Rattle.link_rules.specs.Readers.{primitive_array_number}
use Rattle.link_types.specs.declared.operands.ClassOperand.{ClassOperand}
use Rattle.java_rows.specs.Program.{is_of_file, class_at, body_of, method_has, calls_without_class, select, select_for, thread_run, runnable_run}
use Rattle.code_decode.specs.declared.code.ClassUnit.{ClassUnit}
use Rattle.link_types.specs.declared.operands.MethodId.{MethodId}
use Rattle.instructions.specs.declared.operation.FieldAccess.{FieldAccess}
use Rattle.link_types.specs.declared.operands.FieldOperand.{FieldOperand}
use Rattle.link_types.specs.declared.operands.Operand.{Operand}
use Rattle.link_types.specs.declared.types.ObjectType.TheVariants.{Class, Array}
use Rattle.type_rules.specs.declared.types.VerificationType.TheVariants.{Object}
use Rattle.access_flags.specs.declared.TheConstants.{ABSTRACT, STATIC, PRIVATE}
use Rattle.access_flags.specs.Flags.{has}
use Rattle.builtin_world.specs.declared.Native.{Native}
use Rattle.link_rules.specs.Classes.{NamedMember, classes_of}
use Rattle.link_rules.specs.Methods.{method_named, initializer}
use Rattle.link_rules.specs.Operands.{operand}
use Rattle.link_rules.specs.Uses.{IsFieldOperand, IsMethodOperand, IsClassOperand, FitsCall}
use Rattle.type_rules.specs.Assignable.{is_object_assignable}
use Rattle.instructions.specs.declared.operation.Call.{Call}
use Rattle.instructions.specs.declared.operation.ClassUse.{ClassUse}
use Rattle.link_types.specs.declared.operands.MethodOperand.{MethodOperand}
use Rattle.type_rules.specs.Environments.{hierarchy_of, parameters_of_method, result_of_method}
use Rattle.type_rules.specs.TypeSafe.{IsTypeSafe}
use Rattle.type_laws.specs.Inside.{StaysInside}
use Rattle.java_rows.specs.Units.{literal_units}
use Rattle.row_soundness.specs.Fits.{CodeOf, env_of}
use Rattle.row_soundness.specs.Texts.{char_array, AreWords}
use Rattle.instructions.specs.declared.what.What.TheVariants as whats
use Rattle.instructions.specs.declared.operation.PrimitiveType.TheVariants as primitives
use Rattle.link_types.specs.declared.operands.Operand.TheVariants as operands
use Rattle.link_types.specs.declared.types.ElementType.TheVariants as elements
use Rattle.link_types.specs.declared.methods.MethodBody.TheVariants as bodies
use Rattle.instructions.specs.declared.operation.Call.TheVariants as call_kinds
use Rattle.instructions.specs.declared.operation.ClassUse.TheVariants as uses
use Rattle.row_soundness.specs.Numbers.{NumbersFit}
use Rattle.row_soundness.specs.Natives.{IsNativeConstructor}
use Rattle.row_soundness.specs.Natives.{IsNative}
use Rattle.row_soundness.specs.Natives.{FitsNative}

-- a method that a call executes where another one, or itself, is named: it is no abstract or static one, and has the same
-- parameters and result
pub record IsChosen (us : List ClassUnit) (id found : MethodId) : Type 0 where
  pub member : NamedMember
  pub named : method_named (classes_of us) found ≡ Some member
  pub concrete : has member.flags ABSTRACT ≡ false
  pub instance : has member.flags STATIC ≡ false
  pub parameters : parameters_of_method (program_names us) found ≡ parameters_of_method (program_names us) id
  pub result : result_of_method (program_names us) found ≡ result_of_method (program_names us) id

abbrev pub IsConstantOperand : List ClassUnit → Operand → Type 0
IsConstantOperand us (operands.Int n) = cast_unsigned w32 n < 2 ^ 32
IsConstantOperand us (operands.Text n) = n < length (program_names us).strings
IsConstantOperand us (operands.Class o) = (c : ℕ) × (o.number ≡ Some c) × (is_class_number (program_names us) c ≡ true)
IsConstantOperand us _ = ⊥

pub record Accepted (us : List ClassUnit) : Type 0 where
  pub safe : (id : MethodId) (c : CodeOf us id) → IsTypeSafe (env_of us id c)
  pub inside : (id : MethodId) (c : CodeOf us id) → StaysInside (env_of us id c)
  pub files : (id : MethodId) → CodeOf us id → is_of_file us id.class ≡ true
  pub built_in : (c : ℕ) → 1 ≤ c → c ≤ COUNT → is_class_number (program_names us) c ≡ true
  pub numbers : NumbersFit
  -- the ints and longs that instructions push
  pub pushed : (id : MethodId) (c : CodeOf us id) (k at next : ℕ) (n : ℤ) → slice_get c.code.steps k ≡ Some (record { at = at; what = whats.Int n; next = next }) → cast_unsigned w32 n < 2 ^ 32
  pub pushed_longs : (id : MethodId) (c : CodeOf us id) (k at next : ℕ) (n : ℤ) → slice_get c.code.steps k ≡ Some (record { at = at; what = whats.Long n; next = next }) → cast_unsigned w64 n < 2 ^ 64
  -- ---- operands
  -- an ldc pushes an int, a literal of the program or the object of a class
  pub constants : (id : MethodId) (c : CodeOf us id) (k at next index : ℕ) → slice_get c.code.steps k ≡ Some (record { at = at; what = whats.Constant index; next = next }) → IsConstantOperand us (operand us id.class index)
  pub long_constants : (id : MethodId) (c : CodeOf us id) (k at next index : ℕ) → slice_get c.code.steps k ≡ Some (record { at = at; what = whats.LongConstant index; next = next })
      → (n : ℤ) × (operand us id.class index ≡ operands.Long n) × (cast_unsigned w64 n < 2 ^ 64)
  pub fields : (id : MethodId) (c : CodeOf us id) (k at next index : ℕ) (access : FieldAccess) → slice_get c.code.steps k ≡ Some (record { at = at; what = whats.Field access index; next = next })
      → IsFieldOperand (program_names us) id.class access (operand us id.class index)
  -- a field of an object is declared by the named class or above it
  pub inherits : (this index : ℕ) (f : FieldOperand) → operand us this index ≡ operands.Field f → f.is_static ≡ false
      → is_object_assignable (hierarchy_of (classes_of us)) f.named (Class f.owner) ≡ true
  -- the type of a class that an index names is that of its number
  pub classes : (this index d : ℕ) → class_at us this index ≡ Some d → object_type (operand us this index) ≡ type_numbered (program_names us) d
  -- a method that isn't abstract is native, or has code
  pub bodies : (id : MethodId) (m : NamedMember) → method_named (classes_of us) id ≡ Some m → has m.flags ABSTRACT ≡ false
      → ((n : Native) × (body_of us id ≡ Some (bodies.Native n))) ⊎ (CodeOf us id × (body_of us id ≡ Some bodies.Code))
  pub calls : (id : MethodId) (c : CodeOf us id) (k at next index : ℕ) (call : Call) → slice_get c.code.steps k ≡ Some (record { at = at; what = whats.Call call index; next = next })
      → IsMethodOperand (classes_of us) id.class call (operand us id.class index)
  pub interface_calls : (id : MethodId) (c : CodeOf us id) (k at next index : ℕ) → slice_get c.code.steps k ≡ Some (record { at = at; what = whats.InterfaceCall index; next = next }) → IsMethodOperand (classes_of us) id.class call_kinds.Virtual (operand us id.class index)
  -- a static method isn't abstract; what invokespecial calls, where it is no constructor, is of a class above the frame's or the named one
  pub statics : (this : ℕ) (m : MethodOperand) → FitsCall (classes_of us) this call_kinds.Static m
      → (member : NamedMember) × (method_named (classes_of us) m.method ≡ Some member) × (has member.flags ABSTRACT ≡ false) × (has member.flags STATIC ≡ true) × (is_class_number (program_names us) m.method.class ≡ true)
  pub specials : (this index : ℕ) (m : MethodOperand) → operand us this index ≡ operands.Method m → m.constructs ≡ false → FitsCall (classes_of us) this call_kinds.Special m
      → (found : MethodId) × (m.special ≡ Some found) × IsChosen us m.method found
      × ((is_object_assignable (hierarchy_of (classes_of us)) (Class this) (Class found.class) ≡ true) ⊎ (is_object_assignable (hierarchy_of (classes_of us)) m.named (Class found.class) ≡ true))
  -- where a private or a final method is called, the named type is assignable to its class
  pub owners : (this index : ℕ) (m : MethodOperand) → operand us this index ≡ operands.Method m → ((method_has us m.method PRIVATE ≡ true) ⊎ (calls_without_class us m.method ≡ true))
      → is_object_assignable (hierarchy_of (classes_of us)) m.named (Class m.method.class) ≡ true
  pub selects : (this index : ℕ) (m : MethodOperand) (c : ℕ) (found : MethodId) → operand us this index ≡ operands.Method m → method_has us m.method STATIC ≡ false → select us c m.method ≡ Some found → IsChosen us m.method found
  pub finals : (this index : ℕ) (m : MethodOperand) → operand us this index ≡ operands.Method m → method_has us m.method STATIC ≡ false → calls_without_class us m.method ≡ true → IsChosen us m.method m.method
  -- what newarray and anewarray make is an array class of the program, of the type that verification gives it
  pub primitive_arrays : (id : MethodId) (c : CodeOf us id) (k at next : ℕ) (kind : PrimitiveType) → slice_get c.code.steps k ≡ Some (record { at = at; what = whats.NewArray kind; next = next })
      → (n : ℕ) × (primitive_array_number (program_names us) kind ≡ Some n) × (length (classes_of us) < n) × (is_class_number (program_names us) n ≡ true) × (type_numbered (program_names us) n ≡ Array 1 (primitive_element kind))
  pub arrays_of : (id : MethodId) (c : CodeOf us id) (k at next index : ℕ) (o : ClassOperand) (n : ℕ) → slice_get c.code.steps k ≡ Some (record { at = at; what = whats.Class uses.NewArray index; next = next })
      → operand us id.class index ≡ operands.Class o → o.array ≡ Some n
      → (length (classes_of us) < n) × (is_class_number (program_names us) n ≡ true) × (type_numbered (program_names us) n ≡ array_type_of o.kind)
  -- the arrays with the units of Strings
  pub char_arrays : (n : ℕ) × (primitive_array_number (program_names us) primitives.Char ≡ Some n) × (length (classes_of us) < n) × (is_class_number (program_names us) n ≡ true) × (type_numbered (program_names us) n ≡ char_array)
  -- the units of a literal are words
  pub literals : (n : ℕ) → AreWords (literal_units us n)
  -- a class that initializes itself does so by a method with code, which takes nothing
  pub initializers : (c : ℕ) (id : MethodId) → initializer (classes_of us) c ≡ Some id → (code : CodeOf us id) × ((env_of us id code).entry ≡ [])
  pub class_uses : (id : MethodId) (c : CodeOf us id) (k at next index : ℕ) (purpose : ClassUse) → slice_get c.code.steps k ≡ Some (record { at = at; what = whats.Class purpose index; next = next })
      → IsClassOperand (classes_of us) purpose (operand us id.class index)
  pub numbers_are : (this index d : ℕ) → class_at us this index ≡ Some d → is_class_number (program_names us) d ≡ true
  -- what a `new` makes is found by its offset
  pub made : (id : MethodId) (c : CodeOf us id) (k at next index : ℕ) → slice_get c.code.steps k ≡ Some (record { at = at; what = whats.Class uses.New index; next = next })
      → (env_of us id c).made_at at ≡ object_type (operand us id.class index)
  -- what a `new` makes is a class
  pub made_classes : (id : MethodId) (c : CodeOf us id) (at : ℕ) → (d : ℕ) × ((env_of us id c).made_at at ≡ Class d)
  -- the constructor that is called is one of the class that is named
  pub constructors : (this index c : ℕ) (m : MethodOperand) → operand us this index ≡ operands.Method m → FitsCall (classes_of us) this call_kinds.Special m → m.constructs ≡ true → m.named ≡ Class c
      → (m.method.class ≡ c) × (m.special ≡ Some m.method)
  pub constructs : (this index : ℕ) (m : MethodOperand) (c : CodeOf us m.method) → operand us this index ≡ operands.Method m → m.constructs ≡ true → has c.member.flags STATIC ≡ false → (env_of us m.method c).constructs ≡ true
  pub constructor_methods : (this : ℕ) (m : MethodOperand) → FitsCall (classes_of us) this call_kinds.Special m → m.special ≡ Some m.method
      → (member : NamedMember) × (method_named (classes_of us) m.method ≡ Some member) × (has member.flags ABSTRACT ≡ false) × (has member.flags STATIC ≡ false)
  -- methods of the built-in classes
  pub natives : (id : MethodId) (n : Native) → IsNative us id n → FitsNative us n id
  pub native_constructors : (this index : ℕ) (m : MethodOperand) (n : Native) → operand us this index ≡ operands.Method m → m.constructs ≡ true → IsNative us m.method n → IsNativeConstructor n
  -- the run of a Thread, and of a Runnable
  pub runs : (c : ℕ) (found : MethodId) → select us c thread_run ≡ Some found → IsChosen us thread_run found
  pub run_takes : parameters_of_method (program_names us) thread_run ≡ []
  pub target_runs : (c : ℕ) (found : MethodId) → select_for us RUNNABLE runnable_run c ≡ Some found → IsChosen us runnable_run found
  pub target_takes : parameters_of_method (program_names us) runnable_run ≡ []
  pub target_void : result_of_method (program_names us) runnable_run ≡ None

-- the method with which a program begins
pub record IsMain (us : List ClassUnit) (main : MethodId) : Type 0 where
  pub code : CodeOf us main
  pub body : body_of us main ≡ Some bodies.Code
  pub entry : (env_of us main code).entry ≡ Object (Array 1 (elements.Class STRING)) ∷ []
  pub class : is_class_number (program_names us) main.class ≡ true
