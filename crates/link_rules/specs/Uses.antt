-- What the operands of instructions are in a linked program.
use Rattle.std.specs.Prelude.{◌≡◌, ◌≢◌, ℕ, false, ⊤, List, Some, slice_get, option_and_then, IsSome, IsSomeAnd, IsTrue}
use Rattle.class_walk.specs.declared.class.Constant.TheVariants as constants
use Rattle.instructions.specs.declared.operation.FieldAccess.{FieldAccess}
use Rattle.instructions.specs.declared.operation.FieldAccess.TheVariants as fields
use Rattle.instructions.specs.declared.operation.Call.{Call}
use Rattle.instructions.specs.declared.operation.Call.TheVariants as calls
use Rattle.instructions.specs.declared.operation.ClassUse.{ClassUse}
use Rattle.instructions.specs.declared.operation.ClassUse.TheVariants as uses
use Rattle.instructions.specs.declared.what.What.{What}
use Rattle.instructions.specs.declared.what.What.TheVariants as whats
use Rattle.instructions.specs.declared.what.Instr.{Instr}
use Rattle.instructions.specs.declared.what.Target.{Target}
use Rattle.code_decode.specs.declared.code.Code.{Code}
use Rattle.code_decode.specs.declared.code.Handler.{Handler}
use Rattle.code_decode.specs.declared.code.ClassUnit.{ClassUnit}
use Rattle.link_types.specs.declared.operands.ClassOperand.{ClassOperand}
use Rattle.link_types.specs.declared.operands.FieldOperand.{FieldOperand}
use Rattle.link_types.specs.declared.operands.MethodOperand.{MethodOperand}
use Rattle.link_types.specs.Types.{words_of_value}
use Rattle.link_types.specs.declared.operands.Operand.{Operand}
use Rattle.link_types.specs.declared.operands.Operand.TheVariants as operands
use Rattle.link_types.specs.declared.types.ObjectType.TheVariants.{Class}
use Rattle.access_flags.specs.declared.TheConstants.{PRIVATE, STATIC, INTERFACE, ABSTRACT}
use Rattle.access_flags.specs.Flags.{has}
use Rattle.link_rules.specs.Classes.{NamedClass, NamedMember, class_has, classes_of, number_of_file, class_name_at, is_array_name}
use Rattle.link_rules.specs.Methods.{method_named}
use Rattle.link_rules.specs.Operands.{operand}
use Rattle.class_names.specs.Kinds.{field_kind}
use Rattle.link_rules.specs.Names.{ProgramNames, program_names, value_type}
use Rattle.link_rules.specs.Layout.{field_words, field_place}
use Rattle.link_rules.specs.LinkRules.{is_static_call, wants_static}
use Rattle.link_rules.specs.Laws.{IsFieldOf}

-- an instruction of a method of a class of a file
pub record IsInstruction (us : List ClassUnit) (k : ℕ) (u : ClassUnit) (what : What Target) : Type 0 where
  pub unit : slice_get us k ≡ Some u
  pub method : ℕ
  pub code : Code
  pub there : slice_get u.codes method ≡ Some (Some code)
  pub place : ℕ
  pub step : Instr Target
  pub at : slice_get code.steps place ≡ Some step
  pub same : step.what ≡ what

-- The operand of an instruction on a class: `new` makes an object of a class that is no interface and not abstract,
-- anewarray an array of a numbered class, and what checkcast and instanceof name has a number.
abbrev pub FitsClassUse : List NamedClass → ClassUse → ClassOperand → Type 0
FitsClassUse cs uses.New o =
    (c : ℕ) × (o.kind ≡ Class c) × (o.number ≡ Some c) × (class_has cs c ABSTRACT ≡ false) × (class_has cs c INTERFACE ≡ false)
FitsClassUse cs uses.NewArray o = IsSome o.array
FitsClassUse cs uses.CheckCast o = IsSome o.number
FitsClassUse cs uses.InstanceOf o = IsSome o.number

abbrev pub IsClassOperand : List NamedClass → ClassUse → Operand → Type 0
IsClassOperand cs purpose (operands.Class o) = FitsClassUse cs purpose o
IsClassOperand cs purpose _ = ⊥

-- what invokespecial calls isn't abstract, where it calls a method that isn't static
abbrev pub FitsSpecial : List NamedClass → Call → MethodOperand → Type 0
FitsSpecial cs calls.Special o =
    IsSomeAnd o.special (λ id. IsSomeAnd (method_named cs id) (λ m. has m.flags ABSTRACT ≡ false))
FitsSpecial cs calls.Virtual o = ⊤
FitsSpecial cs calls.Static o = ⊤

-- The method that a call names is there, is static exactly where the call is, and private only in this class.
pub record FitsCall (cs : List NamedClass) (this : ℕ) (call : Call) (o : MethodOperand) : Type 0 where
  pub method : IsSomeAnd (method_named cs o.method) (λ m. has m.flags STATIC ≡ is_static_call call)
  pub private : IsSomeAnd (method_named cs o.method) (λ m. IsTrue (has m.flags PRIVATE) → o.method.class ≡ this)
  pub special : FitsSpecial cs call o

abbrev pub IsMethodOperand : List NamedClass → ℕ → Call → Operand → Type 0
IsMethodOperand cs this call (operands.Method o) = FitsCall cs this call o
IsMethodOperand cs this call _ = ⊥

-- instructions on classes, given the rule that there is a Class entry at their operands (JVMS 4.9.1)
abbrev pub ClassUsesResolve : List ClassUnit → Type 0
ClassUsesResolve us =
    (k at n : ℕ) (u : ClassUnit) (purpose : ClassUse) → IsInstruction us k u (whats.Class purpose at)
    → slice_get u.file.pool at ≡ Some (constants.Class n) → IsClassOperand (classes_of us) purpose (operand us (number_of_file k) at)

-- calls, given the rule that there is a Method entry at their operands
abbrev pub CallsResolve : List ClassUnit → Type 0
CallsResolve us =
    (k at c n : ℕ) (u : ClassUnit) (call : Call) → IsInstruction us k u (whats.Call call at)
    → slice_get u.file.pool at ≡ Some (constants.Method c n) → IsMethodOperand (classes_of us) (number_of_file k) call (operand us (number_of_file k) at)

-- calls of interface methods, which find a method that isn't static
abbrev pub InterfaceCallsResolve : List ClassUnit → Type 0
InterfaceCallsResolve us =
    (k at c n : ℕ) (u : ClassUnit) → IsInstruction us k u (whats.InterfaceCall at)
    → slice_get u.file.pool at ≡ Some (constants.IfaceMethod c n) → IsMethodOperand (classes_of us) (number_of_file k) calls.Virtual (operand us (number_of_file k) at)

-- The operand of an instruction on a field: a field of a class of a file, its words and its type, static exactly where
-- the instruction wants one, and private only in this class.
pub record FitsField (p : ProgramNames) (this : ℕ) (access : FieldAccess) (o : FieldOperand) : Type 0 where
  pub index : ℕ
  pub member : NamedMember
  pub field : IsFieldOf o.is_static p.classes o.owner index member
  pub place : o.place ≡ field_place p.classes o.owner index member
  pub kind : option_and_then (value_type p) (field_kind member.descriptor) ≡ Some o.kind
  pub words : words_of_value o.kind ≡ field_words member
  pub static : o.is_static ≡ wants_static access
  pub private : IsTrue (has member.flags PRIVATE) → o.owner ≡ this

-- System's `out` is only read
abbrev pub IsFieldOperand : ProgramNames → ℕ → FieldAccess → Operand → Type 0
IsFieldOperand p this access operands.Out = access ≡ fields.GetStatic
IsFieldOperand p this access (operands.Field o) = FitsField p this access o
IsFieldOperand p this access _ = ⊥

-- instructions on fields, given the rule that there is a Field entry at their operands
abbrev pub FieldUsesResolve : List ClassUnit → Type 0
FieldUsesResolve us =
    (k at c n : ℕ) (u : ClassUnit) (access : FieldAccess) → IsInstruction us k u (whats.Field access at)
    → slice_get u.file.pool at ≡ Some (constants.Field c n) → IsFieldOperand (program_names us) (number_of_file k) access (operand us (number_of_file k) at)

-- a class of the program that is no array class
abbrev pub IsKnownClass : Operand → Type 0
IsKnownClass (operands.Class o) = (c : ℕ) × (o.kind ≡ Class c) × (o.number ≡ Some c)
IsKnownClass _ = ⊥

-- class literals, which name no array class
abbrev pub ClassLiteralsResolve : List ClassUnit → Type 0
ClassLiteralsResolve us =
    (k at n : ℕ) (u : ClassUnit) → IsInstruction us k u (whats.Constant at)
    → slice_get u.file.pool at ≡ Some (constants.Class n) → is_array_name (class_name_at u.file.pool at) ≡ false → IsKnownClass (operand us (number_of_file k) at)

-- exception handlers that name a class which is no array class
abbrev pub HandlersResolve : List ClassUnit → Type 0
HandlersResolve us =
    (k method i n : ℕ) (u : ClassUnit) (code : Code) (h : Handler) → slice_get us k ≡ Some u → slice_get u.codes method ≡ Some (Some code)
    → slice_get code.handlers i ≡ Some h → h.kind ≢ 0
    → slice_get u.file.pool h.kind ≡ Some (constants.Class n) → is_array_name (class_name_at u.file.pool h.kind) ≡ false → IsKnownClass (operand us (number_of_file k) h.kind)
