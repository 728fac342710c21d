-- The operands of instructions, and what they want of the constant pool (JVMS SE 8, 4.9.1 and 6.5).
use Rattle.std.specs.Prelude.{◌≡◌, ◌≢◌, ℕ, ◌+◌, ◌-◌, ◌%◌, ◌<◌, ◌^◌, ℤ, pos, ◌+ℤ◌, ◌≤ℤ◌, ◌<ℤ◌, List, [], ◌∷◌, ◌++◌, length, replicate, Bool, false, Option, Some, None, slice_get, codes, nat_eq, ◌⊎◌}
use Rattle.std.specs.List.{starts_with}
use Rattle.std.specs.Int.{w8, w16, w32, cast_signed}
use Rattle.byteorder.specs.Endian.{big_bytes}
use Rattle.class_walk.specs.declared.class.Constant.{Constant}
use Rattle.class_walk.specs.declared.class.Constant.TheVariants as constants
use Rattle.class_walk.specs.Layout.{u1, u2, u4}
use Rattle.class_names.specs.declared.kind.Kind.{Kind}
use Rattle.class_names.specs.Descriptor.{IsMethodDescriptor, parameter_words_of}
use Rattle.class_pool.specs.Pool.{IsClassAt, IsPairAt}
use Rattle.instructions.specs.declared.form.Form.{Form}
use Rattle.instructions.specs.declared.form.Form.TheVariants as forms
use Rattle.instructions.specs.declared.operation.Call.{Call as CallKind}
use Rattle.instructions.specs.declared.operation.Call.TheVariants as calls
use Rattle.instructions.specs.declared.operation.ClassUse.{ClassUse}
use Rattle.instructions.specs.declared.operation.ClassUse.TheVariants as uses
use Rattle.instructions.specs.declared.operation.PrimitiveType.TheVariants as primitives
use Rattle.instructions.specs.declared.what.Case.{Case}
use Rattle.instructions.specs.declared.what.What.{What}
use Rattle.instructions.specs.declared.what.What.TheVariants.{Plain, Int, Long, Constant as Loaded, LongConstant, Local, Increment, Branch, TableSwitch, LookupSwitch, Field, Call, InterfaceCall, Class, NewArray}
use Rattle.instructions.specs.Table.{Instruction, row_numbered}

-- ---- what is at an index of the pool (JVMS 4.4)

-- the name begins with n [ (JVMS 4.3.2, 4.4.1)
abbrev pub has_dimensions : ℕ → List ℕ → Bool
has_dimensions n name = starts_with nat_eq name (replicate n 91)

-- an int, a string, or a class that is no array class
abbrev pub IsLoadable : List Constant → ℕ → Type 0
IsLoadable pool index =
    ((n : ℤ) × (slice_get pool index ≡ Some (constants.Integer n)))
    ⊎ ((text : ℕ) × (slice_get pool index ≡ Some (constants.Str text)))
    ⊎ ((name : List ℕ) × IsClassAt pool index name × (has_dimensions 1 name ≡ false))

abbrev pub IsLong : List Constant → ℕ → Type 0
IsLong pool index = (n : ℤ) × (slice_get pool index ≡ Some (constants.Long n))

abbrev pub IsField : List Constant → ℕ → Type 0
IsField pool index = (class pair : ℕ) × (slice_get pool index ≡ Some (constants.Field class pair))

-- <clinit> is called by no instruction, and <init> by invokespecial alone (JVMS 2.9, 4.9.1)
abbrev pub MayCall : CallKind → List ℕ → Type 0
MayCall calls.Special name = name ≢ codes "<clinit>"
MayCall calls.Virtual name = (name ≢ codes "<clinit>") × (name ≢ codes "<init>")
MayCall calls.Static name = (name ≢ codes "<clinit>") × (name ≢ codes "<init>")

-- a method of a class, which this instruction may call
pub record IsMethodFor (pool : List Constant) (call : CallKind) (index : ℕ) : Type 0 where
  pub class : ℕ
  pub pair : ℕ
  pub name : List ℕ
  pub descriptor : List ℕ
  pub entry : slice_get pool index ≡ Some (constants.Method class pair)
  pub named : IsPairAt pool pair name descriptor
  pub callable : MayCall call name

-- the words of a receiver and of the parameters of this method descriptor
abbrev pub IsCount : List ℕ → ℕ → Type 0
IsCount descriptor count =
    (parameters : List Kind) × (returned : Option Kind) × IsMethodDescriptor descriptor parameters returned
    × (count ≡ parameter_words_of parameters + 1)

-- a method of an interface, the words of its receiver and its parameters, and a zero (JVMS 6.5, invokeinterface)
pub record IsInterfaceCall (pool : List Constant) (index count last : ℕ) : Type 0 where
  pub class : ℕ
  pub pair : ℕ
  pub name : List ℕ
  pub descriptor : List ℕ
  pub entry : slice_get pool index ≡ Some (constants.IfaceMethod class pair)
  pub named : IsPairAt pool pair name descriptor
  pub callable : MayCall calls.Virtual name
  pub words : IsCount descriptor count
  pub zero : last ≡ 0

-- an array that is made has at most 255 dimensions, those of its elements and one more (JVMS 4.9.1)
abbrev pub MayUse : ClassUse → List ℕ → Type 0
MayUse uses.NewArray name = has_dimensions 255 name ≡ false
MayUse uses.New name = Unit {0}
MayUse uses.CheckCast name = Unit {0}
MayUse uses.InstanceOf name = Unit {0}

abbrev pub IsClassFor : List Constant → ClassUse → ℕ → Type 0
IsClassFor pool purpose index = (name : List ℕ) × IsClassAt pool index name × MayUse purpose name

-- ---- operands as bytes

abbrev pub HasNone : What ℤ → What ℤ → List ℕ → Type 0
HasNone made what operands = (operands ≡ []) × (what ≡ made)

-- an operand of n bytes, which is right
abbrev pub HasOne : ℕ → (ℕ → What ℤ) → (ℕ → Type 0) → What ℤ → List ℕ → Type 0
HasOne n made IsRight what operands =
    (x : ℕ) × (x < 256 ^ n) × (operands ≡ big_bytes n x) × (what ≡ made x) × IsRight x

-- two operands of n bytes each
abbrev pub HasTwo : ℕ → (ℕ → ℕ → What ℤ) → What ℤ → List ℕ → Type 0
HasTwo n made what operands =
    (x y : ℕ) × (x < 256 ^ n) × (y < 256 ^ n) × (operands ≡ big_bytes n x ++ big_bytes n y) × (what ≡ made x y)

abbrev pub Any : ℕ → Type 0
Any x = Unit {0}

-- the target at a signed distance from the instruction (JVMS 6.5, goto and goto_w)
abbrev pub near_target : ℕ → ℕ → ℤ
near_target at distance = pos at +ℤ cast_signed w16 distance

abbrev pub far_target : ℕ → ℕ → ℤ
far_target at distance = pos at +ℤ cast_signed w32 distance

abbrev pub IsTarget : ℕ → ℤ → List ℕ → Type 0
IsTarget at target bytes = (distance : ℕ) × (distance < 2 ^ 32) × (bytes ≡ u4 distance) × (target ≡ far_target at distance)

abbrev pub IsKey : ℤ → List ℕ → Type 0
IsKey key bytes = (n : ℕ) × (n < 2 ^ 32) × (bytes ≡ u4 n) × (key ≡ cast_signed w32 n)

abbrev pub IsCase : ℕ → Case ℤ → List ℕ → Type 0
IsCase at case bytes = (key target : List ℕ) × IsKey case.key key × IsTarget at case.target target × (bytes ≡ key ++ target)

-- items one after another
abbrev pub AreItems : {X : Type 0} → (X → List ℕ → Type 0) → List X → List ℕ → Type 0
AreItems IsItem [] bytes = bytes ≡ []
AreItems IsItem (x ∷ xs) bytes = (first others : List ℕ) × IsItem x first × AreItems IsItem xs others × (bytes ≡ first ++ others)

-- how many bytes come between the number of a switch and the next offset that is a multiple of 4 (JVMS 6.5,
-- tableswitch)
abbrev pub padding_of : ℕ → ℕ
padding_of at = 3 - at % 4

pub record IsTableSwitch (at : ℕ) (what : What ℤ) (operands : List ℕ) : Type 0 where
  pub padding : List ℕ
  pub default : ℤ
  pub default_bytes : List ℕ
  pub low : ℤ
  pub low_bytes : List ℕ
  pub high : ℤ
  pub high_bytes : List ℕ
  pub targets : List ℤ
  pub targets_bytes : List ℕ
  pub filled : length padding ≡ padding_of at
  pub default_is : IsTarget at default default_bytes
  pub low_is : IsKey low low_bytes
  pub high_is : IsKey high high_bytes
  pub targets_are : AreItems (IsTarget at) targets targets_bytes
  pub ordered : low ≤ℤ high
  pub count : low +ℤ pos (length targets) ≡ high +ℤ pos 1
  pub spelled : operands ≡ padding ++ (default_bytes ++ (low_bytes ++ (high_bytes ++ targets_bytes)))
  pub made : what ≡ TableSwitch default low targets

-- the keys rise
abbrev pub Rise : List (Case ℤ) → Type 0
Rise [] = Unit {0}
Rise (a ∷ []) = Unit {0}
Rise (a ∷ b ∷ cases) = (a.key <ℤ b.key) × Rise (b ∷ cases)

pub record IsLookupSwitch (at : ℕ) (what : What ℤ) (operands : List ℕ) : Type 0 where
  pub padding : List ℕ
  pub default : ℤ
  pub default_bytes : List ℕ
  pub cases : List (Case ℤ)
  pub cases_bytes : List ℕ
  pub filled : length padding ≡ padding_of at
  pub default_is : IsTarget at default default_bytes
  pub count : length cases < 2 ^ 32
  pub cases_are : AreItems (IsCase at) cases cases_bytes
  pub rising : Rise cases
  pub spelled : operands ≡ padding ++ (default_bytes ++ (u4 (length cases) ++ cases_bytes))
  pub made : what ≡ LookupSwitch default cases

-- the operands of a form in twice as many bytes
abbrev pub AreWideOf : Form → What ℤ → List ℕ → Type 0
AreWideOf (forms.Local access) what operands = HasOne 2 (λ local. Local access local) Any what operands
AreWideOf forms.Increment what operands = HasTwo 2 (λ local by. Increment local (cast_signed w16 by)) what operands
AreWideOf _ what operands = ⊥

-- the operands of wide after the number of the instruction that it widens (JVMS 6.5, wide)
abbrev pub AreWide : Option Instruction → What ℤ → List ℕ → Type 0
AreWide None what operands = ⊥
AreWide (Some row) what operands = AreWideOf row.form what operands

abbrev pub IsWide : What ℤ → List ℕ → Type 0
IsWide what operands = (number : ℕ) × (rest : List ℕ) × (number < 2 ^ 8) × AreWide (row_numbered number) what rest × (operands ≡ u1 number ++ rest)

-- the codes of newarray (JVMS 6.5, table 6.5.newarray-A)
abbrev pub IsElementCode : ℕ → What ℤ → Type 0
IsElementCode code what =
    ((code ≡ 4) × (what ≡ NewArray primitives.Boolean))
    ⊎ ((code ≡ 5) × (what ≡ NewArray primitives.Char))
    ⊎ ((code ≡ 8) × (what ≡ NewArray primitives.Byte))
    ⊎ ((code ≡ 9) × (what ≡ NewArray primitives.Short))
    ⊎ ((code ≡ 10) × (what ≡ NewArray primitives.Int))
    ⊎ ((code ≡ 11) × (what ≡ NewArray primitives.Long))

-- the operands of an instruction of this form at this offset, and what they make of it
abbrev pub IsOperands : List Constant → ℕ → Form → What ℤ → List ℕ → Type 0
IsOperands pool at (forms.Plain plain) what operands = HasNone (Plain plain) what operands
IsOperands pool at (forms.FixedInt n) what operands = HasNone (Int n) what operands
IsOperands pool at (forms.FixedLong n) what operands = HasNone (Long n) what operands
IsOperands pool at (forms.FixedLocal access local) what operands = HasNone (Local access local) what operands
IsOperands pool at forms.ByteInt what operands = HasOne 1 (λ n. Int (cast_signed w8 n)) Any what operands
IsOperands pool at forms.ShortInt what operands = HasOne 2 (λ n. Int (cast_signed w16 n)) Any what operands
IsOperands pool at forms.ByteConstant what operands = HasOne 1 (λ index. Loaded index) (IsLoadable pool) what operands
IsOperands pool at forms.Constant what operands = HasOne 2 (λ index. Loaded index) (IsLoadable pool) what operands
IsOperands pool at forms.LongConstant what operands = HasOne 2 (λ index. LongConstant index) (IsLong pool) what operands
IsOperands pool at (forms.Local access) what operands = HasOne 1 (λ local. Local access local) Any what operands
IsOperands pool at forms.Increment what operands = HasTwo 1 (λ local by. Increment local (cast_signed w8 by)) what operands
IsOperands pool at (forms.Branch test) what operands = HasOne 2 (λ distance. Branch test (near_target at distance)) Any what operands
IsOperands pool at (forms.FarBranch test) what operands = HasOne 4 (λ distance. Branch test (far_target at distance)) Any what operands
IsOperands pool at forms.TableSwitch what operands = IsTableSwitch at what operands
IsOperands pool at forms.LookupSwitch what operands = IsLookupSwitch at what operands
IsOperands pool at (forms.Field access) what operands = HasOne 2 (λ index. Field access index) (IsField pool) what operands
IsOperands pool at (forms.Call call) what operands = HasOne 2 (λ index. Call call index) (IsMethodFor pool call) what operands
IsOperands pool at forms.InterfaceCall what operands =
    (index count last : ℕ) × (index < 2 ^ 16) × (count < 2 ^ 8) × (last < 2 ^ 8) × IsInterfaceCall pool index count last
    × (operands ≡ u2 index ++ (u1 count ++ u1 last)) × (what ≡ InterfaceCall index)
IsOperands pool at (forms.Class purpose) what operands = HasOne 2 (λ index. Class purpose index) (IsClassFor pool purpose) what operands
IsOperands pool at forms.NewArray what operands = (code : ℕ) × (operands ≡ u1 code) × IsElementCode code what
IsOperands pool at forms.Wide what operands = IsWide what operands
