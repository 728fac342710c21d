-- What the instructions of a class file name (JVMS SE 8, 4.4 and 4.9.1).
use Rattle.std.specs.Prelude.{◌≡◌, ℕ, ℤ, ◌⊎◌, List, Some, slice_get}
use Rattle.class_walk.specs.declared.class.Constant.{Constant}
use Rattle.class_walk.specs.declared.class.Constant.TheVariants as constants
use Rattle.class_names.specs.Names.{IsClassName}
use Rattle.class_pool.specs.Pool.{Reference, IsClassAt}
use Rattle.class_pool.specs.PoolRules.{IsMethodType}
use Rattle.class_pool.specs.Lookup.{reference_in}
use Rattle.code_steps.specs.Operands.{IsLong, MayCall, MayUse}
use Rattle.instructions.specs.declared.operation.Call.{Call as CallKind}
use Rattle.instructions.specs.declared.operation.Call.TheVariants as calls
use Rattle.instructions.specs.declared.operation.ClassUse.{ClassUse}
use Rattle.instructions.specs.declared.what.What.{What}
use Rattle.instructions.specs.declared.what.What.TheVariants as whats
use Rattle.code_laws.specs.File.{IsClassOrArray, HoldsText, IsRightReference, NamesReference}

-- an int, a string, or a class that is no array class
abbrev pub UsesConstant : List Constant → ℕ → Type 0
UsesConstant pool index =
    ((n : ℤ) × (slice_get pool index ≡ Some (constants.Integer n)))
    ⊎ ((text : ℕ) × (slice_get pool index ≡ Some (constants.Str text)) × HoldsText pool text)
    ⊎ ((name : List ℕ) × IsClassAt pool index name × IsClassName name)

-- a method that this instruction may call
abbrev pub UsesMethod : List Constant → CallKind → ℕ → Type 0
UsesMethod pool call index =
    (r : Reference) × (reference_in pool (slice_get pool index) ≡ Some r) × IsRightReference r × MayCall call r.name

-- a method of an interface, whose descriptor is that of a method
abbrev pub UsesInterfaceMethod : List Constant → ℕ → Type 0
UsesInterfaceMethod pool index =
    (r : Reference) × (reference_in pool (slice_get pool index) ≡ Some r) × IsRightReference r × MayCall calls.Virtual r.name × IsMethodType r.descriptor

-- a class or an array class that may be used so
abbrev pub UsesClass : List Constant → ClassUse → ℕ → Type 0
UsesClass pool purpose index = (name : List ℕ) × IsClassAt pool index name × IsClassOrArray name × MayUse purpose name

-- what the instruction names in the constant pool is there, and is what it is named as
abbrev pub UsesRightly : {T : Type 0} → List Constant → What T → Type 0
UsesRightly pool (whats.Constant index) = UsesConstant pool index
UsesRightly pool (whats.LongConstant index) = IsLong pool index
UsesRightly pool (whats.Field access index) = NamesReference pool index
UsesRightly pool (whats.Call call index) = UsesMethod pool call index
UsesRightly pool (whats.InterfaceCall index) = UsesInterfaceMethod pool index
UsesRightly pool (whats.Class purpose index) = UsesClass pool purpose index
UsesRightly pool _ = Unit {0}
