-- What is known of the instructions whose arrays are looked at.
use Rattle.std.specs.Prelude.{◌≡◌, ℕ, Option, None, Some, List, slice_get, flat_map}
use Rattle.class_walk.specs.declared.class.Constant.{Constant}
use Rattle.code_decode.specs.declared.code.ClassUnit.{ClassUnit}
use Rattle.code_decode.specs.declared.code.Code.{Code}
use Rattle.code_laws.specs.Uses.{UsesRightly}
use Rattle.instructions.specs.declared.what.Instr.{Instr}
use Rattle.instructions.specs.declared.what.Target.{Target}
use Rattle.instructions.specs.declared.operation.ClassUse.{ClassUse}
use Rattle.instructions.specs.declared.operation.ClassUse.TheVariants as uses
use Rattle.link_types.specs.declared.types.ObjectType.{ObjectType}
use Rattle.link_rules.specs.Classes.{classes_of}
use Rattle.link_rules.specs.Arrays.{arrays_of_what}
use Rattle.link_rules.specs.LinkRules.{what_rules}
use Rattle.link_rules.specs.Laws.{NamesHaveOneNumber}
use Rattle.base_order.specs.declared.order.BaseOrder.{BaseOrder}
use Rattle.base_order.specs.Order.{IsOrderOf}
use Rattle.array_kinds.specs.declared.kind.ArrayKind.{ArrayKind}
use Rattle.array_kinds.specs.Kinds.{array_itself, array_of_type}
use Rattle.pool_types.specs.declared.types.PoolTypes.{PoolTypes}
use Rattle.pool_types.specs.Types.{ArePoolTypes}

-- a file of a program, whose types and bases these are
pub record IsFileOf (us : List ClassUnit) (k : ℕ) (u : ClassUnit) (types : PoolTypes) (order : BaseOrder) : Type 0 where
  pub there : slice_get us k ≡ Some u
  pub types_are : ArePoolTypes us types
  pub order_is : IsOrderOf us order
  pub names : NamesHaveOneNumber (classes_of us)

-- what an instruction names is what it may name, and keeps the rules of linking
pub record IsRight (us : List ClassUnit) (k : ℕ) (u : ClassUnit) (s : Instr Target) : Type 0 where
  pub uses : UsesRightly u.file.pool s.what
  pub rules : (what_rules (classes_of us) k u.file.pool s.what).Hold

abbrev pub AreRight : List ClassUnit → ℕ → ClassUnit → List (Instr Target) → Type 0
AreRight us k u steps = (i : ℕ) (s : Instr Target) → slice_get steps i ≡ Some s → IsRight us k u s

abbrev pub IsCodeRight : List ClassUnit → ℕ → ClassUnit → Option Code → Type 0
IsCodeRight us k u None = Unit {0}
IsCodeRight us k u (Some code) = AreRight us k u code.steps

abbrev pub AreCodesRight : List ClassUnit → ℕ → ClassUnit → List (Option Code) → Type 0
AreCodesRight us k u codes = (j : ℕ) (code : Option Code) → slice_get codes j ≡ Some code → IsCodeRight us k u code

-- the array classes that instructions use
abbrev pub arrays_of_steps : List Constant → List (Instr Target) → List (List ℕ)
arrays_of_steps pool steps = flat_map (λ (s : Instr Target). arrays_of_what pool s.what) steps

-- the array type that an instruction on a class makes or tests
abbrev pub class_use : ClassUse → ObjectType → Option ArrayKind
class_use uses.New t = None
class_use uses.NewArray t = array_of_type t
class_use uses.CheckCast t = array_itself t
class_use uses.InstanceOf t = array_itself t
