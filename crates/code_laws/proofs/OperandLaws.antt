-- What the operands of a form name.
use Rattle.std.proofs.Common.{◌≡◌, ◌<◌, ◌^◌, ℕ, List, sym, subst, inl, inr, arith, refl}
use Rattle.std.specs.Prelude.{ℤ, Option, Some, None, IfSome}
use Rattle.class_walk.specs.declared.class.Constant.{Constant}
use Rattle.instructions.specs.declared.form.Form.{Form}
use Rattle.instructions.specs.declared.form.Form.TheVariants as forms
use Rattle.instructions.specs.declared.what.What.{What}
use Rattle.instructions.specs.declared.what.What.TheVariants as whats
use Rattle.instructions.specs.Table.{Instruction, row_numbered}
use Rattle.instructions.specs.What.{operand_of}
use Rattle.code_steps.specs.CodeArray.{with_targets}
use Rattle.code_steps.specs.Operands.{IsOperands, AreWideOf, AreWide, IsElementCode, IsInterfaceCall}
use Rattle.code_laws.specs.Steps.{NamesRightly}

-- the operand is right, and has two bytes
pub record HasOperand {T : Type 0} (pool : List Constant) (what : What T) : Type 0 where
  pub names : NamesRightly pool what
  pub fits : IfSome (operand_of what) (λ index. index < 2 ^ 16)

made_so : {T : Type 0} (pool : List Constant) (what made : What T) → what ≡ made → HasOperand pool made → HasOperand pool what
made_so {T} pool what made is has = subst (λ (w : What T). HasOperand pool w) (sym is) has

no_operand : {T : Type 0} (pool : List Constant) (what made : What T) → what ≡ made → NamesRightly pool made → operand_of made ≡ None → HasOperand pool what
no_operand pool what made is names none = made_so pool what made is (record { names = names; fits = subst (λ (o : Option ℕ). IfSome o (λ index. index < 2 ^ 16)) (sym none) tt })

wide_has : (pool : List Constant) (form : Form) (what : What ℤ) (operands : List ℕ) → AreWideOf form what operands → HasOperand pool what
wide_has pool (forms.Local access) what operands h = no_operand pool what _ h.3 tt refl
wide_has pool forms.Increment what operands h = no_operand pool what _ h.5 tt refl
wide_has pool _ what operands h = absurd h

wide_row_has : (pool : List Constant) (row : Option Instruction) (what : What ℤ) (operands : List ℕ) → AreWide row what operands → HasOperand pool what
wide_row_has pool None what operands h = absurd h
wide_row_has pool (Some row) what operands h = wide_has pool row.form what operands h

element_has : (pool : List Constant) (code : ℕ) (what : What ℤ) → IsElementCode code what → HasOperand pool what
element_has pool code what (inl h) = no_operand pool what _ h.1 tt refl
element_has pool code what (inr (inl h)) = no_operand pool what _ h.1 tt refl
element_has pool code what (inr (inr (inl h))) = no_operand pool what _ h.1 tt refl
element_has pool code what (inr (inr (inr (inl h)))) = no_operand pool what _ h.1 tt refl
element_has pool code what (inr (inr (inr (inr (inl h))))) = no_operand pool what _ h.1 tt refl
element_has pool code what (inr (inr (inr (inr (inr h))))) = no_operand pool what _ h.1 tt refl

pub operands_have : (pool : List Constant) (at : ℕ) (form : Form) (what : What ℤ) (operands : List ℕ) → IsOperands pool at form what operands → HasOperand pool what
operands_have pool at (forms.Plain plain) what operands h = no_operand pool what _ h.1 tt refl
operands_have pool at (forms.FixedInt n) what operands h = no_operand pool what _ h.1 tt refl
operands_have pool at (forms.FixedLong n) what operands h = no_operand pool what _ h.1 tt refl
operands_have pool at (forms.FixedLocal access local) what operands h = no_operand pool what _ h.1 tt refl
operands_have pool at forms.ByteInt what operands h = no_operand pool what _ h.3 tt refl
operands_have pool at forms.ShortInt what operands h = no_operand pool what _ h.3 tt refl
operands_have pool at forms.ByteConstant what operands h = made_so pool what _ h.3 (record { names = h.4; fits = let small = h.1 in omega arith })
operands_have pool at forms.Constant what operands h = made_so pool what _ h.3 (record { names = h.4; fits = h.1 })
operands_have pool at forms.LongConstant what operands h = made_so pool what _ h.3 (record { names = h.4; fits = h.1 })
operands_have pool at (forms.Local access) what operands h = no_operand pool what _ h.3 tt refl
operands_have pool at forms.Increment what operands h = no_operand pool what _ h.5 tt refl
operands_have pool at (forms.Branch test) what operands h = no_operand pool what _ h.3 tt refl
operands_have pool at (forms.FarBranch test) what operands h = no_operand pool what _ h.3 tt refl
operands_have pool at forms.TableSwitch what operands h = no_operand pool what _ h.made tt refl
operands_have pool at forms.LookupSwitch what operands h = no_operand pool what _ h.made tt refl
operands_have pool at (forms.Field access) what operands h = made_so pool what _ h.3 (record { names = h.4; fits = h.1 })
operands_have pool at (forms.Call call) what operands h = made_so pool what _ h.3 (record { names = h.4; fits = h.1 })
operands_have pool at forms.InterfaceCall what operands h =
    made_so pool what _ h.8 (record { names = (h.1, subst (λ (last : ℕ). IsInterfaceCall pool h.0 h.1 last) h.6.zero h.6); fits = h.3 })
operands_have pool at (forms.Class purpose) what operands h = made_so pool what _ h.3 (record { names = h.4; fits = h.1 })
operands_have pool at forms.NewArray what operands h = element_has pool h.0 what h.2
operands_have pool at forms.Wide what operands h = wide_row_has pool (row_numbered h.0) what h.1 h.3

-- targets make no difference
pub without_targets : {A B : Type 0} (pool : List Constant) (f : A → B) (what : What A) → HasOperand pool (with_targets f what) → HasOperand pool what
without_targets pool f (whats.Plain plain) h = record { names = h.names; fits = h.fits }
without_targets pool f (whats.Int n) h = record { names = h.names; fits = h.fits }
without_targets pool f (whats.Long n) h = record { names = h.names; fits = h.fits }
without_targets pool f (whats.Constant index) h = record { names = h.names; fits = h.fits }
without_targets pool f (whats.LongConstant index) h = record { names = h.names; fits = h.fits }
without_targets pool f (whats.Local access local) h = record { names = h.names; fits = h.fits }
without_targets pool f (whats.Increment local by) h = record { names = h.names; fits = h.fits }
without_targets pool f (whats.Branch test target) h = record { names = h.names; fits = h.fits }
without_targets pool f (whats.TableSwitch default low targets) h = record { names = h.names; fits = h.fits }
without_targets pool f (whats.LookupSwitch default cases) h = record { names = h.names; fits = h.fits }
without_targets pool f (whats.Field access index) h = record { names = h.names; fits = h.fits }
without_targets pool f (whats.Call call index) h = record { names = h.names; fits = h.fits }
without_targets pool f (whats.InterfaceCall index) h = record { names = h.names; fits = h.fits }
without_targets pool f (whats.Class purpose index) h = record { names = h.names; fits = h.fits }
without_targets pool f (whats.NewArray element) h = record { names = h.names; fits = h.fits }
