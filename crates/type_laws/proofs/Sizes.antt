-- How many locals frames have.
use Rattle.std.proofs.Common.{◌≡◌, ℕ, ◌+◌, ◌-◌, Bool, true, false, List, ◌++◌, length, replicate, refl, ◌∙◌, arith, slice_index_or, length-append}
use Rattle.std.proofs.lemmas.List.{length-set, length-take-le, length-replicate, length-map}
use Rattle.instructions.specs.declared.operation.Call.TheVariants as calls
use Rattle.instructions.specs.declared.operation.ClassUse.TheVariants as uses
use Rattle.instructions.specs.declared.operation.LocalAccess.TheVariants.{Load, Store}
use Rattle.instructions.specs.declared.operation.ValueKind.TheVariants as values
use Rattle.instructions.specs.declared.what.What.{What}
use Rattle.instructions.specs.declared.what.What.TheVariants as whats
use Rattle.instructions.specs.declared.what.Target.{Target}
use Rattle.type_rules.specs.declared.types.VerificationType.{VerificationType}
use Rattle.type_rules.specs.declared.types.VerificationType.TheVariants.{Top, Int, Float, Long, Double, Second, Null, UninitThis, Uninit, Object}
use Rattle.type_rules.specs.Environment.{Environment, TypeFrame, padded}
use Rattle.type_rules.specs.FrameAfter.{without_half, with_local, locals_with, replaced_types, names_constructor, after_special, after_what}

pub padded_length : (count : ℕ) (types : List VerificationType) → length (padded count types) ≡ count
padded_length count types =
    length-take-le count (types ++ replicate count Top) (omega (arith, length-append types (replicate count Top), length-replicate count Top))

without_half_length : (locals : List VerificationType) (n : ℕ) (old : VerificationType) → length (without_half locals n old) ≡ length locals
without_half_length locals n Second = length-set locals (n - 1) Top
without_half_length locals n Long = length-set locals (n + 1) Top
without_half_length locals n Double = length-set locals (n + 1) Top
without_half_length locals n Top = refl
without_half_length locals n Int = refl
without_half_length locals n Float = refl
without_half_length locals n Null = refl
without_half_length locals n UninitThis = refl
without_half_length locals n (Uninit p) = refl
without_half_length locals n (Object t) = refl

with_local_length : (locals : List VerificationType) (n : ℕ) (type : VerificationType) → length (with_local locals n type) ≡ length locals
with_local_length locals n type =
    length-set (without_half locals n (slice_index_or locals n Top)) n type ∙ without_half_length locals n (slice_index_or locals n Top)

locals_with_length : (what : What Target) (f : TypeFrame) → length (locals_with what f) ≡ length f.locals
locals_with_length (whats.Local (Store values.Int) n) f = with_local_length f.locals n Int
locals_with_length (whats.Local (Store values.Long) n) f = with_local_length (with_local f.locals n Long) (n + 1) Second ∙ with_local_length f.locals n Long
locals_with_length (whats.Local (Store values.Reference) n) f = with_local_length f.locals n _
locals_with_length (whats.Local (Load kind) n) f = refl
locals_with_length (whats.Plain p) f = refl
locals_with_length (whats.Int n) f = refl
locals_with_length (whats.Long n) f = refl
locals_with_length (whats.Constant index) f = refl
locals_with_length (whats.LongConstant index) f = refl
locals_with_length (whats.Increment n by) f = refl
locals_with_length (whats.Branch test target) f = refl
locals_with_length (whats.TableSwitch default low targets) f = refl
locals_with_length (whats.LookupSwitch default cases) f = refl
locals_with_length (whats.Field access index) f = refl
locals_with_length (whats.Call call index) f = refl
locals_with_length (whats.InterfaceCall index) f = refl
locals_with_length (whats.Class purpose index) f = refl
locals_with_length (whats.NewArray element) f = refl

replaced_length : (old new : VerificationType) (types : List VerificationType) → length (replaced_types old new types) ≡ length types
replaced_length old new types = length-map types _

special_length : (env : Environment) (at index : ℕ) (f : TypeFrame) (test : Bool) → names_constructor (env.operand index) ≡ test → length (after_special env at index f).locals ≡ length f.locals
special_length env at index f true e = rw e (replaced_length _ _ f.locals)
special_length env at index f false e = rw e refl

pub locals_kept : (env : Environment) (at : ℕ) (what : What Target) (f : TypeFrame) → length (after_what env at what f).locals ≡ length f.locals
locals_kept env at (whats.Call calls.Special index) f = special_length env at index f (names_constructor (env.operand index)) refl
locals_kept env at (whats.Call calls.Virtual index) f = refl
locals_kept env at (whats.Call calls.Static index) f = refl
locals_kept env at (whats.Class uses.New index) f = replaced_length _ _ f.locals
locals_kept env at (whats.Class uses.NewArray index) f = refl
locals_kept env at (whats.Class uses.CheckCast index) f = refl
locals_kept env at (whats.Class uses.InstanceOf index) f = refl
locals_kept env at (whats.Local access n) f = locals_with_length (whats.Local access n) f
locals_kept env at (whats.Plain p) f = refl
locals_kept env at (whats.Int n) f = refl
locals_kept env at (whats.Long n) f = refl
locals_kept env at (whats.Constant index) f = refl
locals_kept env at (whats.LongConstant index) f = refl
locals_kept env at (whats.Increment n by) f = refl
locals_kept env at (whats.Branch test target) f = refl
locals_kept env at (whats.TableSwitch default low targets) f = refl
locals_kept env at (whats.LookupSwitch default cases) f = refl
locals_kept env at (whats.Field access index) f = refl
locals_kept env at (whats.InterfaceCall index) f = refl
locals_kept env at (whats.NewArray element) f = refl
