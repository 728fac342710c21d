-- What instructions name in a sound pool.
use Rattle.std.proofs.Common.{◌≡◌, ℕ, zero, suc, true, false, List, sym, ap, subst, ◌∙◌, inl, inr, arith}
use Rattle.std.proofs.lemmas.Option.{same_Some}
use Rattle.class_walk.specs.declared.class.Constant.{Constant}
use Rattle.class_walk.specs.declared.class.Constant.TheVariants as constants
use Rattle.class_names.specs.Names.{IsClassName}
use Rattle.class_pool.specs.Pool.{IsClassAt}
use Rattle.class_pool.specs.PoolRules.{IsArrayName, IsMethodType}
use Rattle.class_pool.proofs.LookupLaws.{class_again}
use Rattle.class_read.specs.Sound.{Each, IsSoundEntry}
use Rattle.code_steps.specs.Operands.{has_dimensions, IsLoadable, IsMethodFor, IsInterfaceCall, IsClassFor, MayCall}
use Rattle.instructions.specs.declared.operation.Call.{Call as CallKind}
use Rattle.instructions.specs.declared.operation.Call.TheVariants as calls
use Rattle.instructions.specs.declared.operation.ClassUse.{ClassUse}
use Rattle.instructions.specs.declared.what.What.{What}
use Rattle.instructions.specs.declared.what.What.TheVariants as whats
use Rattle.code_laws.specs.File.{IsClassOrArray, NamesClass}
use Rattle.code_laws.specs.Steps.{NamesRightly}
use Rattle.code_laws.specs.Uses.{UsesConstant, UsesMethod, UsesInterfaceMethod, UsesClass, UsesRightly}
use Rattle.code_laws.proofs.PoolLaws.{entry_right, named_by_both}

-- the name of an array class begins with a [
array_begins : (name : List ℕ) → IsArrayName name → has_dimensions 1 name ≡ true
array_begins name (zero, base, is) = absurd (let some = is.good.0 in omega arith)
array_begins name (suc n, base, is) = ap (has_dimensions 1) is.spelled

module _ (pool : List Constant) (sound : Each (IsSoundEntry pool) pool) where
  -- the class at an index is a class or an array class
  class_right : (index : ℕ) (name : List ℕ) → IsClassAt pool index name → IsClassOrArray name
  class_right index name is =
      let entry : NamesClass pool index = entry_right pool sound index (constants.Class is.0) is.1 in
      let same : entry.0 ≡ name = same_Some entry.0 name (sym (class_again pool index entry.0 entry.1) ∙ class_again pool index name is) in
      subst IsClassOrArray same entry.2

  plain_class : (name : List ℕ) → IsClassOrArray name → has_dimensions 1 name ≡ false → IsClassName name
  plain_class name (inl class) plain = class
  plain_class name (inr array) plain = absurd (let begins = array_begins name array in cc)

  uses_constant : (index : ℕ) → IsLoadable pool index → UsesConstant pool index
  uses_constant index (inl int) = inl int
  uses_constant index (inr (inl (text, there))) = inr (inl (text, there, entry_right pool sound index (constants.Str text) there))
  uses_constant index (inr (inr (name, is, plain))) = inr (inr (name, is, plain_class name (class_right index name is) plain))

  uses_method : (call : CallKind) (index : ℕ) → IsMethodFor pool call index → UsesMethod pool call index
  uses_method call index is =
      let parts = sound index (constants.Method is.class is.pair) is.entry in
      let r = named_by_both pool sound is.class is.pair is.name is.descriptor parts.0 is.named in
      (r.0, rw is.entry r.1, r.2, subst (MayCall call) (sym r.3) is.callable)

  uses_interface_method : (index count last : ℕ) → IsInterfaceCall pool index count last → UsesInterfaceMethod pool index
  uses_interface_method index count last is =
      let parts = sound index (constants.IfaceMethod is.class is.pair) is.entry in
      let r = named_by_both pool sound is.class is.pair is.name is.descriptor parts.0 is.named in
      let kind : IsMethodType is.descriptor = (is.words.0, is.words.1, is.words.2) in
      (r.0, rw is.entry r.1, r.2, subst (MayCall calls.Virtual) (sym r.3) is.callable, subst IsMethodType (sym r.4) kind)

  uses_class : (purpose : ClassUse) (index : ℕ) → IsClassFor pool purpose index → UsesClass pool purpose index
  uses_class purpose index is = (is.0, is.1, class_right index is.0 is.1, is.2)

  uses_rightly : {T : Type 0} (what : What T) → NamesRightly pool what → UsesRightly pool what
  uses_rightly (whats.Constant index) is = uses_constant index is
  uses_rightly (whats.LongConstant index) is = is
  uses_rightly (whats.Field access index) is = entry_right pool sound index (constants.Field is.0 is.1) is.2
  uses_rightly (whats.Call call index) is = uses_method call index is
  uses_rightly (whats.InterfaceCall index) is = uses_interface_method index is.0 0 is.1
  uses_rightly (whats.Class purpose index) is = uses_class purpose index is
  uses_rightly _ is = tt

pub uses_right : {T : Type 0} (pool : List Constant) → Each (IsSoundEntry pool) pool → (what : What T) → NamesRightly pool what → UsesRightly pool what
uses_right pool sound what is = uses_rightly pool sound what is
