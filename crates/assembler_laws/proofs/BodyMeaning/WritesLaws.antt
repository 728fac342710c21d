-- What operands are written for the ones that a line says.
use Rattle.std.proofs.Common.{◌≡◌, ℕ, ◌^◌, ◌<◌, ℤ, cond, nat_lt, List, [], ◌∷◌, Some, None, FitsSigned, All, refl, sym, ap, subst, ◌∙◌, ◌⊎◌, ltb-true}
use Rattle.std.specs.Int.{Width, w32}
use Rattle.std.specs.List.{AllByRecursion, AllZip}
use Rattle.std.proofs.lemmas.Option.{same_Some}
use Rattle.std.proofs.lemmas.List.Elements.{All-nil, All-cons}
use Rattle.class_walk.specs.declared.class.Constant.{Constant}
use Rattle.instructions.specs.declared.form.Form.{Form}
use Rattle.instructions.specs.declared.form.Form.TheVariants as forms
use Rattle.instructions.specs.declared.what.Case.{Case}
use Rattle.assembler_lines.specs.Front.{◌>>=◌}
use Rattle.assembler_lines.specs.declared.operation.LabelledCase.{LabelledCase}
use Rattle.assembler_lines.specs.declared.operation.Operands as lines
use Rattle.assembler_lines.specs.declared.operation.Operands.TheVariants as said
use Rattle.code_write.specs.declared.operands.Operands.{Operands}
use Rattle.code_write.specs.declared.operands.Operands.TheVariants.{Byte, Short, ByteIndex, Index, Local, WideLocal, Increment, WideIncrement, Near, Far, TableSwitch, LookupSwitch, InterfaceCall, NewArray}
use Rattle.code_write.specs.Instruction.{HasKey, HasWidths}
use Rattle.assembler_pool.specs.Items.{long, class_named, field, method, interface_method, IsItemAt}
use Rattle.assembler_bodies.specs.Tests.{fits_signed}
use Rattle.assembler_bodies.specs.Labels.{Marks}
use Rattle.assembler_bodies.specs.Offsets.{each, offset_of, short_offset_of, case_of, narrow, byte}
use Rattle.assembler_bodies.specs.Operands.{loaded_item}
use Rattle.assembler_laws.specs.WrittenCode.Suits.{Suits}
use Rattle.assembler_bodies.proofs.ShapeLaws.{found_parts}
use Rattle.assembler_bodies.proofs.StepLaws.{chosen}
use Rattle.assembler_laws.proofs.BodyMeaning.GrammarLaws.{HasIntKey}

-- the label's offset
abbrev pub Leads : Marks → List ℕ → ℕ → Type 0
Leads marks label offset = offset_of marks label ≡ Some offset

abbrev pub IsCaseWritten : Marks → LabelledCase → Case ℕ → Type 0
IsCaseWritten marks said c = (c.key ≡ said.key) × Leads marks said.label c.target

-- operands of a form as a line says them, and as they are written
abbrev pub Writes : Marks → List Constant → Form → lines.Operands → Operands ℕ → Type 0
Writes marks pool (forms.Plain plain) said.None o = Unit {0}
Writes marks pool (forms.FixedInt n) said.None o = Unit {0}
Writes marks pool (forms.FixedLong n) said.None o = Unit {0}
Writes marks pool (forms.FixedLocal access local) said.None o = Unit {0}
Writes marks pool forms.ByteInt (said.Number n) o = o ≡ Byte n
Writes marks pool forms.ShortInt (said.Number n) o = o ≡ Short n
Writes marks pool forms.ByteConstant (said.Constant constant) o = (index : ℕ) × (o ≡ ByteIndex index) × IsItemAt pool index (loaded_item constant)
Writes marks pool forms.Constant (said.Constant constant) o = (index : ℕ) × (o ≡ Index index) × IsItemAt pool index (loaded_item constant)
Writes marks pool forms.LongConstant (said.Long n) o = (index : ℕ) × (o ≡ Index index) × IsItemAt pool index (long n)
Writes marks pool (forms.Local access) (said.Local local) o = (o ≡ Local local) ⊎ (o ≡ WideLocal local)
Writes marks pool forms.Increment (said.Increment local by) o = (o ≡ Increment local by) ⊎ (o ≡ WideIncrement local by)
Writes marks pool (forms.Branch test) (said.Label label) o = (offset : ℕ) × (o ≡ Near offset) × Leads marks label offset
Writes marks pool (forms.FarBranch test) (said.Label label) o = (offset : ℕ) × (o ≡ Far offset) × Leads marks label offset
Writes marks pool forms.TableSwitch (said.TableSwitch low label labels) o = (default : ℕ) × (targets : List ℕ)
    × (o ≡ TableSwitch default low targets) × Leads marks label default × AllZip (Leads marks) labels targets
Writes marks pool forms.LookupSwitch (said.LookupSwitch label cases) o = (default : ℕ) × (written : List (Case ℕ))
    × (o ≡ LookupSwitch default written) × Leads marks label default × AllZip (IsCaseWritten marks) cases written
Writes marks pool (forms.Field access) (said.Member class name descriptor) o = (index : ℕ) × (o ≡ Index index) × IsItemAt pool index (field class name descriptor)
Writes marks pool (forms.Call call) (said.Member class name descriptor) o = (index : ℕ) × (o ≡ Index index) × IsItemAt pool index (method class name descriptor)
Writes marks pool forms.InterfaceCall (said.InterfaceMethod class name descriptor count) o = (index : ℕ) × (o ≡ InterfaceCall index count) × IsItemAt pool index (interface_method class name descriptor)
Writes marks pool (forms.Class purpose) (said.Class name) o = (index : ℕ) × (o ≡ Index index) × IsItemAt pool index (class_named name)
Writes marks pool forms.NewArray (said.NewArray element) o = o ≡ NewArray element
Writes _ _ _ _ _ = ⊥

-- the operands suit the form, have room in their bytes, and are those that the line says
pub record Fine (marks : Marks) (pool : List Constant) (form : Form) (said : lines.Operands) (o : Operands ℕ) : Type 0 where
  pub suits : Suits form o
  pub widths : HasWidths o
  pub writes : Writes marks pool form said o

-- ---- parts that are found

pub narrow_is : (w : Width) (n k : ℤ) → narrow w n ≡ Some k → (k ≡ n) × FitsSigned w k
unfolding narrow
narrow_is w n k e = let is = chosen (fits_signed w n).holds n k e in (is.1, subst (λ (m : ℤ). FitsSigned w m) (sym is.1) ((fits_signed w n).tells.0 is.0))

pub byte_is : (n k : ℕ) → byte n ≡ Some k → (k ≡ n) × (k < 2 ^ 8)
unfolding byte
byte_is n k e = let is = chosen (nat_lt n (2 ^ 8)) n k e in (is.1, subst (λ (m : ℕ). m < 2 ^ 8) (sym is.1) (ltb-true n (2 ^ 8) is.0))

-- an offset of two bytes is a label's
pub short_leads : (marks : Marks) (label : List ℕ) (offset : ℕ) → short_offset_of marks label ≡ Some offset → Leads marks label offset × (offset < 2 ^ 16)
unfolding short_offset_of
short_leads marks label offset e =
    let p = found_parts (offset_of marks label) (λ o. cond (nat_lt o (2 ^ 16)) (Some o) None) offset e in
    let is = chosen (nat_lt p.value (2 ^ 16)) p.value offset p.next_is in
    (p.first_is ∙ ap (λ (o : ℕ). Some o) (sym is.1), subst (λ (o : ℕ). o < 2 ^ 16) (sym is.1) (ltb-true p.value (2 ^ 16) is.0))

-- ---- lists of them

pub labels_lead : (marks : Marks) (labels : List (List ℕ)) (offsets : List ℕ) → each (offset_of marks) labels ≡ Some offsets → AllZip (Leads marks) labels offsets
labels_lead marks [] offsets e = subst (λ (os : List ℕ). AllZip (Leads marks) [] os) (same_Some [] offsets e) tt
labels_lead marks (label ∷ labels) offsets e =
    let p = found_parts (offset_of marks label) (λ o. each (offset_of marks) labels >>= λ os. Some (o ∷ os)) offsets e in
    let q = found_parts (each (offset_of marks) labels) (λ os. Some (p.value ∷ os)) offsets p.next_is in
    subst (λ (os : List ℕ). AllZip (Leads marks) (label ∷ labels) os) (same_Some (p.value ∷ q.value) offsets q.next_is) (p.first_is, labels_lead marks labels q.value q.first_is)

case_written : (marks : Marks) (said : LabelledCase) (c : Case ℕ) → case_of marks said ≡ Some c → IsCaseWritten marks said c
unfolding case_of
case_written marks said c e =
    let p = found_parts (offset_of marks said.label) (λ o. Some (record { key = said.key; target = o })) c e in
    subst (λ (d : Case ℕ). IsCaseWritten marks said d) (same_Some (record { key = said.key; target = p.value }) c p.next_is) (refl, p.first_is)

pub cases_written : (marks : Marks) (said : List LabelledCase) (written : List (Case ℕ)) → each (case_of marks) said ≡ Some written → AllZip (IsCaseWritten marks) said written
cases_written marks [] written e = subst (λ (cs : List (Case ℕ)). AllZip (IsCaseWritten marks) [] cs) (same_Some [] written e) tt
cases_written marks (case ∷ said) written e =
    let p = found_parts (case_of marks case) (λ c. each (case_of marks) said >>= λ cs. Some (c ∷ cs)) written e in
    let q = found_parts (each (case_of marks) said) (λ cs. Some (p.value ∷ cs)) written p.next_is in
    subst (λ (cs : List (Case ℕ)). AllZip (IsCaseWritten marks) (case ∷ said) cs) (same_Some (p.value ∷ q.value) written q.next_is)
    (case_written marks case p.value p.first_is, cases_written marks said q.value q.first_is)

pub keys_fit : (marks : Marks) (said : List LabelledCase) (written : List (Case ℕ)) → AllByRecursion HasIntKey said → AllZip (IsCaseWritten marks) said written → All HasKey written
keys_fit marks [] [] keys are = All-nil HasKey
keys_fit marks [] (c ∷ written) keys are = absurd are
keys_fit marks (case ∷ said) [] keys are = absurd are
keys_fit marks (case ∷ said) (c ∷ written) keys are =
    All-cons HasKey c written (subst (λ (key : ℤ). FitsSigned w32 key) (sym are.0.0) keys.0) (keys_fit marks said written keys.1 are.1)
