-- Instructions that are read are those that the lines say.
use Rattle.std.proofs.Common.{◌≡◌, ℕ, ◌+◌, ℤ, pos, List, [], ◌∷◌, length, map, Some, refl, sym, ap, subst, ◌∙◌, ◌⊎◌, inl, inr}
use Rattle.std.specs.List.{AllByRecursion, AllZip}
use Rattle.std.proofs.lemmas.Option.{same_Some}
use Rattle.class_walk.specs.declared.class.Constant.{Constant}
use Rattle.instructions.specs.declared.form.Form.{Form}
use Rattle.instructions.specs.declared.form.Form.TheVariants as forms
use Rattle.instructions.specs.declared.what.Case.{Case}
use Rattle.instructions.specs.declared.what.Instr.{Instr}
use Rattle.instructions.specs.declared.what.Target.{Target}
use Rattle.instructions.specs.declared.what.What.{What}
use Rattle.instructions.specs.declared.what.What.TheVariants as whats
use Rattle.instructions.specs.Table.{Instruction, row_numbered}
use Rattle.instructions.specs.Steps.{number_at}
use Rattle.assembler_lines.specs.declared.operation.LabelledCase.{LabelledCase}
use Rattle.assembler_lines.specs.declared.operation.Operands as lines
use Rattle.assembler_lines.specs.declared.operation.Operands.TheVariants as said
use Rattle.assembler_lines.specs.declared.operation.Operation.{Operation}
use Rattle.instructions.specs.What.{targets_of}
use Rattle.code_steps.specs.CodeArray.{with_target, with_targets, by_offsets, IsAmong}
use Rattle.code_write.specs.declared.operands.Operands.{Operands}
use Rattle.code_write.specs.declared.operands.Operands.TheVariants.{Local, WideLocal, Increment, WideIncrement}
use Rattle.code_write.specs.declared.operands.Written.{Written}
use Rattle.code_write.specs.Instruction.{instruction_bytes}
use Rattle.code_write.specs.Meaning.{targets_read, cases_read, Means, IsMeant, AreMeant}
use Rattle.assembler_bodies.specs.Labels.{Marks}
use Rattle.assembler_laws.specs.BodyMeaning.Parts.{Places}
use Rattle.assembler_laws.specs.BodyMeaning.Instructions.{LabelIsAt, IsCase, SaysWhat, SaysInstruction}
use Rattle.assembler_laws.proofs.BodyMeaning.WritesLaws.{Leads, IsCaseWritten, Writes}
use Rattle.assembler_laws.proofs.BodyMeaning.InstructionLaws.{IsWritten}

abbrev offset_read : Target → ℤ
offset_read t = pos t.at

-- an instruction, from what it is with the offsets of its targets
abbrev Back : What Target → What ℤ → Type 0
Back what (whats.Plain plain) = what ≡ whats.Plain plain
Back what (whats.Int n) = what ≡ whats.Int n
Back what (whats.Long n) = what ≡ whats.Long n
Back what (whats.Constant index) = what ≡ whats.Constant index
Back what (whats.LongConstant index) = what ≡ whats.LongConstant index
Back what (whats.Local access local) = what ≡ whats.Local access local
Back what (whats.Increment local by) = what ≡ whats.Increment local by
Back what (whats.Branch test at) = (target : Target) × (what ≡ whats.Branch test target) × (offset_read target ≡ at)
Back what (whats.TableSwitch at low ats) = (default : Target) × (targets : List Target)
    × (what ≡ whats.TableSwitch default low targets) × (offset_read default ≡ at) × (map offset_read targets ≡ ats)
Back what (whats.LookupSwitch at read) = (default : Target) × (cases : List (Case Target))
    × (what ≡ whats.LookupSwitch default cases) × (offset_read default ≡ at) × (map (with_target offset_read) cases ≡ read)
Back what (whats.Field access index) = what ≡ whats.Field access index
Back what (whats.Call call index) = what ≡ whats.Call call index
Back what (whats.InterfaceCall index) = what ≡ whats.InterfaceCall index
Back what (whats.Class purpose index) = what ≡ whats.Class purpose index
Back what (whats.NewArray element) = what ≡ whats.NewArray element

back : (what : What Target) → Back what (with_targets offset_read what)
back (whats.Plain plain) = refl
back (whats.Int n) = refl
back (whats.Long n) = refl
back (whats.Constant index) = refl
back (whats.LongConstant index) = refl
back (whats.Local access local) = refl
back (whats.Increment local by) = refl
back (whats.Branch test target) = (target, refl, refl)
back (whats.TableSwitch default low targets) = (default, targets, refl, refl, refl)
back (whats.LookupSwitch default cases) = (default, cases, refl, refl, refl)
back (whats.Field access index) = refl
back (whats.Call call index) = refl
back (whats.InterfaceCall index) = refl
back (whats.Class purpose index) = refl
back (whats.NewArray element) = refl

back_of : (what : What Target) (w : What ℤ) → with_targets offset_read what ≡ w → Back what w
back_of what w e = subst (Back what) e (back what)

same_local : (o : Operands ℕ) (m n : ℕ) → (o ≡ Local m) ⊎ (o ≡ WideLocal m) → (o ≡ Local n) ⊎ (o ≡ WideLocal n) → m ≡ n
same_local o m n (inl a) (inl b) = cc
same_local o m n (inl a) (inr b) = absurd cc
same_local o m n (inr a) (inl b) = absurd cc
same_local o m n (inr a) (inr b) = cc

same_increment : (o : Operands ℕ) (m n : ℕ) (by to : ℤ) → (o ≡ Increment m by) ⊎ (o ≡ WideIncrement m by) → (o ≡ Increment n to) ⊎ (o ≡ WideIncrement n to) → (m ≡ n) × (by ≡ to)
same_increment o m n by to (inl a) (inl b) = (cc, cc)
same_increment o m n by to (inl a) (inr b) = absurd cc
same_increment o m n by to (inr a) (inl b) = absurd cc
same_increment o m n by to (inr a) (inr b) = (cc, cc)

pos_same : (m n : ℕ) → pos m ≡ pos n → m ≡ n
pos_same m n e = cc

module _ (marks : Marks) (places : Places) (pool : List Constant) (steps : List (Instr Target))
    (resolve : (label : List ℕ) (offset j : ℕ) → Leads marks label offset → number_at steps offset ≡ Some j → places label ≡ Some j) where
  leads_to : (label : List ℕ) (offset : ℕ) (target : Target) → Leads marks label offset → target.at ≡ offset → IsAmong steps target → LabelIsAt places label target
  leads_to label offset target leads at among = resolve label offset target.step leads (subst (λ (o : ℕ). number_at steps o ≡ Some target.step) at among)

  targets_lead : (labels : List (List ℕ)) (offsets : List ℕ) (targets : List Target) → AllZip (Leads marks) labels offsets → map offset_read targets ≡ targets_read offsets
      → AllByRecursion (IsAmong steps) targets → AllZip (LabelIsAt places) labels targets
  targets_lead [] [] [] leads e among = tt
  targets_lead [] [] (t ∷ targets) leads e among = absurd cc
  targets_lead [] (o ∷ offsets) targets leads e among = absurd leads
  targets_lead (label ∷ labels) [] targets leads e among = absurd leads
  targets_lead (label ∷ labels) (o ∷ offsets) [] leads e among = absurd cc
  targets_lead (label ∷ labels) (o ∷ offsets) (t ∷ targets) leads e among =
      let first : pos t.at ≡ pos o = cc in
      let others : map offset_read targets ≡ targets_read offsets = cc in
      (leads_to label o t leads.0 (pos_same t.at o first) among.0, targets_lead labels offsets targets leads.1 others among.1)

  cases_lead : (said : List LabelledCase) (written : List (Case ℕ)) (cases : List (Case Target)) → AllZip (IsCaseWritten marks) said written → map (with_target offset_read) cases ≡ cases_read written
      → AllByRecursion (IsAmong steps) (map (λ c. c.target) cases) → AllZip (IsCase places) said cases
  cases_lead [] [] [] are e among = tt
  cases_lead [] [] (c ∷ cases) are e among = absurd cc
  cases_lead [] (w ∷ written) cases are e among = absurd are
  cases_lead (one ∷ said) [] cases are e among = absurd are
  cases_lead (one ∷ said) (w ∷ written) [] are e among = absurd cc
  cases_lead (one ∷ said) (w ∷ written) (c ∷ cases) are e among =
      let first : with_target offset_read c ≡ with_target (λ t. pos t) w = cc in
      let others : map (with_target offset_read) cases ≡ cases_read written = cc in
      let key : c.key ≡ w.key = ap (λ (d : Case ℤ). d.key) first in
      let at : pos c.target.at ≡ pos w.target = ap (λ (d : Case ℤ). d.target) first in
      ((key ∙ are.0.0, leads_to one.label w.target c.target are.0.1 (pos_same c.target.at w.target at) among.0), cases_lead said written cases are.1 others among.1)

  branch_says : (test : _) (label : List ℕ) (offset : ℕ) (what : What Target) → Leads marks label offset → with_targets offset_read what ≡ whats.Branch test (pos offset)
      → AllByRecursion (IsAmong steps) (targets_of what) → (target : Target) × (what ≡ whats.Branch test target) × LabelIsAt places label target
  branch_says test label offset what leads e among =
      let is = back_of what (whats.Branch test (pos offset)) e in
      let all : AllByRecursion (IsAmong steps) (is.0 ∷ []) = subst (λ (w : What Target). AllByRecursion (IsAmong steps) (targets_of w)) is.1 among in
      (is.0, is.1, leads_to label offset is.0 leads (pos_same is.0.at offset is.2) all.0)

  table_says : (low : ℤ) (label : List ℕ) (labels : List (List ℕ)) (default : ℕ) (offsets : List ℕ) (what : What Target) → Leads marks label default → AllZip (Leads marks) labels offsets
      → with_targets offset_read what ≡ whats.TableSwitch (pos default) low (targets_read offsets)
      → AllByRecursion (IsAmong steps) (targets_of what) → SaysWhat pool places forms.TableSwitch (said.TableSwitch low label labels) what
  table_says low label labels default offsets what leads all e among =
      let is = back_of what (whats.TableSwitch (pos default) low (targets_read offsets)) e in
      let each : AllByRecursion (IsAmong steps) (is.0 ∷ is.1) = subst (λ (w : What Target). AllByRecursion (IsAmong steps) (targets_of w)) is.2 among in
      (is.0, is.1, is.2, leads_to label default is.0 leads (pos_same is.0.at default is.3) each.0, targets_lead labels offsets is.1 all is.4 each.1)

  lookup_says : (label : List ℕ) (spoken : List LabelledCase) (default : ℕ) (written : List (Case ℕ)) (what : What Target) → Leads marks label default → AllZip (IsCaseWritten marks) spoken written
      → with_targets offset_read what ≡ whats.LookupSwitch (pos default) (cases_read written)
      → AllByRecursion (IsAmong steps) (targets_of what) → SaysWhat pool places forms.LookupSwitch (said.LookupSwitch label spoken) what
  lookup_says label spoken default written what leads all e among =
      let is = back_of what (whats.LookupSwitch (pos default) (cases_read written)) e in
      let each : AllByRecursion (IsAmong steps) (is.0 ∷ map (λ c. c.target) is.1) = subst (λ (w : What Target). AllByRecursion (IsAmong steps) (targets_of w)) is.2 among in
      (is.0, is.1, is.2, leads_to label default is.0 leads (pos_same is.0.at default is.3) each.0, cases_lead spoken written is.1 all is.4 each.1)

  says_what : (form : Form) (spoken : lines.Operands) (o : Operands ℕ) (what : What Target) → Writes marks pool form spoken o → Means pool form o (with_targets offset_read what)
      → AllByRecursion (IsAmong steps) (targets_of what) → SaysWhat pool places form spoken what
  says_what (forms.Plain plain) said.None o what writes means among = back_of what (whats.Plain plain) means.1
  says_what (forms.FixedInt n) said.None o what writes means among = back_of what (whats.Int n) means.1
  says_what (forms.FixedLong n) said.None o what writes means among = back_of what (whats.Long n) means.1
  says_what (forms.FixedLocal access local) said.None o what writes means among = back_of what (whats.Local access local) means.1
  says_what forms.ByteInt (said.Number n) o what writes means among =
      let e = means.1 in let same : means.0 ≡ n = cc in
      back_of what (whats.Int n) (means.2 ∙ ap (λ (k : ℤ). whats.Int k) same)
  says_what forms.ShortInt (said.Number n) o what writes means among =
      let e = means.1 in let same : means.0 ≡ n = cc in
      back_of what (whats.Int n) (means.2 ∙ ap (λ (k : ℤ). whats.Int k) same)
  says_what forms.ByteConstant (said.Constant constant) o what writes means among =
      let e = means.1 in let w = writes.1 in let same : means.0 ≡ writes.0 = cc in
      (writes.0, back_of what (whats.Constant writes.0) (means.2 ∙ ap (λ (k : ℕ). whats.Constant k) same), writes.2)
  says_what forms.Constant (said.Constant constant) o what writes means among =
      let e = means.1 in let w = writes.1 in let same : means.0 ≡ writes.0 = cc in
      (writes.0, back_of what (whats.Constant writes.0) (means.2 ∙ ap (λ (k : ℕ). whats.Constant k) same), writes.2)
  says_what forms.LongConstant (said.Long n) o what writes means among =
      let e = means.1 in let w = writes.1 in let same : means.0 ≡ writes.0 = cc in
      (writes.0, back_of what (whats.LongConstant writes.0) (means.2 ∙ ap (λ (k : ℕ). whats.LongConstant k) same), writes.2)
  says_what (forms.Local access) (said.Local n) o what writes means among =
      let same = same_local o means.0 n means.1 writes in
      back_of what (whats.Local access n) (means.2 ∙ ap (λ (k : ℕ). whats.Local access k) same)
  says_what forms.Increment (said.Increment n by) o what writes means among =
      let same = same_increment o means.0 n means.1 by means.2 writes in
      back_of what (whats.Increment n by) (means.3 ∙ ap (λ (k : ℕ). whats.Increment k means.1) same.0 ∙ ap (λ (z : ℤ). whats.Increment n z) same.1)
  says_what (forms.Branch test) (said.Label label) o what writes means among =
      let e = means.1 in let w = writes.1 in let same : means.0 ≡ writes.0 = cc in
      branch_says test label writes.0 what writes.2 (means.2 ∙ ap (λ (k : ℕ). whats.Branch test (pos k)) same) among
  says_what (forms.FarBranch test) (said.Label label) o what writes means among =
      let e = means.1 in let w = writes.1 in let same : means.0 ≡ writes.0 = cc in
      branch_says test label writes.0 what writes.2 (means.2 ∙ ap (λ (k : ℕ). whats.Branch test (pos k)) same) among
  says_what forms.TableSwitch (said.TableSwitch low label labels) o what writes means among =
      let e = means.3 in let w = writes.2 in
      let default_is : means.0 ≡ writes.0 = cc in
      let low_is : means.1 ≡ low = cc in
      let targets_are : means.2 ≡ writes.1 = cc in
      table_says low label labels writes.0 writes.1 what writes.3 writes.4
      (means.4 ∙ ap (λ (k : ℕ). whats.TableSwitch (pos k) means.1 (targets_read means.2)) default_is
      ∙ ap (λ (z : ℤ). whats.TableSwitch (pos writes.0) z (targets_read means.2)) low_is
      ∙ ap (λ (ts : List ℕ). whats.TableSwitch (pos writes.0) low (targets_read ts)) targets_are) among
  says_what forms.LookupSwitch (said.LookupSwitch label cases) o what writes means among =
      let e = means.2 in let w = writes.2 in
      let default_is : means.0 ≡ writes.0 = cc in
      let cases_are : means.1 ≡ writes.1 = cc in
      lookup_says label cases writes.0 writes.1 what writes.3 writes.4
      (means.3 ∙ ap (λ (k : ℕ). whats.LookupSwitch (pos k) (cases_read means.1)) default_is
      ∙ ap (λ (cs : List (Case ℕ)). whats.LookupSwitch (pos writes.0) (cases_read cs)) cases_are) among
  says_what (forms.Field access) (said.Member class name descriptor) o what writes means among =
      let e = means.1 in let w = writes.1 in let same : means.0 ≡ writes.0 = cc in
      (writes.0, back_of what (whats.Field access writes.0) (means.2 ∙ ap (λ (k : ℕ). whats.Field access k) same), writes.2)
  says_what (forms.Call call) (said.Member class name descriptor) o what writes means among =
      let e = means.1 in let w = writes.1 in let same : means.0 ≡ writes.0 = cc in
      (writes.0, back_of what (whats.Call call writes.0) (means.2 ∙ ap (λ (k : ℕ). whats.Call call k) same), writes.2)
  says_what forms.InterfaceCall (said.InterfaceMethod class name descriptor count) o what writes means among =
      let e = means.2 in let w = writes.1 in let same : means.0 ≡ writes.0 = cc in
      (writes.0, back_of what (whats.InterfaceCall writes.0) (means.3 ∙ ap (λ (k : ℕ). whats.InterfaceCall k) same), writes.2)
  says_what (forms.Class purpose) (said.Class name) o what writes means among =
      let e = means.1 in let w = writes.1 in let same : means.0 ≡ writes.0 = cc in
      (writes.0, back_of what (whats.Class purpose writes.0) (means.2 ∙ ap (λ (k : ℕ). whats.Class purpose k) same), writes.2)
  says_what forms.NewArray (said.NewArray element) o what writes means among =
      let e = means.1 in let same : means.0 ≡ element = cc in
      back_of what (whats.NewArray element) (means.2 ∙ ap (λ (k : _). whats.NewArray k) same)
  says_what _ _ o what writes means among = absurd writes

  instruction_says : (at : ℕ) (operation : Operation) (w : Written ℕ) (i : Instr Target) → IsWritten marks pool operation w → IsMeant pool at w (with_targets offset_read i.what)
      → AllByRecursion (IsAmong steps) (targets_of i.what) → SaysInstruction pool places operation i
  instruction_says at operation w i is meant among =
      let same : meant.row ≡ is.row = same_Some meant.row is.row (sym meant.numbered ∙ ap (λ (n : ℕ). row_numbered n) is.number ∙ is.numbered) in
      let means : Means pool is.row.form w.operands (with_targets offset_read i.what) = subst (λ (r : Instruction). Means pool r.form w.operands (with_targets offset_read i.what)) same meant.means in
      record { row = is.row; numbered = is.numbered; says = says_what is.row.form operation.operands w.operands i.what is.fine.writes means among }

  pub instructions_say : (at : ℕ) (operations : List Operation) (ws : List (Written ℕ)) (read : List (Instr Target)) → AllZip (IsWritten marks pool) operations ws → AreMeant pool at ws (map by_offsets read)
      → AllByRecursion (λ (i : Instr Target). AllByRecursion (IsAmong steps) (targets_of i.what)) read → AllZip (SaysInstruction pool places) operations read
  instructions_say at [] [] [] are meant among = tt
  instructions_say at [] [] (i ∷ read) are meant among = absurd cc
  instructions_say at [] (w ∷ ws) read are meant among = absurd are
  instructions_say at (o ∷ operations) [] read are meant among = absurd are
  instructions_say at (o ∷ operations) (w ∷ ws) [] are meant among = absurd meant
  instructions_say at (o ∷ operations) (w ∷ ws) (i ∷ read) are meant among =
      (instruction_says at o w i are.0 meant.2 among.0, instructions_say (at + length (instruction_bytes at w)) operations ws read are.1 meant.3 among.1)
