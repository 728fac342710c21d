-- The operands that are made of what a line says are fine.
use Rattle.std.proofs.Common.{◌≡◌, ℕ, ◌^◌, ◌<◌, ℤ, Bool, true, false, List, Option, Some, FitsSigned, refl, sym, ap, subst, ◌∙◌, inl, inr}
use Rattle.std.specs.Int.{w8, w16, w32}
use Rattle.std.specs.List.{AllByRecursion}
use Rattle.std.proofs.lemmas.Option.{same_Some}
use Rattle.class_walk.specs.declared.class.Constant.{Constant}
use Rattle.instructions.specs.declared.form.Form.{Form}
use Rattle.instructions.specs.declared.form.Form.TheVariants as forms
use Rattle.assembler_lines.specs.Front.{◌>>=◌}
use Rattle.assembler_lines.specs.declared.operation.LabelledCase.{LabelledCase}
use Rattle.assembler_lines.specs.declared.operation.Loaded.{Loaded}
use Rattle.assembler_lines.specs.declared.operation.Operands as lines
use Rattle.assembler_lines.specs.declared.operation.Operands.TheVariants as said
use Rattle.code_write.specs.declared.operands.Operands.{Operands}
use Rattle.code_write.specs.declared.operands.Operands.TheVariants.{Absent, Byte, Short, ByteIndex, Index, Local, WideLocal, Increment, WideIncrement, Near, Far, TableSwitch, LookupSwitch, InterfaceCall, NewArray}
use Rattle.assembler_pool.specs.Items.{Item, long, class_named, field, method, interface_method, IsItemAt}
use Rattle.assembler_pool.specs.Uses.{Extends}
use Rattle.assembler_pool.proofs.ItemLaws.{item_stays}
use Rattle.assembler_bodies.specs.Making.{next_of, with_pool, only, used}
use Rattle.assembler_bodies.specs.Labels.{Marks}
use Rattle.assembler_bodies.specs.Offsets.{each, offset_of, case_of, narrow, byte, int_operand, local_operand, increment_operand, constant_operand, branch_operand, table_operand, lookup_operand}
use Rattle.assembler_bodies.specs.Operands.{loaded_item, operands_of}
use Rattle.assembler_bodies.proofs.GrowLaws.{used_is}
use Rattle.assembler_bodies.proofs.ShapeLaws.{parts_of, known_of, found_parts}
use Rattle.assembler_laws.proofs.BodyMeaning.GrammarLaws.{HasIntKey, May}
use Rattle.assembler_laws.proofs.BodyMeaning.WritesLaws.{Fine, narrow_is, byte_is, labels_lead, cases_written, keys_fit}

-- the operands are fine with each pool that the pool grows to
pub record Made (marks : Marks) (form : Form) (said : lines.Operands) (pool : List Constant) (x : List Constant × Operands ℕ) : Type 0 where
  pub fine : (last : List Constant) → Extends x.0 last → Fine marks last form said x.1

module _ (marks : Marks) (form : Form) (said : lines.Operands) where
  fine_by : (pool : List Constant) (made o : Operands ℕ) → Some made ≡ Some o → Fine marks pool form said made → Fine marks pool form said o
  fine_by pool made o e fine = subst (λ (y : Operands ℕ). Fine marks pool form said y) (same_Some made o e) fine

  -- operands that need no entry of the pool
  free_made : (pool : List Constant) (x : List Constant × Operands ℕ) (o : Option (Operands ℕ)) → with_pool pool o ≡ Some x
      → ((last : List Constant) (y : Operands ℕ) → o ≡ Some y → Fine marks last form said y) → Made marks form said pool x
  free_made pool x o e fine =
      let known = known_of pool o x e in
      record { fine = λ last more. fine last x.1 known.found }

  -- operands with the index of an item
  used_made : (item : Item) (make : ℕ → Option (Operands ℕ)) (pool : List Constant) (x : List Constant × Operands ℕ) → next_of (used item pool) (λ index. only (make index)) ≡ Some x
      → ((last : List Constant) (index : ℕ) (y : Operands ℕ) → index < 2 ^ 16 → IsItemAt last index item → make index ≡ Some y → Fine marks last form said y) → Made marks form said pool x
  used_made item make pool x e fine =
      let p = parts_of (used item pool) (λ index. only (make index)) x e in
      let is = used_is item pool p.made p.first_is in
      let known = known_of p.made.0 (make p.made.1) x p.next_is in
      record {
        fine = λ last more. fine last p.made.1 x.1 is.short
            (item_stays item p.made.0 last p.made.1 (subst (λ (q : List Constant). Extends q last) (sym known.pool_is) more) is.at) known.found;
      }

-- ---- by forms

byte_int_fine : (marks : Marks) (pool : List Constant) (n : ℤ) (o : Operands ℕ) → int_operand forms.ByteInt n ≡ Some o → Fine marks pool forms.ByteInt (said.Number n) o
unfolding int_operand
byte_int_fine marks pool n o e =
    let p = found_parts (narrow w8 n) (λ k. Some (Byte k)) o e in
    let is = narrow_is w8 n p.value p.first_is in
    fine_by marks forms.ByteInt (said.Number n) pool (Byte p.value) o p.next_is (record { suits = tt; widths = is.1; writes = ap (λ (k : ℤ). Byte k) is.0 })

short_int_fine : (marks : Marks) (pool : List Constant) (n : ℤ) (o : Operands ℕ) → int_operand forms.ShortInt n ≡ Some o → Fine marks pool forms.ShortInt (said.Number n) o
unfolding int_operand
short_int_fine marks pool n o e =
    let p = found_parts (narrow w16 n) (λ k. Some (Short k)) o e in
    let is = narrow_is w16 n p.value p.first_is in
    fine_by marks forms.ShortInt (said.Number n) pool (Short p.value) o p.next_is (record { suits = tt; widths = is.1; writes = ap (λ (k : ℤ). Short k) is.0 })

local_fine : (marks : Marks) (pool : List Constant) (access : _) (wide : Bool) (n : ℕ) (o : Operands ℕ) → n < 2 ^ 16 → local_operand wide n ≡ Some o → Fine marks pool (forms.Local access) (said.Local n) o
unfolding local_operand
local_fine marks pool access true n o small e =
    fine_by marks (forms.Local access) (said.Local n) pool (WideLocal n) o e (record { suits = tt; widths = small; writes = inr refl })
local_fine marks pool access false n o small e =
    let p = found_parts (byte n) (λ k. Some (Local k)) o e in
    let is = byte_is n p.value p.first_is in
    fine_by marks (forms.Local access) (said.Local n) pool (Local p.value) o p.next_is (record { suits = tt; widths = is.1; writes = inl (ap (λ (k : ℕ). Local k) is.0) })

increment_fine : (marks : Marks) (pool : List Constant) (wide : Bool) (n : ℕ) (by : ℤ) (o : Operands ℕ) → n < 2 ^ 16 → FitsSigned w16 by → increment_operand wide n by ≡ Some o
    → Fine marks pool forms.Increment (said.Increment n by) o
unfolding increment_operand
increment_fine marks pool true n by o small fits e =
    fine_by marks forms.Increment (said.Increment n by) pool (WideIncrement n by) o e (record { suits = tt; widths = (small, fits); writes = inr refl })
increment_fine marks pool false n by o small fits e =
    let p = found_parts (byte n) (λ k. narrow w8 by >>= λ z. Some (Increment k z)) o e in
    let q = found_parts (narrow w8 by) (λ z. Some (Increment p.value z)) o p.next_is in
    let is = byte_is n p.value p.first_is in
    let by_is = narrow_is w8 by q.value q.first_is in
    let same : Increment p.value q.value ≡ Increment n by = ap (λ (k : ℕ). Increment k q.value) is.0 ∙ ap (λ (z : ℤ). Increment n z) by_is.0 in
    fine_by marks forms.Increment (said.Increment n by) pool (Increment p.value q.value) o q.next_is (record { suits = tt; widths = (is.1, by_is.1); writes = inl same })

byte_constant_fine : (marks : Marks) (pool : List Constant) (constant : Loaded) (index : ℕ) (o : Operands ℕ) → IsItemAt pool index (loaded_item constant) → constant_operand forms.ByteConstant index ≡ Some o
    → Fine marks pool forms.ByteConstant (said.Constant constant) o
unfolding constant_operand
byte_constant_fine marks pool constant index o at e =
    let p = found_parts (byte index) (λ k. Some (ByteIndex k)) o e in
    let is = byte_is index p.value p.first_is in
    fine_by marks forms.ByteConstant (said.Constant constant) pool (ByteIndex p.value) o p.next_is
    (record { suits = tt; widths = is.1; writes = (index, ap (λ (k : ℕ). ByteIndex k) is.0, at) })

constant_fine : (marks : Marks) (pool : List Constant) (constant : Loaded) (index : ℕ) (o : Operands ℕ) → index < 2 ^ 16 → IsItemAt pool index (loaded_item constant) → constant_operand forms.Constant index ≡ Some o
    → Fine marks pool forms.Constant (said.Constant constant) o
unfolding constant_operand
constant_fine marks pool constant index o small at e =
    fine_by marks forms.Constant (said.Constant constant) pool (Index index) o e (record { suits = tt; widths = small; writes = (index, refl, at) })

branch_fine : (marks : Marks) (pool : List Constant) (test : _) (label : List ℕ) (o : Operands ℕ) → branch_operand marks (forms.Branch test) label ≡ Some o → Fine marks pool (forms.Branch test) (said.Label label) o
unfolding branch_operand
branch_fine marks pool test label o e =
    let p = found_parts (offset_of marks label) (λ k. Some (Near k)) o e in
    fine_by marks (forms.Branch test) (said.Label label) pool (Near p.value) o p.next_is (record { suits = tt; widths = tt; writes = (p.value, refl, p.first_is) })

far_branch_fine : (marks : Marks) (pool : List Constant) (test : _) (label : List ℕ) (o : Operands ℕ) → branch_operand marks (forms.FarBranch test) label ≡ Some o → Fine marks pool (forms.FarBranch test) (said.Label label) o
unfolding branch_operand
far_branch_fine marks pool test label o e =
    let p = found_parts (offset_of marks label) (λ k. Some (Far k)) o e in
    fine_by marks (forms.FarBranch test) (said.Label label) pool (Far p.value) o p.next_is (record { suits = tt; widths = tt; writes = (p.value, refl, p.first_is) })

table_fine : (marks : Marks) (pool : List Constant) (low : ℤ) (label : List ℕ) (labels : List (List ℕ)) (o : Operands ℕ) → FitsSigned w32 low → table_operand marks low label labels ≡ Some o
    → Fine marks pool forms.TableSwitch (said.TableSwitch low label labels) o
unfolding table_operand
table_fine marks pool low label labels o fits e =
    let p = found_parts (offset_of marks label) (λ d. each (offset_of marks) labels >>= λ targets. Some (TableSwitch d low targets)) o e in
    let q = found_parts (each (offset_of marks) labels) (λ targets. Some (TableSwitch p.value low targets)) o p.next_is in
    fine_by marks forms.TableSwitch (said.TableSwitch low label labels) pool (TableSwitch p.value low q.value) o q.next_is
    (record { suits = tt; widths = fits; writes = (p.value, q.value, refl, p.first_is, labels_lead marks labels q.value q.first_is) })

lookup_fine : (marks : Marks) (pool : List Constant) (label : List ℕ) (cases : List LabelledCase) (o : Operands ℕ) → AllByRecursion HasIntKey cases → lookup_operand marks label cases ≡ Some o
    → Fine marks pool forms.LookupSwitch (said.LookupSwitch label cases) o
unfolding lookup_operand
lookup_fine marks pool label cases o keys e =
    let p = found_parts (offset_of marks label) (λ d. each (case_of marks) cases >>= λ found. Some (LookupSwitch d found)) o e in
    let q = found_parts (each (case_of marks) cases) (λ found. Some (LookupSwitch p.value found)) o p.next_is in
    let are = cases_written marks cases q.value q.first_is in
    fine_by marks forms.LookupSwitch (said.LookupSwitch label cases) pool (LookupSwitch p.value q.value) o q.next_is
    (record { suits = tt; widths = keys_fit marks cases q.value keys are; writes = (p.value, q.value, refl, p.first_is, are) })

pub operands_made : (marks : Marks) (form : Form) (wide : Bool) (operands : lines.Operands) (pool : List Constant) (x : List Constant × Operands ℕ)
    → May form operands → operands_of marks form wide operands pool ≡ Some x → Made marks form operands pool x
unfolding operands_of
operands_made marks (forms.Plain plain) wide said.None pool x may e =
    free_made marks (forms.Plain plain) said.None pool x (Some Absent) e (λ last y is. fine_by marks (forms.Plain plain) said.None last Absent y is (record { suits = tt; widths = tt; writes = tt }))
operands_made marks (forms.FixedInt n) wide said.None pool x may e =
    free_made marks (forms.FixedInt n) said.None pool x (Some Absent) e (λ last y is. fine_by marks (forms.FixedInt n) said.None last Absent y is (record { suits = tt; widths = tt; writes = tt }))
operands_made marks (forms.FixedLong n) wide said.None pool x may e =
    free_made marks (forms.FixedLong n) said.None pool x (Some Absent) e (λ last y is. fine_by marks (forms.FixedLong n) said.None last Absent y is (record { suits = tt; widths = tt; writes = tt }))
operands_made marks (forms.FixedLocal access local) wide said.None pool x may e =
    free_made marks (forms.FixedLocal access local) said.None pool x (Some Absent) e
    (λ last y is. fine_by marks (forms.FixedLocal access local) said.None last Absent y is (record { suits = tt; widths = tt; writes = tt }))
operands_made marks forms.ByteInt wide (said.Number n) pool x may e =
    free_made marks forms.ByteInt (said.Number n) pool x (int_operand forms.ByteInt n) e (λ last y is. byte_int_fine marks last n y is)
operands_made marks forms.ShortInt wide (said.Number n) pool x may e =
    free_made marks forms.ShortInt (said.Number n) pool x (int_operand forms.ShortInt n) e (λ last y is. short_int_fine marks last n y is)
operands_made marks forms.ByteConstant wide (said.Constant constant) pool x may e =
    used_made marks forms.ByteConstant (said.Constant constant) (loaded_item constant) (λ index. constant_operand forms.ByteConstant index) pool x e
    (λ last index y small at is. byte_constant_fine marks last constant index y at is)
operands_made marks forms.Constant wide (said.Constant constant) pool x may e =
    used_made marks forms.Constant (said.Constant constant) (loaded_item constant) (λ index. constant_operand forms.Constant index) pool x e
    (λ last index y small at is. constant_fine marks last constant index y small at is)
operands_made marks forms.LongConstant wide (said.Long n) pool x may e =
    used_made marks forms.LongConstant (said.Long n) (long n) (λ index. Some (Index index)) pool x e
    (λ last index y small at is. fine_by marks forms.LongConstant (said.Long n) last (Index index) y is (record { suits = tt; widths = small; writes = (index, refl, at) }))
operands_made marks (forms.Local access) wide (said.Local n) pool x may e =
    free_made marks (forms.Local access) (said.Local n) pool x (local_operand wide n) e (λ last y is. local_fine marks last access wide n y may is)
operands_made marks forms.Increment wide (said.Increment n by) pool x may e =
    free_made marks forms.Increment (said.Increment n by) pool x (increment_operand wide n by) e (λ last y is. increment_fine marks last wide n by y may.0 may.1 is)
operands_made marks (forms.Branch test) wide (said.Label label) pool x may e =
    free_made marks (forms.Branch test) (said.Label label) pool x (branch_operand marks (forms.Branch test) label) e (λ last y is. branch_fine marks last test label y is)
operands_made marks (forms.FarBranch test) wide (said.Label label) pool x may e =
    free_made marks (forms.FarBranch test) (said.Label label) pool x (branch_operand marks (forms.FarBranch test) label) e (λ last y is. far_branch_fine marks last test label y is)
operands_made marks forms.TableSwitch wide (said.TableSwitch low label labels) pool x may e =
    free_made marks forms.TableSwitch (said.TableSwitch low label labels) pool x (table_operand marks low label labels) e (λ last y is. table_fine marks last low label labels y may is)
operands_made marks forms.LookupSwitch wide (said.LookupSwitch label cases) pool x may e =
    free_made marks forms.LookupSwitch (said.LookupSwitch label cases) pool x (lookup_operand marks label cases) e (λ last y is. lookup_fine marks last label cases y may is)
operands_made marks (forms.Field access) wide (said.Member class name descriptor) pool x may e =
    used_made marks (forms.Field access) (said.Member class name descriptor) (field class name descriptor) (λ index. Some (Index index)) pool x e
    (λ last index y small at is. fine_by marks (forms.Field access) (said.Member class name descriptor) last (Index index) y is (record { suits = tt; widths = small; writes = (index, refl, at) }))
operands_made marks (forms.Call call) wide (said.Member class name descriptor) pool x may e =
    used_made marks (forms.Call call) (said.Member class name descriptor) (method class name descriptor) (λ index. Some (Index index)) pool x e
    (λ last index y small at is. fine_by marks (forms.Call call) (said.Member class name descriptor) last (Index index) y is (record { suits = tt; widths = small; writes = (index, refl, at) }))
operands_made marks forms.InterfaceCall wide (said.InterfaceMethod class name descriptor count) pool x may e =
    used_made marks forms.InterfaceCall (said.InterfaceMethod class name descriptor count) (interface_method class name descriptor) (λ index. Some (InterfaceCall index count)) pool x e
    (λ last index y small at is. fine_by marks forms.InterfaceCall (said.InterfaceMethod class name descriptor count) last (InterfaceCall index count) y is
    (record { suits = tt; widths = (small, may); writes = (index, refl, at) }))
operands_made marks (forms.Class purpose) wide (said.Class name) pool x may e =
    used_made marks (forms.Class purpose) (said.Class name) (class_named name) (λ index. Some (Index index)) pool x e
    (λ last index y small at is. fine_by marks (forms.Class purpose) (said.Class name) last (Index index) y is (record { suits = tt; widths = small; writes = (index, refl, at) }))
operands_made marks forms.NewArray wide (said.NewArray element) pool x may e =
    free_made marks forms.NewArray (said.NewArray element) pool x (Some (NewArray element)) e
    (λ last y is. fine_by marks forms.NewArray (said.NewArray element) last (NewArray element) y is (record { suits = tt; widths = tt; writes = refl }))
operands_made marks _ wide _ pool x may e = absurd may
