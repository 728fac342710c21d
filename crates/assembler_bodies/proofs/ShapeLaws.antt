-- Instructions have the size that their labels were counted with.
use Rattle.std.proofs.Common.{◌≡◌, ℕ, suc, ℤ, Bool, true, false, cond, List, [], ◌∷◌, length, Option, Some, None, refl, sym, ap, ◌∙◌}
use Rattle.std.specs.Int.{w8, w16}
use Rattle.class_walk.specs.declared.class.Constant.{Constant}
use Rattle.instructions.specs.declared.form.Form.{Form}
use Rattle.assembler_lines.specs.declared.operation.Operands as lines
use Rattle.assembler_lines.specs.declared.operation.Operands.TheVariants as said
use Rattle.assembler_lines.specs.declared.operation.LabelledCase.{LabelledCase}
use Rattle.assembler_lines.specs.Front.{◌>>=◌}
use Rattle.code_write.specs.declared.operands.Operands.{Operands}
use Rattle.code_write.specs.declared.operands.Operands.TheVariants.{Absent, Byte, Short, ByteIndex, Index, Local, WideLocal, Increment, WideIncrement, Near, Far, TableSwitch, LookupSwitch, InterfaceCall, NewArray}
use Rattle.code_write.specs.declared.shape.Shape.{Shape}
use Rattle.code_write.specs.declared.shape.Shape.TheVariants as shapes
use Rattle.code_write.specs.Instruction.{shape}
use Rattle.assembler_pool.specs.Items.{long, class_named, interface_method}
use Rattle.assembler_bodies.specs.Making.{Making, next_of, with_pool, only, used}
use Rattle.assembler_bodies.specs.Labels.{Marks, has_one_byte, is_far, shape_of}
use Rattle.assembler_bodies.specs.Offsets.{each, offset_of, case_of, narrow, byte, one_byte_int, two_byte_int, int_operand, local_operand, increment_operand, narrow_index, constant_operand, branch_operand, table_operand, lookup_operand}
use Rattle.assembler_bodies.specs.Operands.{loaded_item, member_item, operands_of}

-- ---- what was made, from what it gave

-- each step of a making gave something
pub record Parts {A B : Type 0} (first : Option (List Constant × A)) (next : A → Making B) (x : List Constant × B) : Type 0 where
  pub made : List Constant × A
  pub first_is : first ≡ Some made
  pub next_is : next made.1 made.0 ≡ Some x

pub parts_of : {A B : Type 0} (first : Option (List Constant × A)) (next : A → Making B) (x : List Constant × B) → next_of first next ≡ Some x → Parts first next x
parts_of None next x e = absurd cc
parts_of (Some made) next x e = record { made = made; first_is = refl; next_is = e }

-- what is known without the pool leaves it
pub record Known {A : Type 0} (pool : List Constant) (o : Option A) (x : List Constant × A) : Type 0 where
  pub pool_is : pool ≡ x.0
  pub found : o ≡ Some x.1

pub known_of : {A : Type 0} (pool : List Constant) (o : Option A) (x : List Constant × A) → with_pool pool o ≡ Some x → Known pool o x
known_of pool None x e = absurd cc
known_of {A = A} pool (Some a) x e =
    let is : (pool, a) ≡ x = cc in
    record { pool_is = ap (λ (y : List Constant × A). y.0) is; found = ap (λ (y : List Constant × A). Some y.1) is }

pub found_of : {A : Type 0} (pool : List Constant) (o : Option A) (x : List Constant × A) → with_pool pool o ≡ Some x → o ≡ Some x.1
found_of pool o x e = (known_of pool o x e).found

pub record Found {A B : Type 0} (first : Option A) (next : A → Option B) (x : B) : Type 0 where
  pub value : A
  pub first_is : first ≡ Some value
  pub next_is : next value ≡ Some x

pub found_parts : {A B : Type 0} (first : Option A) (next : A → Option B) (x : B) → (first >>= next) ≡ Some x → Found first next x
found_parts None next x e = absurd cc
found_parts (Some a) next x e = record { value = a; first_is = refl; next_is = e }

-- ---- shapes

made_as : {A : Type 0} (o : Option A) (make : A → Operands ℕ) (s : Shape) (x : Operands ℕ) → ((a : A) → shape (make a) ≡ s) → (o >>= λ a. Some (make a)) ≡ Some x → shape x ≡ s
made_as None make s x each e = absurd cc
made_as (Some a) make s x each e = let is : make a ≡ x = cc in ap (λ (o : Operands ℕ). shape o) (sym is) ∙ each a

is_made : (made x : Operands ℕ) → Some made ≡ Some x → shape x ≡ shape made
is_made made x e = let is : made ≡ x = cc in ap (λ (o : Operands ℕ). shape o) (sym is)

each_length : {A B : Type 0} (find : A → Option B) (items : List A) (x : List B) → each find items ≡ Some x → length x ≡ length items
each_length find [] x e = let is : [] ≡ x = cc in ap length (sym is)
each_length find (a ∷ items) x e =
    let p = found_parts (find a) (λ b. each find items >>= λ bs. Some (b ∷ bs)) x e in
    let q = found_parts (each find items) (λ bs. Some (p.value ∷ bs)) x p.next_is in
    let r = q.next_is in
    let is : p.value ∷ q.value ≡ x = cc in
    ap length (sym is) ∙ ap suc (each_length find items q.value q.first_is)

int_shape : (form : Form) (n : ℤ) (x : Operands ℕ) → int_operand form n ≡ Some x → shape x ≡ shapes.Fixed (cond (has_one_byte form) 2 3)
unfolding int_operand
int_shape form n x = by_bytes (has_one_byte form)
  where
    by_bytes : (b : Bool) → cond b (one_byte_int n) (two_byte_int n) ≡ Some x → shape x ≡ shapes.Fixed (cond b 2 3)
    by_bytes true e = made_as (narrow w8 n) (λ k. Byte k) (shapes.Fixed 2) x (λ k. refl) e
    by_bytes false e = made_as (narrow w16 n) (λ k. Short k) (shapes.Fixed 3) x (λ k. refl) e

local_shape : (wide : Bool) (n : ℕ) (x : Operands ℕ) → local_operand wide n ≡ Some x → shape x ≡ shapes.Fixed (cond wide 4 2)
unfolding local_operand
local_shape true n x e = is_made (WideLocal n) x e
local_shape false n x e = made_as (byte n) (λ k. Local k) (shapes.Fixed 2) x (λ k. refl) e

increment_shape : (wide : Bool) (n : ℕ) (by : ℤ) (x : Operands ℕ) → increment_operand wide n by ≡ Some x → shape x ≡ shapes.Fixed (cond wide 6 3)
unfolding increment_operand
increment_shape true n by x e = is_made (WideIncrement n by) x e
increment_shape false n by x e =
    let p = found_parts (byte n) (λ local. narrow w8 by >>= λ k. Some (Increment local k)) x e in
    made_as (narrow w8 by) (λ k. Increment p.value k) (shapes.Fixed 3) x (λ k. refl) p.next_is

constant_shape : (form : Form) (index : ℕ) (x : Operands ℕ) → constant_operand form index ≡ Some x → shape x ≡ shapes.Fixed (cond (has_one_byte form) 2 3)
unfolding constant_operand
constant_shape form index x = by_bytes (has_one_byte form)
  where
    by_bytes : (b : Bool) → cond b (narrow_index index) (Some (Index index)) ≡ Some x → shape x ≡ shapes.Fixed (cond b 2 3)
    by_bytes true e = made_as (byte index) (λ k. ByteIndex k) (shapes.Fixed 2) x (λ k. refl) e
    by_bytes false e = is_made (Index index) x e

branch_shape : (marks : Marks) (form : Form) (label : List ℕ) (x : Operands ℕ) → branch_operand marks form label ≡ Some x → shape x ≡ shapes.Fixed (cond (is_far form) 5 3)
unfolding branch_operand
branch_shape marks form label x e = made_as (offset_of marks label) (λ target. cond (is_far form) (Far target) (Near target)) _ x (λ target. by_bytes (is_far form) target) e
  where
    by_bytes : (b : Bool) (target : ℕ) → shape (cond b (Far target) (Near target)) ≡ shapes.Fixed (cond b 5 3)
    by_bytes true target = refl
    by_bytes false target = refl

table_shape : (marks : Marks) (low : ℤ) (label : List ℕ) (names : List (List ℕ)) (x : Operands ℕ) → table_operand marks low label names ≡ Some x → shape x ≡ shapes.TableSwitch (length names)
unfolding table_operand
table_shape marks low label names x e =
    let p = found_parts (offset_of marks label) (λ d. each (offset_of marks) names >>= λ targets. Some (TableSwitch d low targets)) x e in
    let q = found_parts (each (offset_of marks) names) (λ targets. Some (TableSwitch p.value low targets)) x p.next_is in
    is_made (TableSwitch p.value low q.value) x q.next_is ∙ ap (λ (n : ℕ). shapes.TableSwitch n) (each_length (offset_of marks) names q.value q.first_is)

lookup_shape : (marks : Marks) (label : List ℕ) (cases : List LabelledCase) (x : Operands ℕ) → lookup_operand marks label cases ≡ Some x → shape x ≡ shapes.LookupSwitch (length cases)
unfolding lookup_operand
lookup_shape marks label cases x e =
    let p = found_parts (offset_of marks label) (λ d. each (case_of marks) cases >>= λ found. Some (LookupSwitch d found)) x e in
    let q = found_parts (each (case_of marks) cases) (λ found. Some (LookupSwitch p.value found)) x p.next_is in
    is_made (LookupSwitch p.value q.value) x q.next_is ∙ ap (λ (n : ℕ). shapes.LookupSwitch n) (each_length (case_of marks) cases q.value q.first_is)

-- an operand after one use of the pool
behind_use : (first : Option (List Constant × ℕ)) (make : ℕ → Operands ℕ) (s : Shape) (x : List Constant × Operands ℕ) → ((n : ℕ) → shape (make n) ≡ s) → next_of first (λ n. only (Some (make n))) ≡ Some x → shape x.1 ≡ s
behind_use first make s x each e =
    let p = parts_of first (λ n. only (Some (make n))) x e in
    is_made (make p.made.1) x.1 (found_of p.made.0 (Some (make p.made.1)) x p.next_is) ∙ each p.made.1

pub operands_shape : (marks : Marks) (form : Form) (wide : Bool) (operands : lines.Operands) (pool : List Constant) (x : List Constant × Operands ℕ)
    → operands_of marks form wide operands pool ≡ Some x → shape x.1 ≡ shape_of form wide operands
unfolding operands_of
operands_shape marks form wide said.None pool x e = is_made Absent x.1 (found_of pool (Some Absent) x e)
operands_shape marks form wide (said.Number n) pool x e = int_shape form n x.1 (found_of pool (int_operand form n) x e)
operands_shape marks form wide (said.Local n) pool x e = local_shape wide n x.1 (found_of pool (local_operand wide n) x e)
operands_shape marks form wide (said.Increment n by) pool x e = increment_shape wide n by x.1 (found_of pool (increment_operand wide n by) x e)
operands_shape marks form wide (said.Constant constant) pool x e =
    let p = parts_of (used (loaded_item constant) pool) (λ index. only (constant_operand form index)) x e in
    constant_shape form p.made.1 x.1 (found_of p.made.0 (constant_operand form p.made.1) x p.next_is)
operands_shape marks form wide (said.Long n) pool x e = behind_use (used (long n) pool) (λ index. Index index) (shapes.Fixed 3) x (λ index. refl) e
operands_shape marks form wide (said.Label label) pool x e = branch_shape marks form label x.1 (found_of pool (branch_operand marks form label) x e)
operands_shape marks form wide (said.TableSwitch low default names) pool x e = table_shape marks low default names x.1 (found_of pool (table_operand marks low default names) x e)
operands_shape marks form wide (said.LookupSwitch default cases) pool x e = lookup_shape marks default cases x.1 (found_of pool (lookup_operand marks default cases) x e)
operands_shape marks form wide (said.Member class name descriptor) pool x e = behind_use (used (member_item form class name descriptor) pool) (λ index. Index index) (shapes.Fixed 3) x (λ index. refl) e
operands_shape marks form wide (said.InterfaceMethod class name descriptor count) pool x e =
    behind_use (used (interface_method class name descriptor) pool) (λ index. InterfaceCall index count) (shapes.Fixed 5) x (λ index. refl) e
operands_shape marks form wide (said.Class name) pool x e = behind_use (used (class_named name) pool) (λ index. Index index) (shapes.Fixed 3) x (λ index. refl) e
operands_shape marks form wide (said.NewArray element) pool x e = is_made (NewArray element) x.1 (found_of pool (Some (NewArray element)) x e)
