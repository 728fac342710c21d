-- The lines of a body keep the pool.
use Rattle.std.proofs.Common.{◌≡◌, ℕ, Bool, List, [], ◌∷◌, Option, Some, None}
use Rattle.class_walk.specs.declared.class.Constant.{Constant}
use Rattle.instructions.specs.Table.{row_numbered}
use Rattle.instructions.specs.declared.form.Form.{Form}
use Rattle.assembler_lines.specs.declared.line.Line.{Line}
use Rattle.assembler_lines.specs.declared.line.Line.TheVariants as kinds
use Rattle.assembler_lines.specs.declared.operation.Operation.{Operation}
use Rattle.assembler_lines.specs.declared.operation.Operands as lines
use Rattle.assembler_lines.specs.declared.operation.Operands.TheVariants as said
use Rattle.assembler_lines.specs.declared.frame.FrameItem.{FrameItem}
use Rattle.assembler_lines.specs.declared.frame.FrameItem.TheVariants as items
use Rattle.code_write.specs.declared.operands.Operands.{Operands}
use Rattle.code_write.specs.declared.operands.Operands.TheVariants as operands
use Rattle.code_write.specs.declared.frames.VerificationType.{VerificationType}
use Rattle.code_write.specs.declared.frames.VerificationType.TheVariants as types
use Rattle.assembler_text.specs.declared.lines.Numbered.{Numbered}
use Rattle.assembler_pool.specs.Items.{Item, long, class_named, interface_method}
use Rattle.assembler_bodies.specs.Making.{next_of, with_pool, only, each_made, used}
use Rattle.assembler_bodies.specs.Labels.{Marks}
use Rattle.assembler_bodies.specs.Offsets.{short_offset_of}
use Rattle.assembler_bodies.specs.Operands.{loaded_item, member_item, operands_of}
use Rattle.assembler_bodies.specs.Body.{MadeBody, with_instruction, caught, with_handler, type_of, map_name_of, with_frame, step_of, step, steps}
use Rattle.assembler_bodies.proofs.ShapeLaws.{parts_of}
use Rattle.assembler_bodies.proofs.GrowLaws.{Keeps, keeps_further, keeps_known, Grows, grows_only, grows_each, used_is}

-- an item that is used, and nothing else of the pool
keeps_used : {B : Type 0} (item : Item) (pool : List Constant) (next : ℕ → Option B) (x : List Constant × B)
    → next_of (used item pool) (λ index. only (next index)) ≡ Some x → Keeps pool x.0
keeps_used item pool next x e =
    let p = parts_of (used item pool) _ x e in
    keeps_further pool p.made.0 x.0 (used_is item pool p.made p.first_is).keeps (keeps_known p.made.0 (next p.made.1) x p.next_is)

operands_keep : (marks : Marks) (form : Form) (wide : Bool) (written : lines.Operands) (pool : List Constant) (x : List Constant × Operands ℕ) → operands_of marks form wide written pool ≡ Some x → Keeps pool x.0
unfolding operands_of
operands_keep marks form wide said.None pool x e = keeps_known pool (Some operands.Absent) x e
operands_keep marks form wide (said.Number n) pool x e = keeps_known pool _ x e
operands_keep marks form wide (said.Local local) pool x e = keeps_known pool _ x e
operands_keep marks form wide (said.Increment local by) pool x e = keeps_known pool _ x e
operands_keep marks form wide (said.Constant constant) pool x e = keeps_used (loaded_item constant) pool _ x e
operands_keep marks form wide (said.Long n) pool x e = keeps_used (long n) pool (λ index. Some (operands.Index index)) x e
operands_keep marks form wide (said.Label label) pool x e = keeps_known pool _ x e
operands_keep marks form wide (said.TableSwitch low default names) pool x e = keeps_known pool _ x e
operands_keep marks form wide (said.LookupSwitch default cases) pool x e = keeps_known pool _ x e
operands_keep marks form wide (said.Member class name descriptor) pool x e = keeps_used (member_item form class name descriptor) pool (λ index. Some (operands.Index index)) x e
operands_keep marks form wide (said.InterfaceMethod class name descriptor count) pool x e = keeps_used (interface_method class name descriptor) pool (λ index. Some (operands.InterfaceCall index count)) x e
operands_keep marks form wide (said.Class name) pool x e = keeps_used (class_named name) pool (λ index. Some (operands.Index index)) x e
operands_keep marks form wide (said.NewArray element) pool x e = keeps_known pool (Some (operands.NewArray element)) x e

instruction_keeps : (marks : Marks) (operation : Operation) (old : MadeBody) (pool : List Constant) (x : List Constant × MadeBody) → with_instruction marks operation old pool ≡ Some x → Keeps pool x.0
unfolding with_instruction
instruction_keeps marks operation old pool x e =
    let p = parts_of (with_pool pool (row_numbered operation.number)) _ x e in
    let q = parts_of (operands_of marks p.made.1.form operation.is_wide operation.operands p.made.0) _ x p.next_is in
    let first = keeps_known pool (row_numbered operation.number) p.made p.first_is in
    let second = operands_keep marks p.made.1.form operation.is_wide operation.operands p.made.0 q.made q.first_is in
    keeps_further pool p.made.0 x.0 first (keeps_further p.made.0 q.made.0 x.0 second (keeps_known q.made.0 _ x q.next_is))

pub caught_keeps : (class : Option (List ℕ)) (pool : List Constant) (x : List Constant × ℕ) → caught class pool ≡ Some x → Keeps pool x.0
unfolding caught
caught_keeps None pool x e = keeps_known pool (Some 0) x e
caught_keeps (Some class) pool x e = (used_is (class_named class) pool x e).keeps

handler_keeps : (marks : Marks) (from to at : List ℕ) (class : Option (List ℕ)) (old : MadeBody) (pool : List Constant) (x : List Constant × MadeBody) → with_handler marks from to at class old pool ≡ Some x → Keeps pool x.0
unfolding with_handler
handler_keeps marks from to at class old pool x e =
    let p = parts_of (with_pool pool (short_offset_of marks from)) _ x e in
    let q = parts_of (with_pool p.made.0 (short_offset_of marks to)) _ x p.next_is in
    let r = parts_of (with_pool q.made.0 (short_offset_of marks at)) _ x q.next_is in
    let k = parts_of (caught class r.made.0) _ x r.next_is in
    keeps_further pool p.made.0 x.0 (keeps_known pool _ p.made p.first_is)
    (keeps_further p.made.0 q.made.0 x.0 (keeps_known p.made.0 _ q.made q.first_is)
    (keeps_further q.made.0 r.made.0 x.0 (keeps_known q.made.0 _ r.made r.first_is)
    (keeps_further r.made.0 k.made.0 x.0 (caught_keeps class r.made.0 k.made k.first_is) (keeps_known k.made.0 _ x k.next_is))))

grows_type : (marks : Marks) (item : FrameItem) → Grows (type_of marks item)
unfolding type_of
grows_type marks items.Top = grows_only (Some types.Top)
grows_type marks items.Int = grows_only (Some types.Int)
grows_type marks items.Long = grows_only (Some types.Long)
grows_type marks items.Null = grows_only (Some types.Null)
grows_type marks items.This = grows_only (Some types.UninitThis)
grows_type marks (items.New label) = record {
  keeps = λ pool x e.
      let p = parts_of (with_pool pool (short_offset_of marks label)) _ x e in
      keeps_further pool p.made.0 x.0 (keeps_known pool (short_offset_of marks label) p.made p.first_is) (keeps_known p.made.0 (Some (types.Uninit p.made.1)) x p.next_is);
}
grows_type marks (items.Class name) = record { keeps = λ pool x e. keeps_used (class_named name) pool (λ index. Some (types.Object index)) x e }

pub map_name_keeps : (old : Option ℕ) (pool : List Constant) (x : List Constant × ℕ) → map_name_of old pool ≡ Some x → Keeps pool x.0
unfolding map_name_of
map_name_keeps None pool x e = (used_is _ pool x e).keeps
map_name_keeps (Some name) pool x e = keeps_known pool (Some name) x e

pub types_keep : (marks : Marks) (written : List FrameItem) (pool : List Constant) (x : List Constant × List VerificationType) → each_made (type_of marks) written pool ≡ Some x → Keeps pool x.0
types_keep marks written pool x e = (grows_each (type_of marks) (λ item. grows_type marks item) written).keeps pool x e

frame_keeps : (marks : Marks) (locals stack : List FrameItem) (old : MadeBody) (pool : List Constant) (x : List Constant × MadeBody) → with_frame marks locals stack old pool ≡ Some x → Keeps pool x.0
unfolding with_frame
frame_keeps marks locals stack old pool x e =
    let p = parts_of (map_name_of old.map_name pool) _ x e in
    let q = parts_of (each_made (type_of marks) locals p.made.0) _ x p.next_is in
    let r = parts_of (each_made (type_of marks) stack q.made.0) _ x q.next_is in
    keeps_further pool p.made.0 x.0 (map_name_keeps old.map_name pool p.made p.first_is)
    (keeps_further p.made.0 q.made.0 x.0 (types_keep marks locals p.made.0 q.made q.first_is)
    (keeps_further q.made.0 r.made.0 x.0 (types_keep marks stack q.made.0 r.made r.first_is) (keeps_known r.made.0 _ x r.next_is)))

pub step_keeps : (marks : Marks) (number : ℕ) (line : Option Line) (old : MadeBody) (pool : List Constant) (x : List Constant × MadeBody) → step_of marks number line old pool ≡ Some x → Keeps pool x.0
step_keeps marks number (Some (kinds.Label name)) old pool x e = keeps_known pool _ x e
step_keeps marks number (Some (kinds.Instruction operation)) old pool x e = instruction_keeps marks operation old pool x e
step_keeps marks number (Some (kinds.Handler from to at class)) old pool x e = handler_keeps marks from to at class old pool x e
step_keeps marks number (Some (kinds.Frame locals stack)) old pool x e = frame_keeps marks locals stack old pool x e
step_keeps marks number _ old pool x e = absurd cc

pub steps_keep : (marks : Marks) (lines : List Numbered) (old : MadeBody) (pool : List Constant) (x : List Constant × MadeBody) → steps marks lines old pool ≡ Some x → Keeps pool x.0
steps_keep marks [] old pool x e = keeps_known pool (Some old) x e
steps_keep marks (n ∷ lines) old pool x e =
    let p = parts_of (step marks n old pool) (λ b. steps marks lines b) x e in
    keeps_further pool p.made.0 x.0 (step_keeps marks n.number n.line old pool p.made p.first_is) (steps_keep marks lines p.made.1 p.made.0 x p.next_is)
