-- The numbers of a body have two bytes, as far as it is made.
use Rattle.std.proofs.Common.{◌≡◌, ℕ, ◌^◌, ◌<◌, ltb, List, [], ◌∷◌, ◌++◌, length, Option, Some, None, sym, ap, subst, arith, length-append}
use Rattle.std.specs.Prelude.{codes}
use Rattle.std.proofs.lemmas.Bool.Decides.{Decides-ltb}
use Rattle.class_walk.specs.declared.class.Constant.{Constant}
use Rattle.class_walk.specs.declared.class.RawHandler.{RawHandler}
use Rattle.class_walk.specs.Layout.{IsCounted, IsRawHandler}
use Rattle.class_names.proofs.Cases.{all_pushed}
use Rattle.class_pool.specs.Pool.{IsUtf8At}
use Rattle.assembler_lines.specs.declared.line.Line.{Line}
use Rattle.assembler_lines.specs.declared.line.Line.TheVariants as kinds
use Rattle.assembler_lines.specs.declared.line.Room.{Room}
use Rattle.assembler_lines.specs.declared.operation.Operation.{Operation}
use Rattle.assembler_lines.specs.declared.frame.FrameItem.{FrameItem}
use Rattle.assembler_text.specs.declared.lines.Numbered.{Numbered}
use Rattle.code_write.specs.declared.frames.VerificationType.{VerificationType}
use Rattle.assembler_pool.specs.Items.{text, class_named}
use Rattle.assembler_pool.specs.Uses.{Extends}
use Rattle.assembler_bodies.specs.Making.{with_pool, each_made}
use Rattle.assembler_bodies.specs.Labels.{Marks}
use Rattle.assembler_bodies.specs.Offsets.{short_offset_of}
use Rattle.assembler_bodies.specs.Put.{Puts}
use Rattle.assembler_bodies.specs.Body.{MadeBody, begun, caught, put_handler, with_handler, type_of, map_name_of, put_frame, with_frame, is_first_at, step_of, step, steps}
use Rattle.assembler_pool.proofs.UseLaws.{extends_further}
use Rattle.assembler_bodies.proofs.ShapeLaws.{parts_of, found_of}
use Rattle.assembler_bodies.proofs.StepLaws.{chosen, instruction_puts}
use Rattle.assembler_laws.proofs.BodyMeaning.WritesLaws.{short_leads}
use Rattle.assembler_bodies.proofs.GrowLaws.{Keeps, keeps_further, keeps_known, used_is, used_at}
use Rattle.assembler_bodies.proofs.StepGrows.{types_keep, steps_keep}

-- the name of the stack map is at its index
abbrev pub IsMapName : List Constant → Option ℕ → Type 0
IsMapName last None = Unit {0}
IsMapName last (Some name) = IsUtf8At last name (codes "StackMapTable")

-- each number of the body has its width
pub record IsSoundBody (last : List Constant) (body : MadeBody) : Type 0 where
  pub stack : body.stack < 2 ^ 16
  pub locals : body.locals < 2 ^ 16
  pub code : length body.code < 2 ^ 16
  pub handlers : IsCounted IsRawHandler body.handlers
  pub map_name : IsMapName last body.map_name

pub begun_sound : (last : List Constant) (room : Room) → room.stack < 2 ^ 16 → room.locals < 2 ^ 16 → IsSoundBody last (begun room)
begun_sound last room stack locals = record { stack = stack; locals = locals; code = omega arith; handlers = (omega arith, tt); map_name = tt }

-- ---- instructions

instruction_sound : (last : List Constant) (operation : Operation) (old new : MadeBody) → Puts operation old new → IsSoundBody last old → IsSoundBody last new
instruction_sound last operation old new puts is =
    let new_is = puts.put in
    record {
      stack = omega (arith, ap (λ (b : MadeBody). b.stack) new_is, is.stack);
      locals = omega (arith, ap (λ (b : MadeBody). b.locals) new_is, is.locals);
      code = puts.room;
      handlers = subst (λ (hs : List RawHandler). IsCounted IsRawHandler hs) (sym (ap (λ (b : MadeBody). b.handlers) new_is)) is.handlers;
      map_name = subst (IsMapName last) (sym (ap (λ (b : MadeBody). b.map_name) new_is)) is.map_name;
    }

-- ---- handlers

caught_short : (class : Option (List ℕ)) (pool : List Constant) (x : List Constant × ℕ) → caught class pool ≡ Some x → x.1 < 2 ^ 16
unfolding caught
caught_short None pool x e =
    let zero : Some 0 ≡ Some x.1 = found_of pool (Some 0) x e in
    let is : 0 ≡ x.1 = cc in
    omega (arith, is)
caught_short (Some class) pool x e = (used_is (class_named class) pool x e).short

put_sound : (last : List Constant) (handler : RawHandler) (old new : MadeBody) → IsRawHandler handler → put_handler handler old ≡ Some new → IsSoundBody last old → IsSoundBody last new
unfolding put_handler
put_sound last handler old new right e is =
    let got = chosen (ltb (length old.handlers) 65535) (record old { handlers = old.handlers ++ handler ∷ [] }) new e in
    let new_is = got.1 in
    let few = (Decides-ltb (length old.handlers) 65535).0 got.0 in
    let count : length (old.handlers ++ handler ∷ []) < 2 ^ 16 = omega (arith, few, length-append old.handlers (handler ∷ [])) in
    record {
      stack = omega (arith, ap (λ (b : MadeBody). b.stack) new_is, is.stack);
      locals = omega (arith, ap (λ (b : MadeBody). b.locals) new_is, is.locals);
      code = omega (arith, ap (λ (b : MadeBody). length b.code) new_is, is.code);
      handlers = subst (λ (hs : List RawHandler). IsCounted IsRawHandler hs) (sym (ap (λ (b : MadeBody). b.handlers) new_is)) (count, all_pushed IsRawHandler old.handlers handler is.handlers.1 right);
      map_name = subst (IsMapName last) (sym (ap (λ (b : MadeBody). b.map_name) new_is)) is.map_name;
    }

handler_sound : (last : List Constant) (marks : Marks) (from to at : List ℕ) (class : Option (List ℕ)) (old : MadeBody) (pool : List Constant) (x : List Constant × MadeBody)
    → with_handler marks from to at class old pool ≡ Some x → IsSoundBody last old → IsSoundBody last x.1
unfolding with_handler
handler_sound last marks from to at class old pool x e is =
    let p = parts_of (with_pool pool (short_offset_of marks from)) _ x e in
    let q = parts_of (with_pool p.made.0 (short_offset_of marks to)) _ x p.next_is in
    let r = parts_of (with_pool q.made.0 (short_offset_of marks at)) _ x q.next_is in
    let k = parts_of (caught class r.made.0) _ x r.next_is in
    let handler : RawHandler = record { from = p.made.1; to = q.made.1; at = r.made.1; kind = k.made.1 } in
    let right : IsRawHandler handler = record {
      from = (short_leads marks from p.made.1 (found_of pool (short_offset_of marks from) p.made p.first_is)).1;
      to = (short_leads marks to q.made.1 (found_of p.made.0 (short_offset_of marks to) q.made q.first_is)).1;
      at = (short_leads marks at r.made.1 (found_of q.made.0 (short_offset_of marks at) r.made r.first_is)).1;
      kind = caught_short class r.made.0 k.made k.first_is;
    } in
    put_sound last handler old x.1 right (found_of k.made.0 (put_handler handler old) x k.next_is) is

-- ---- frames

name_sound : (last : List Constant) (old : Option ℕ) (pool : List Constant) (x : List Constant × ℕ) → Extends x.0 last → IsMapName last old → map_name_of old pool ≡ Some x → IsMapName last (Some x.1)
unfolding map_name_of
name_sound last None pool x more is e = used_at (text (codes "StackMapTable")) pool last x (used_is (text (codes "StackMapTable")) pool x e) more
name_sound last (Some name) pool x more is e =
    let found : Some name ≡ Some x.1 = found_of pool (Some name) x e in
    subst (IsMapName last) found is

put_frame_sound : (last : List Constant) (name : ℕ) (locals stack : List VerificationType) (old new : MadeBody) → IsMapName last (Some name) → put_frame name locals stack old ≡ Some new → IsSoundBody last old → IsSoundBody last new
unfolding put_frame
put_frame_sound last name locals stack old new named e is =
    let new_is = (chosen _ _ new e).1 in
    record {
      stack = omega (arith, ap (λ (b : MadeBody). b.stack) new_is, is.stack);
      locals = omega (arith, ap (λ (b : MadeBody). b.locals) new_is, is.locals);
      code = omega (arith, ap (λ (b : MadeBody). length b.code) new_is, is.code);
      handlers = subst (λ (hs : List RawHandler). IsCounted IsRawHandler hs) (sym (ap (λ (b : MadeBody). b.handlers) new_is)) is.handlers;
      map_name = subst (IsMapName last) (sym (ap (λ (b : MadeBody). b.map_name) new_is)) named;
    }

frame_sound : (last : List Constant) (marks : Marks) (locals stack : List FrameItem) (old : MadeBody) (pool : List Constant) (x : List Constant × MadeBody) → Extends x.0 last
    → with_frame marks locals stack old pool ≡ Some x → IsSoundBody last old → IsSoundBody last x.1
unfolding with_frame
frame_sound last marks locals stack old pool x more e is =
    let p = parts_of (map_name_of old.map_name pool) _ x e in
    let q = parts_of (each_made (type_of marks) locals p.made.0) _ x p.next_is in
    let r = parts_of (each_made (type_of marks) stack q.made.0) _ x q.next_is in
    let put : Option MadeBody = put_frame p.made.1 q.made.1 r.made.1 old in
    let kept : Keeps p.made.0 x.0 =
    keeps_further p.made.0 q.made.0 x.0 (types_keep marks locals p.made.0 q.made q.first_is)
    (keeps_further q.made.0 r.made.0 x.0 (types_keep marks stack q.made.0 r.made r.first_is) (keeps_known r.made.0 put x r.next_is)) in
    let named = name_sound last old.map_name pool p.made (extends_further p.made.0 x.0 last kept.extends more) is.map_name p.first_is in
    put_frame_sound last p.made.1 q.made.1 r.made.1 old x.1 named (found_of r.made.0 put x r.next_is) is

-- ---- lines

step_sound : (last : List Constant) (marks : Marks) (number : ℕ) (line : Option Line) (old : MadeBody) (pool : List Constant) (x : List Constant × MadeBody) → length last < 2 ^ 16 → Extends x.0 last
    → step_of marks number line old pool ≡ Some x → IsSoundBody last old → IsSoundBody last x.1
step_sound last marks number (Some (kinds.Label name)) old pool x count more e is =
    let same = (chosen (is_first_at number (marks name)) old x.1 (found_of pool _ x e)).1 in
    subst (IsSoundBody last) (sym same) is
step_sound last marks number (Some (kinds.Instruction operation)) old pool x count more e is = instruction_sound last operation old x.1 (instruction_puts marks operation old pool x e) is
step_sound last marks number (Some (kinds.Handler from to at class)) old pool x count more e is = handler_sound last marks from to at class old pool x e is
step_sound last marks number (Some (kinds.Frame locals stack)) old pool x count more e is = frame_sound last marks locals stack old pool x more e is
step_sound last marks number _ old pool x count more e is = absurd cc

-- a body is sound after its lines
pub steps_sound : (last : List Constant) (marks : Marks) (lines : List Numbered) (old : MadeBody) (pool : List Constant) (x : List Constant × MadeBody) → length last < 2 ^ 16 → Extends x.0 last
    → steps marks lines old pool ≡ Some x → IsSoundBody last old → IsSoundBody last x.1
steps_sound last marks [] old pool x count more e is =
    let same : Some old ≡ Some x.1 = found_of pool (Some old) x e in
    let is_same : old ≡ x.1 = cc in
    subst (IsSoundBody last) is_same is
steps_sound last marks (n ∷ lines) old pool x count more e is =
    let p = parts_of (step marks n old pool) (λ b. steps marks lines b) x e in
    let behind = (steps_keep marks lines p.made.1 p.made.0 x p.next_is).extends in
    steps_sound last marks lines p.made.1 p.made.0 x count more p.next_is
    (step_sound last marks n.number n.line old pool p.made count (extends_further p.made.0 x.0 last behind more) p.first_is is)
