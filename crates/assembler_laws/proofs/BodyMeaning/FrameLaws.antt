-- A line that is a frame appends it, as the line says it.
use Rattle.std.proofs.Common.{◌≡◌, ℕ, ◌+◌, ◌-◌, ◌^◌, ◌<◌, ◌≤◌, ◌&&◌, nat_lt, nat_le, List, [], ◌∷◌, ◌++◌, length, Some, refl, sym, subst, ltb-true}
use Rattle.std.specs.List.{AllByRecursion, AllZip}
use Rattle.std.proofs.lemmas.Bool.{and_parts, leb-true}
use Rattle.std.proofs.lemmas.Option.{same_Some}
use Rattle.class_walk.specs.declared.class.Constant.{Constant}
use Rattle.class_walk.specs.Layout.{IsCounted}
use Rattle.class_pool.specs.Pool.{IsClassAt}
use Rattle.assembler_lines.specs.declared.frame.FrameItem.{FrameItem}
use Rattle.assembler_lines.specs.declared.frame.FrameItem.TheVariants as items
use Rattle.code_write.specs.declared.frames.VerificationType.{VerificationType}
use Rattle.code_write.specs.declared.frames.VerificationType.TheVariants as types
use Rattle.code_write.specs.Frame.{Placed, full_frame}
use Rattle.assembler_pool.specs.Uses.{Extends}
use Rattle.assembler_pool.specs.Items.{class_named}
use Rattle.assembler_pool.proofs.ItemLaws.{item_stays}
use Rattle.assembler_pool.proofs.UseLaws.{extends_further}
use Rattle.assembler_bodies.specs.Making.{◌>>=◌, only, with_pool, each_made, used}
use Rattle.assembler_bodies.specs.Labels.{Marks}
use Rattle.assembler_bodies.specs.Offsets.{short_offset_of}
use Rattle.assembler_bodies.specs.Body.{MadeBody, map_name_of, type_of, put_frame, with_frame}
use Rattle.assembler_bodies.proofs.GrowLaws.{used_is}
use Rattle.assembler_bodies.proofs.ShapeLaws.{parts_of, known_of}
use Rattle.assembler_bodies.proofs.StepGrows.{types_keep}
use Rattle.assembler_bodies.proofs.StepLaws.{chosen}
use Rattle.assembler_laws.specs.WrittenCode.Frames.{HasWidth}
use Rattle.code_write.specs.declared.operands.Written.{Written}
use Rattle.assembler_laws.specs.BodyMeaning.Parts.{SaidFrame}
use Rattle.assembler_laws.proofs.BodyMeaning.PlaceLaws.{Stands}
use Rattle.assembler_laws.proofs.BodyMeaning.WritesLaws.{Leads, short_leads}

-- a type as a line says it, and as it is written
abbrev pub IsType : Marks → List Constant → FrameItem → VerificationType → Type 0
IsType marks pool items.Top t = t ≡ types.Top
IsType marks pool items.Int t = t ≡ types.Int
IsType marks pool items.Long t = t ≡ types.Long
IsType marks pool items.Null t = t ≡ types.Null
IsType marks pool items.This t = t ≡ types.UninitThis
IsType marks pool (items.New label) t = (at : ℕ) × (t ≡ types.Uninit at) × Leads marks label at
IsType marks pool (items.Class name) t = (index : ℕ) × (t ≡ types.Object index) × IsClassAt pool index name

record TypeMade (marks : Marks) (item : FrameItem) (pool : List Constant) (x : List Constant × VerificationType) : Type 0 where
  pub width : HasWidth x.1
  pub is : (last : List Constant) → Extends x.0 last → IsType marks last item x.1

-- a type that needs no entry of the pool
free_type : (marks : Marks) (item : FrameItem) (pool : List Constant) (x : List Constant × VerificationType) (t : VerificationType)
    → HasWidth t → ((last : List Constant) → IsType marks last item t) → with_pool pool (Some t) ≡ Some x → TypeMade marks item pool x
free_type marks item pool x t width is e =
    let known = known_of pool (Some t) x e in
    let same = same_Some t x.1 known.found in
    record {
      width = subst HasWidth same width;
      is = λ last more. subst (λ (y : VerificationType). IsType marks last item y) same (is last);
    }

type_made : (marks : Marks) (item : FrameItem) (pool : List Constant) (x : List Constant × VerificationType) → type_of marks item pool ≡ Some x → TypeMade marks item pool x
unfolding type_of
type_made marks items.Top pool x e = free_type marks items.Top pool x types.Top tt (λ last. refl) e
type_made marks items.Int pool x e = free_type marks items.Int pool x types.Int tt (λ last. refl) e
type_made marks items.Long pool x e = free_type marks items.Long pool x types.Long tt (λ last. refl) e
type_made marks items.Null pool x e = free_type marks items.Null pool x types.Null tt (λ last. refl) e
type_made marks items.This pool x e = free_type marks items.This pool x types.UninitThis tt (λ last. refl) e
type_made marks (items.New label) pool x e =
    let p = parts_of (with_pool pool (short_offset_of marks label)) (λ at. only (Some (types.Uninit at))) x e in
    let known = known_of pool (short_offset_of marks label) p.made p.first_is in
    let leads = short_leads marks label p.made.1 known.found in
    let made = free_type marks (items.New label) p.made.0 x (types.Uninit p.made.1) leads.1 (λ last. (p.made.1, refl, leads.0)) p.next_is in
    record { width = made.width; is = made.is }
type_made marks (items.Class name) pool x e =
    let p = parts_of (used (class_named name) pool) (λ index. only (Some (types.Object index))) x e in
    let is_used = used_is (class_named name) pool p.made p.first_is in
    let known = known_of p.made.0 (Some (types.Object p.made.1)) x p.next_is in
    let same = same_Some (types.Object p.made.1) x.1 known.found in
    record {
      width = subst HasWidth same is_used.short;
      is = λ last more.
          let kept : IsClassAt last p.made.1 name = item_stays (class_named name) p.made.0 last p.made.1 (subst (λ (q : List Constant). Extends q last) (sym known.pool_is) more) is_used.at in
          (p.made.1, sym same, kept);
    }

record TypesMade (marks : Marks) (items : List FrameItem) (pool : List Constant) (x : List Constant × List VerificationType) : Type 0 where
  pub widths : AllByRecursion HasWidth x.1
  pub are : (last : List Constant) → Extends x.0 last → AllZip (IsType marks last) items x.1

types_made : (marks : Marks) (items : List FrameItem) (pool : List Constant) (x : List Constant × List VerificationType) → each_made (type_of marks) items pool ≡ Some x → TypesMade marks items pool x
types_made marks [] pool x e =
    let known = known_of pool (Some []) x e in
    let same = same_Some [] x.1 known.found in
    record {
      widths = subst (AllByRecursion HasWidth) same tt;
      are = λ last more. subst (λ (ts : List VerificationType). AllZip (IsType marks last) [] ts) same tt;
    }
types_made marks (item ∷ items) pool x e =
    let p = parts_of (type_of marks item pool) (λ t. each_made (type_of marks) items >>= λ ts. only (Some (t ∷ ts))) x e in
    let q = parts_of (each_made (type_of marks) items p.made.0) (λ ts. only (Some (p.made.1 ∷ ts))) x p.next_is in
    let known = known_of q.made.0 (Some (p.made.1 ∷ q.made.1)) x q.next_is in
    let same = same_Some (p.made.1 ∷ q.made.1) x.1 known.found in
    let first = type_made marks item pool p.made p.first_is in
    let others = types_made marks items p.made.0 q.made q.first_is in
    record {
      widths = subst (AllByRecursion HasWidth) same (first.width, others.widths);
      are = λ last more.
          let on = subst (λ (r : List Constant). Extends r last) (sym known.pool_is) more in
          subst (λ (ts : List VerificationType). AllZip (IsType marks last) (item ∷ items) ts) same
          (first.is last (extends_further p.made.0 q.made.0 last (types_keep marks items p.made.0 q.made q.first_is).extends on), others.are last on);
    }

-- the body with a frame more
abbrev pub with_placed : MadeBody → ℕ → List VerificationType → List VerificationType → MadeBody
with_placed body name locals stack = record body {
  map_name = Some name;
  frames = body.frames ++ full_frame (length body.code - body.least) locals stack;
  frame_count = body.frame_count + 1;
  least = length body.code + 1;
}

record HasRoom (name : ℕ) (locals stack : List VerificationType) (old new : MadeBody) : Type 0 where
  pub later : old.least ≤ length old.code
  pub few : old.frame_count < 65535
  pub locals_few : length locals < 2 ^ 16
  pub stack_few : length stack < 2 ^ 16
  pub put : new ≡ with_placed old name locals stack

has_room : (name : ℕ) (locals stack : List VerificationType) (old new : MadeBody) → put_frame name locals stack old ≡ Some new → HasRoom name locals stack old new
unfolding put_frame
has_room name locals stack old new e =
    let is = chosen (nat_le old.least (length old.code) && (nat_lt old.frame_count 65535 && (nat_lt (length locals) (2 ^ 16) && nat_lt (length stack) (2 ^ 16)))) (with_placed old name locals stack) new e in
    let first = and_parts (nat_le old.least (length old.code)) _ is.0 in
    let second = and_parts (nat_lt old.frame_count 65535) _ first.1 in
    let third = and_parts (nat_lt (length locals) (2 ^ 16)) (nat_lt (length stack) (2 ^ 16)) second.1 in
    record {
      later = leb-true old.least (length old.code) first.0;
      few = ltb-true old.frame_count 65535 second.0;
      locals_few = ltb-true (length locals) (2 ^ 16) third.0;
      stack_few = ltb-true (length stack) (2 ^ 16) third.1;
      put = is.1;
    }

-- the types are those that the line says, and the frame has room
pub record PutsFrame (marks : Marks) (locals stack : List FrameItem) (old : MadeBody) (pool : List Constant) (x : List Constant × MadeBody) : Type 0 where
  pub name : ℕ
  pub local_types : List VerificationType
  pub stack_types : List VerificationType
  pub locals_are : (last : List Constant) → Extends x.0 last → AllZip (IsType marks last) locals local_types
  pub stack_is : (last : List Constant) → Extends x.0 last → AllZip (IsType marks last) stack stack_types
  pub locals_wide : IsCounted HasWidth local_types
  pub stack_wide : IsCounted HasWidth stack_types
  pub later : old.least ≤ length old.code
  pub few : old.frame_count < 65535
  pub put : x.1 ≡ with_placed old name local_types stack_types

pub frame_put : (marks : Marks) (locals stack : List FrameItem) (old : MadeBody) (pool : List Constant) (x : List Constant × MadeBody)
    → with_frame marks locals stack old pool ≡ Some x → PutsFrame marks locals stack old pool x
unfolding with_frame
frame_put marks locals stack old pool x e =
    let p = parts_of (map_name_of old.map_name pool) _ x e in
    let q = parts_of (each_made (type_of marks) locals p.made.0) _ x p.next_is in
    let r = parts_of (each_made (type_of marks) stack q.made.0) _ x q.next_is in
    let end = known_of r.made.0 (put_frame p.made.1 q.made.1 r.made.1 old) x r.next_is in
    let room = has_room p.made.1 q.made.1 r.made.1 old x.1 end.found in
    let local = types_made marks locals p.made.0 q.made q.first_is in
    let on = types_made marks stack q.made.0 r.made r.first_is in
    record {
      name = p.made.1;
      local_types = q.made.1;
      stack_types = r.made.1;
      locals_are = λ last more. local.are last (extends_further q.made.0 r.made.0 last (types_keep marks stack q.made.0 r.made r.first_is).extends (subst (λ (l : List Constant). Extends l last) (sym end.pool_is) more));
      stack_is = λ last more. on.are last (subst (λ (l : List Constant). Extends l last) (sym end.pool_is) more);
      locals_wide = (room.locals_few, local.widths);
      stack_wide = (room.stack_few, on.widths);
      later = room.later;
      few = room.few;
      put = room.put;
    }

-- a frame that is made of what a line says
pub record IsPut (marks : Marks) (pool : List Constant) (at n : ℕ) (ws : List (Written ℕ)) (said : SaidFrame) (p : Placed) : Type 0 where
  pub stands : Stands at n ws p.at said.step
  pub locals : AllZip (IsType marks pool) said.locals p.locals
  pub stack : AllZip (IsType marks pool) said.stack p.stack
