-- Handlers and frames that are read are those that the lines say.
use Rattle.std.proofs.Common.{◌≡◌, ℕ, suc, ◌^◌, ◌<◌, Bool, true, false, cond, nat_eq, List, [], ◌∷◌, ◌++◌, length, Option, Some, None, refl, sym, ap, subst, ◌∙◌, ◌⊎◌, inl, inr, arith, length-append}
use Rattle.std.specs.List.{AllByRecursion, AllZip}
use Rattle.std.proofs.lemmas.Bool.{eqb-true}
use Rattle.std.proofs.lemmas.Option.{same_Some}
use Rattle.class_walk.specs.declared.class.Constant.{Constant}
use Rattle.class_walk.specs.declared.class.RawHandler.{RawHandler}
use Rattle.class_walk.specs.Layout.{u2}
use Rattle.instructions.specs.declared.what.Instr.{Instr}
use Rattle.instructions.specs.declared.what.Target.{Target}
use Rattle.instructions.specs.Steps.{number_at}
use Rattle.code_frames.specs.declared.types.MapFrame.{MapFrame}
use Rattle.code_frames.specs.declared.types.VType.{VType}
use Rattle.code_frames.specs.StackMap.{IsItem, IsStackMap}
use Rattle.code_decode.specs.declared.code.Handler.{Handler}
use Rattle.code_decode.specs.Handlers.{end_at, IsHandler, AreHandlers}
use Rattle.assembler_lines.specs.declared.frame.FrameItem.{FrameItem}
use Rattle.assembler_lines.specs.declared.frame.FrameItem.TheVariants as items
use Rattle.code_write.specs.declared.frames.VerificationType.{VerificationType}
use Rattle.code_write.specs.declared.frames.VerificationType.TheVariants as types
use Rattle.code_write.specs.declared.operands.Written.{Written}
use Rattle.code_write.specs.Frame.{Placed, frames_bytes, map_bytes, type_of, types_of}
use Rattle.assembler_bodies.specs.Labels.{Marks}
use Rattle.assembler_laws.specs.WrittenCode.Frames.{HaveWidths, IsAsPlaced, AreAsPlaced}
use Rattle.assembler_laws.specs.BodyMeaning.Parts.{Places, SaidHandler, SaidFrame}
use Rattle.assembler_laws.specs.BodyMeaning.Tables.{IsCaught, SaysHandler, SaysType, SaysFrame}
use Rattle.assembler_laws.specs.BodyMeaning.Body.{maps_content}
use Rattle.assembler_laws.proofs.BodyMeaning.PlaceLaws.{Stands}
use Rattle.assembler_laws.proofs.BodyMeaning.WritesLaws.{Leads}
use Rattle.assembler_laws.proofs.BodyMeaning.HandlerLaws.{IsRaw}
use Rattle.assembler_laws.proofs.BodyMeaning.FrameLaws.{IsType, IsPut}

-- a relation through lists of one length
pub zip_on : {A B C : Type 0} (P : A → B → Type 0) (Q : B → C → Type 0) (R : A → C → Type 0) → ((a : A) (b : B) (c : C) → P a b → Q b c → R a c)
    → (xs : List A) (ys : List B) (zs : List C) → AllZip P xs ys → AllZip Q ys zs → AllZip R xs zs
zip_on P Q R on [] [] [] ps qs = tt
zip_on P Q R on [] [] (z ∷ zs) ps qs = absurd qs
zip_on P Q R on [] (y ∷ ys) zs ps qs = absurd ps
zip_on P Q R on (x ∷ xs) [] zs ps qs = absurd ps
zip_on P Q R on (x ∷ xs) (y ∷ ys) [] ps qs = absurd qs
zip_on P Q R on (x ∷ xs) (y ∷ ys) (z ∷ zs) ps qs = (on x y z ps.0 qs.0, zip_on P Q R on xs ys zs ps.1 qs.1)

handlers_zip : (pool : List Constant) (steps : List (Instr Target)) (size : ℕ) (table : List RawHandler) (handlers : List Handler) → AreHandlers pool steps size table handlers
    → AllZip (IsHandler pool steps size) table handlers
handlers_zip pool steps size [] [] are = tt
handlers_zip pool steps size [] (h ∷ handlers) are = absurd (omega (arith, are.count))
handlers_zip pool steps size (raw ∷ table) [] are = absurd (omega (arith, are.count))
handlers_zip pool steps size (raw ∷ table) (h ∷ handlers) are =
    let others : AreHandlers pool steps size table handlers = record { count = omega (arith, are.count); each = λ k r g there here. are.each (suc k) r g there here } in
    (are.each 0 raw h refl refl, handlers_zip pool steps size table handlers others)

-- an end of a range is an instruction's offset or the code's end
end_cases : (steps : List (Instr Target)) (size offset k : ℕ) → end_at steps size offset ≡ Some k → ((offset ≡ size) × (k ≡ length steps)) ⊎ (number_at steps offset ≡ Some k)
end_cases steps size offset k e = by_end (nat_eq offset size) refl e
  where
    by_end : (b : Bool) → nat_eq offset size ≡ b → cond b (Some (length steps)) (number_at steps offset) ≡ Some k → ((offset ≡ size) × (k ≡ length steps)) ⊎ (number_at steps offset ≡ Some k)
    by_end true same is = inl (eqb-true offset size same, sym (same_Some (length steps) k is))
    by_end false other is = inr is

module _ (marks : Marks) (places : Places) (pool : List Constant) (steps : List (Instr Target)) (size : ℕ)
    (resolve : (label : List ℕ) (offset j : ℕ) → Leads marks label offset → number_at steps offset ≡ Some j → places label ≡ Some j)
    (resolve_end : (label : List ℕ) (offset : ℕ) → Leads marks label offset → offset ≡ size → places label ≡ Some (length steps)) where
  handler_says : (said : SaidHandler) (raw : RawHandler) (h : Handler) → IsRaw marks pool said raw → IsHandler pool steps size raw h → SaysHandler pool places said h
  handler_says said raw h is read = record {
    first = resolve said.from raw.from h.first is.first read.first;
    end = elim (end_cases steps size raw.to h.end read.end) [
      | inl last ↦ resolve_end said.to raw.to is.end last.0 ∙ ap (λ (k : ℕ). Some k) (sym last.1)
      | inr earlier ↦ resolve said.to raw.to h.end is.end earlier
    ];
    entry = resolve said.at raw.at h.entry is.entry read.entry;
    caught = subst (λ (kind : ℕ). IsCaught pool said.class kind) (sym read.places.3) is.caught;
  }

  pub handlers_say : (said : List SaidHandler) (table : List RawHandler) (handlers : List Handler) → AllZip (IsRaw marks pool) said table → AreHandlers pool steps size table handlers
      → AllZip (SaysHandler pool places) said handlers
  handlers_say said table handlers are read =
      zip_on (IsRaw marks pool) (IsHandler pool steps size) (SaysHandler pool places) handler_says said table handlers are (handlers_zip pool steps size table handlers read)

module _ (marks : Marks) (places : Places) (pool : List Constant) (steps : List (Instr Target)) (ws : List (Written ℕ))
    (resolve : (label : List ℕ) (offset j : ℕ) → Leads marks label offset → number_at steps offset ≡ Some j → places label ≡ Some j)
    (number : (offset k j : ℕ) → Stands 0 0 ws offset k → number_at steps offset ≡ Some j → j ≡ k) where
  type_says : (item : FrameItem) (t : VerificationType) → IsType marks pool item t → IsItem pool steps (type_of t) → SaysType pool places steps item (type_of t)
  type_says items.Top t is right = ap type_of is
  type_says items.Int t is right = ap type_of is
  type_says items.Long t is right = ap type_of is
  type_says items.Null t is right = ap type_of is
  type_says items.This t is right = ap type_of is
  type_says (items.New label) t is right =
      let new : IsItem pool steps (type_of (types.Uninit is.0)) = subst (λ (y : VerificationType). IsItem pool steps (type_of y)) is.1 right in
      (is.0, new.1.0, ap type_of is.1, new.1.3, resolve label is.0 new.1.0 is.2 new.1.3)
  type_says (items.Class name) t is right = (is.0, ap type_of is.1, is.2)

  types_say : (said : List FrameItem) (ts : List VerificationType) → AllZip (IsType marks pool) said ts → AllByRecursion (IsItem pool steps) (types_of ts) → AllZip (SaysType pool places steps) said (types_of ts)
  types_say [] [] are right = tt
  types_say [] (t ∷ ts) are right = absurd are
  types_say (item ∷ said) [] are right = absurd are
  types_say (item ∷ said) (t ∷ ts) are right = (type_says item t are.0 right.0, types_say said ts are.1 right.1)

  frame_says : (said : SaidFrame) (p : Placed) (f : MapFrame) → IsPut marks pool 0 0 ws said p → IsAsPlaced pool steps p f → SaysFrame pool places steps said f
  frame_says said p f is read = record {
    step = number p.at said.step f.step is.stands read.step;
    types = types_of p.locals;
    locals = read.locals;
    locals_are = types_say said.locals p.locals is.locals read.locals_right;
    stack_is = subst (λ (ts : List VType). AllZip (SaysType pool places steps) said.stack ts) (sym read.stack) (types_say said.stack p.stack is.stack read.stack_right);
  }

  pub frames_say : (said : List SaidFrame) (placed : List Placed) (frames : List MapFrame) → AllZip (IsPut marks pool 0 0 ws) said placed → AreAsPlaced pool steps placed frames
      → AllZip (SaysFrame pool places steps) said frames
  frames_say said placed frames are read = zip_on (IsPut marks pool 0 0 ws) (IsAsPlaced pool steps) (SaysFrame pool places steps) frame_says said placed frames are read

-- ---- the stack map

no_bytes : (count : ℕ) (bytes : List ℕ) → [] ≡ u2 count ++ bytes → ⊥
no_bytes count bytes e = omega (arith, ap length e, length-append (u2 count) bytes)

-- a body without frames has no stack map, and is read without frames
pub map_read : (pool : List Constant) (steps : List (Instr Target)) (entry : ℕ) (name : Option ℕ) (count : ℕ) (bytes : List ℕ) (placed : List Placed) (frames : List MapFrame)
    → (HaveWidths 0 placed → length placed < 2 ^ 16 → IsStackMap pool steps entry (map_bytes placed) frames → AreAsPlaced pool steps placed frames)
    → bytes ≡ frames_bytes 0 placed → count ≡ length placed → (name ≡ None → placed ≡ []) → count < 2 ^ 16 → HaveWidths 0 placed
    → IsStackMap pool steps entry (maps_content name count bytes) frames → AreAsPlaced pool steps placed frames
map_read pool steps entry None count bytes placed frames only bytes_are count_is none few wide (inl is) =
    let empty : AreAsPlaced pool steps [] frames = subst (λ (fs : List MapFrame). AreAsPlaced pool steps [] fs) (sym is.1) tt in
    subst (λ (ps : List Placed). AreAsPlaced pool steps ps frames) (sym (none refl)) empty
map_read pool steps entry None count bytes placed frames only bytes_are count_is none few wide (inr is) = absurd (no_bytes (length frames) is.0 is.1.1)
map_read pool steps entry (Some name) count bytes placed frames only bytes_are count_is none few wide is =
    let same : u2 count ++ bytes ≡ map_bytes placed = ap (λ (n : ℕ). u2 n ++ bytes) count_is ∙ ap (λ (bs : List ℕ). u2 (length placed) ++ bs) bytes_are in
    only wide (omega (arith, few, count_is)) (subst (λ (maps : List ℕ). IsStackMap pool steps entry maps frames) same is)
