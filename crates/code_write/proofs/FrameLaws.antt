-- Full frames are read again.
use Rattle.std.proofs.Common.{◌≡◌, ℕ, suc, ◌+◌, ◌-◌, ◌<◌, ◌≤◌, ◌^◌, List, [], ◌∷◌, ◌++◌, length, map, refl, sym, ap, ◌∙◌, arith, inr, append-nil, append_assoc}
use Rattle.std.specs.List.{flat_map}
use Rattle.class_walk.specs.declared.class.Constant.{Constant}
use Rattle.class_walk.specs.Layout.{u1, u2, table}
use Rattle.instructions.specs.declared.what.Instr.{Instr}
use Rattle.instructions.specs.declared.what.Target.{Target}
use Rattle.code_frames.specs.StackMap.{item, Previous, next, entry, BeginsWith, BeginsWithAll, IsStackMap}
use Rattle.code_write.specs.declared.frames.VerificationType.{VerificationType}
use Rattle.code_write.specs.Frame.{type_bytes, types_of, full_frame, Placed, frame_of, frames_bytes, map_bytes, IsPlaced, ArePlaced, least_behind}

count_of : (types : List VerificationType) → length (types_of types) ≡ length types
count_of [] = refl
count_of (t ∷ ts) = ap suc (count_of ts)

items_of : (types : List VerificationType) → flat_map item (types_of types) ≡ flat_map type_bytes types
items_of [] = refl
items_of (t ∷ ts) = ap (λ (s : List ℕ). type_bytes t ++ s) (items_of ts)

table_of : (types : List VerificationType) → table item (types_of types) ≡ table type_bytes types
table_of types = ap (λ (n : ℕ). u2 n ++ flat_map item (types_of types)) (count_of types) ∙ ap (λ (s : List ℕ). u2 (length types) ++ s) (items_of types)

text_of : (delta : ℕ) (locals stack : List VerificationType) → full_frame delta locals stack ≡ u1 255 ++ u2 delta ++ table item (types_of locals) ++ table item (types_of stack)
text_of delta locals stack = sym (
    ap (λ (s : List ℕ). u1 255 ++ u2 delta ++ s ++ table item (types_of stack)) (table_of locals)
    ∙ ap (λ (s : List ℕ). u1 255 ++ u2 delta ++ table type_bytes locals ++ s) (table_of stack)
    )

offset : (least at : ℕ) → least ≤ at → at ≡ least + (at - least)
offset least at later = omega arith

begins : (pool : List Constant) (steps : List (Instr Target)) (previous : Previous) (p : Placed) (others : List ℕ) → IsPlaced pool steps previous.least p → BeginsWith pool steps previous (full_frame (p.at - previous.least) p.locals p.stack ++ others) (frame_of p) others
begins pool steps previous p others is = record {
  delta = p.at - previous.least;
  text = full_frame (p.at - previous.least) p.locals p.stack;
  width = is.delta;
  offset = offset previous.least p.at is.later;
  step = is.step;
  locals = is.locals;
  stack = is.stack;
  spelled = text_of (p.at - previous.least) p.locals p.stack;
  parts = refl;
}

begin : (pool : List Constant) (steps : List (Instr Target)) (previous : Previous) (frames : List Placed) → ArePlaced pool steps previous.least frames → BeginsWithAll pool steps previous (frames_bytes previous.least frames) (map frame_of frames) []
begin pool steps previous [] are = refl
begin pool steps previous (p ∷ others) are =
    (frames_bytes (p.at + 1) others, begins pool steps previous p (frames_bytes (p.at + 1) others) are.0, begin pool steps (next previous (frame_of p)) others are.1)

frames_count : (frames : List Placed) → length (map frame_of frames) ≡ length frames
frames_count [] = refl
frames_count (p ∷ others) = ap suc (frames_count others)

pub is_stack_map : (pool : List Constant) (steps : List (Instr Target)) (locals : ℕ) (frames : List Placed) → length frames < 2 ^ 16 → ArePlaced pool steps 0 frames → IsStackMap pool steps locals (map_bytes frames) (map frame_of frames)
is_stack_map pool steps locals frames few are =
    let same = frames_count frames in
    let spelled : map_bytes frames ≡ u2 (length (map frame_of frames)) ++ frames_bytes 0 frames = ap (λ (n : ℕ). u2 n ++ frames_bytes 0 frames) (sym same) in
    inr (frames_bytes 0 frames, (omega (arith, same, few), spelled), begin pool steps (entry locals) frames are)

pub frames_more : (least : ℕ) (frames : List Placed) (p : Placed) → frames_bytes least (frames ++ p ∷ []) ≡ frames_bytes least frames ++ full_frame (p.at - least_behind least frames) p.locals p.stack
frames_more least [] p = append-nil (full_frame (p.at - least) p.locals p.stack)
frames_more least (f ∷ others) p =
    let text : List ℕ = full_frame (f.at - least) f.locals f.stack in
    let last : List ℕ = full_frame (p.at - least_behind (f.at + 1) others) p.locals p.stack in
    ap (λ (s : List ℕ). text ++ s) (frames_more (f.at + 1) others p) ∙ sym (append_assoc text (frames_bytes (f.at + 1) others) last)
