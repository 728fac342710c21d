-- Frames that are read in a written table are those that were written.
use Rattle.std.proofs.Common.{◌≡◌, ℕ, ◌+◌, ◌-◌, ◌%◌, ◌<◌, ◌≤◌, ◌^◌, List, [], ◌∷◌, ◌++◌, length, inl, inr, refl, sym, ap, subst, ◌∙◌, arith, lit<, mod-eq_of_lt}
use Rattle.std.specs.List.{AllByRecursion, flat_map}
use Rattle.class_walk.specs.declared.class.Constant.{Constant}
use Rattle.class_walk.specs.Layout.{u1, u2, table, IsCounted}
use Rattle.instructions.specs.declared.what.Instr.{Instr}
use Rattle.instructions.specs.declared.what.Target.{Target}
use Rattle.instructions.specs.Steps.{number_at}
use Rattle.code_frames.specs.declared.types.VType.{VType}
use Rattle.code_frames.specs.declared.types.VType.TheVariants as types
use Rattle.code_frames.specs.declared.types.LocalsChange.{LocalsChange}
use Rattle.code_frames.specs.declared.types.LocalsChange.TheVariants.{Same, Append, Chop, Full}
use Rattle.code_frames.specs.declared.types.MapFrame.{MapFrame}
use Rattle.code_frames.specs.StackMap.{item, IsItem, IsFrameText, IsChange, Previous, next, entry, BeginsWith, BeginsWithAll, IsStackMap}
use Rattle.code_write.specs.declared.frames.VerificationType.{VerificationType}
use Rattle.code_write.specs.declared.frames.VerificationType.TheVariants.{Top, Int, Float, Double, Long, Null, UninitThis, Object, Uninit}
use Rattle.code_write.specs.Frame.{type_of, type_bytes, types_of, full_frame, Placed, frames_bytes, map_bytes}
use Rattle.assembler_laws.specs.WrittenCode.Frames.{HasWidth, IsWide, HaveWidths, IsAsPlaced, AreAsPlaced}
use Rattle.assembler_laws.proofs.WrittenCode.NumberLaws.{number_same, front_same, parted}

-- ---- types

-- what comes after the same tag
behind_tag : (tag : ℕ) (xs ys : List ℕ) → tag ∷ xs ≡ tag ∷ ys → xs ≡ ys
behind_tag tag xs ys e = cc

item_same : (pool : List Constant) (steps : List (Instr Target)) (x : VType) (t : VerificationType) (rest behind : List ℕ) → IsItem pool steps x → HasWidth t → item x ++ rest ≡ type_bytes t ++ behind → (x ≡ type_of t) × (rest ≡ behind)
item_same pool steps types.Top Top rest behind right width e = (refl, behind_tag 0 rest behind e)
item_same pool steps types.Int Int rest behind right width e = (refl, behind_tag 1 rest behind e)
item_same pool steps types.Float Float rest behind right width e = (refl, behind_tag 2 rest behind e)
item_same pool steps types.Double Double rest behind right width e = (refl, behind_tag 3 rest behind e)
item_same pool steps types.Long Long rest behind right width e = (refl, behind_tag 4 rest behind e)
item_same pool steps types.Null Null rest behind right width e = (refl, behind_tag 5 rest behind e)
item_same pool steps types.UninitThis UninitThis rest behind right width e = (refl, behind_tag 6 rest behind e)
item_same pool steps (types.Object i) (Object j) rest behind right width e =
    let same = number_same 2 i j rest behind right.0 width (behind_tag 7 (u2 i ++ rest) (u2 j ++ behind) e) in
    (ap types.Object same.0, same.1)
item_same pool steps (types.Uninit i) (Uninit j) rest behind right width e =
    let same = number_same 2 i j rest behind right.0 width (behind_tag 8 (u2 i ++ rest) (u2 j ++ behind) e) in
    (ap types.Uninit same.0, same.1)
item_same pool steps (types.Entry local) t rest behind right width e = absurd right
item_same pool steps x t rest behind right width e = absurd cc

items_same : (pool : List Constant) (steps : List (Instr Target)) (xs : List VType) (ts : List VerificationType) (rest behind : List ℕ) → AllByRecursion (IsItem pool steps) xs → AllByRecursion HasWidth ts → length xs ≡ length ts
    → flat_map item xs ++ rest ≡ flat_map type_bytes ts ++ behind → (xs ≡ types_of ts) × (rest ≡ behind)
items_same pool steps [] [] rest behind right width count e = (refl, e)
items_same pool steps [] (t ∷ ts) rest behind right width count e = absurd (omega arith)
items_same pool steps (x ∷ xs) [] rest behind right width count e = absurd (omega arith)
items_same pool steps (x ∷ xs) (t ∷ ts) rest behind right width count e =
    let parts = parted (item x ++ flat_map item xs) (item x) (flat_map item xs) rest (type_bytes t) (flat_map type_bytes ts) behind refl e in
    let first = item_same pool steps x t (flat_map item xs ++ rest) (flat_map type_bytes ts ++ behind) right.0 width.0 parts in
    let others = items_same pool steps xs ts rest behind right.1 width.1 (omega arith) first.1 in
    (ap (λ (y : VType). y ∷ xs) first.0 ∙ ap (λ (ys : List VType). type_of t ∷ ys) others.0, others.1)

-- the locals, or the stack
types_same : (pool : List Constant) (steps : List (Instr Target)) (xs : List VType) (ts : List VerificationType) (rest behind : List ℕ) → IsCounted (IsItem pool steps) xs → IsCounted HasWidth ts
    → table item xs ++ rest ≡ table type_bytes ts ++ behind → (xs ≡ types_of ts) × (rest ≡ behind)
types_same pool steps xs ts rest behind right width e =
    let count = number_same 2 (length xs) (length ts) (flat_map item xs ++ rest) (flat_map type_bytes ts ++ behind) right.0 width.0 e in
    items_same pool steps xs ts rest behind right.1 width.1 count.0 count.1

-- ---- a frame

-- the kind that a text begins with
kind_is : (kind : ℕ) (text others rest more : List ℕ) → kind < 256 → text ≡ u1 kind ++ others → text ++ rest ≡ 255 ∷ more → kind ≡ 255
kind_is kind text others rest more small spelled e =
    let whole : (u1 kind ++ others) ++ rest ≡ 255 ∷ more = ap (λ (s : List ℕ). s ++ rest) (sym spelled) ∙ e in
    let first : kind % 256 ≡ 255 = cc in
    sym (mod-eq_of_lt small) ∙ first

-- the locals of a full frame, and its bytes
abbrev IsFull : ℕ → LocalsChange → List VType → List ℕ → Type 0
IsFull delta change stack text = (locals : List VType) × (change ≡ Full locals) × (text ≡ u1 255 ++ (u2 delta ++ (table item locals ++ table item stack)))

-- a frame of kind 255 is full
full_is : (delta : ℕ) (change : LocalsChange) (stack : List VType) (text rest more : List ℕ) → IsFrameText delta change stack text → text ++ rest ≡ 255 ∷ more → IsFull delta change stack text
full_is delta Same [] text rest more (inl a) e = let k = kind_is delta text [] rest more (omega (arith, a.0)) a.1 e in absurd (omega (arith, a.0, k))
full_is delta Same [] text rest more (inr a) e = let k = kind_is 251 text (u2 delta) rest more (lit< tt) a e in absurd (omega (arith, k))
full_is delta Same (x ∷ []) text rest more (inl a) e = let k = kind_is (64 + delta) text (item x) rest more (omega (arith, a.0)) a.1 e in absurd (omega (arith, a.0, k))
full_is delta Same (x ∷ []) text rest more (inr a) e = let k = kind_is 247 text (u2 delta ++ item x) rest more (lit< tt) a e in absurd (omega (arith, k))
full_is delta Same (x ∷ y ∷ stack) text rest more is e = absurd is
full_is delta (Chop removed) [] text rest more is e = let k = kind_is (251 - removed) text (u2 delta) rest more (omega arith) is.2 e in absurd (omega (arith, is.0, k))
full_is delta (Chop removed) (x ∷ stack) text rest more is e = absurd is
full_is delta (Append added) [] text rest more is e = let k = kind_is (251 + length added) text (u2 delta ++ flat_map item added) rest more (omega (arith, is.1)) is.2 e in absurd (omega (arith, is.1, k))
full_is delta (Append added) (x ∷ stack) text rest more is e = absurd is
full_is delta (Full locals) stack text rest more is e = (locals, refl, is)

at_least : (at least delta : ℕ) (found : ℕ) → least ≤ at → found ≡ least + delta → delta ≡ at - least → found ≡ at
at_least at least delta found later offset same = omega arith

frame_same : (pool : List Constant) (steps : List (Instr Target)) (previous : Previous) (bytes : List ℕ) (f : MapFrame) (rest : List ℕ) (p : Placed) (behind : List ℕ) → BeginsWith pool steps previous bytes f rest → IsWide previous.least p
    → bytes ≡ full_frame (p.at - previous.least) p.locals p.stack ++ behind → IsAsPlaced pool steps p f × (rest ≡ behind)
frame_same pool steps previous bytes f rest p behind b wide e =
    let delta : ℕ = p.at - previous.least in
    let stacks : List ℕ = table type_bytes p.stack in
    let types : List ℕ = table type_bytes p.locals ++ stacks in
    let whole : b.text ++ rest ≡ (u1 255 ++ (u2 delta ++ types)) ++ behind = sym b.parts ∙ e in
    let full = full_is b.delta f.locals f.stack b.text rest ((u2 delta ++ types) ++ behind) b.spelled whole in
    let stack : List ℕ = table item f.stack in
    let read : List ℕ = table item full.0 ++ stack in
    let kind = parted b.text (u1 255) (u2 b.delta ++ read) rest (u1 255) (u2 delta ++ types) behind full.2 whole in
    let inner = front_same (u1 255) (u1 255) ((u2 b.delta ++ read) ++ rest) ((u2 delta ++ types) ++ behind) refl kind in
    let of_delta = number_same 2 b.delta delta (read ++ rest) (types ++ behind) b.width wide.delta (parted (u2 b.delta ++ read) (u2 b.delta) read rest (u2 delta) types behind refl inner.1) in
    let counted : IsCounted (IsItem pool steps) full.0 = subst (λ (c : LocalsChange). IsChange pool steps previous.locals c) full.1 b.locals in
    let of_locals = types_same pool steps full.0 p.locals (stack ++ rest) (stacks ++ behind) counted wide.locals (parted read (table item full.0) stack rest (table type_bytes p.locals) stacks behind refl of_delta.1) in
    let of_stack = types_same pool steps f.stack p.stack rest behind b.stack wide.stack of_locals.1 in
    let placed : f.at ≡ p.at = at_least p.at previous.least b.delta f.at wide.later b.offset of_delta.0 in (
      record {
        at = placed;
        step = ap (λ (k : ℕ). number_at steps k) (sym placed) ∙ b.step;
        locals = full.1 ∙ ap Full of_locals.0;
        stack = of_stack.0;
        locals_right = subst (λ (xs : List VType). AllByRecursion (IsItem pool steps) xs) of_locals.0 counted.1;
        stack_right = subst (λ (xs : List VType). AllByRecursion (IsItem pool steps) xs) of_stack.0 b.stack.1;
      },
      of_stack.1,
    )

-- ---- a table of frames

frames_same : (pool : List Constant) (steps : List (Instr Target)) (previous : Previous) (least : ℕ) (bytes : List ℕ) (written : List Placed) (frames : List MapFrame) → previous.least ≡ least → HaveWidths least written → length frames ≡ length written
    → bytes ≡ frames_bytes least written → BeginsWithAll pool steps previous bytes frames [] → AreAsPlaced pool steps written frames
frames_same pool steps previous least bytes [] [] begin widths count spelled begins = tt
frames_same pool steps previous least bytes [] (f ∷ fs) begin widths count spelled begins = absurd (omega arith)
frames_same pool steps previous least bytes (p ∷ others) [] begin widths count spelled begins = absurd (omega arith)
frames_same pool steps previous least bytes (p ∷ others) (f ∷ fs) begin widths count spelled begins =
    let wide : IsWide previous.least p = subst (λ (k : ℕ). IsWide k p) (sym begin) widths.0 in
    let whole : bytes ≡ full_frame (p.at - previous.least) p.locals p.stack ++ frames_bytes (p.at + 1) others = spelled ∙ ap (λ (k : ℕ). full_frame (p.at - k) p.locals p.stack ++ frames_bytes (p.at + 1) others) (sym begin) in
    let first = frame_same pool steps previous bytes f begins.0 p (frames_bytes (p.at + 1) others) begins.1 wide whole in
    (first.0, frames_same pool steps (next previous f) (p.at + 1) begins.0 others fs (ap (λ (k : ℕ). k + 1) first.0.at) widths.1 (omega arith) first.1 begins.2)

pub only_written_frames : (pool : List Constant) (steps : List (Instr Target)) (locals : ℕ) (written : List Placed) (frames : List MapFrame) → HaveWidths 0 written → length written < 2 ^ 16
    → IsStackMap pool steps locals (map_bytes written) frames → AreAsPlaced pool steps written frames
only_written_frames pool steps locals written frames widths few (inl none) = absurd cc
only_written_frames pool steps locals written frames widths few (inr read) =
    let count = number_same 2 (length frames) (length written) read.0 (frames_bytes 0 written) read.1.0 few (sym read.1.1) in
    frames_same pool steps (entry locals) 0 read.0 written frames refl widths count.0 count.1 read.2
