-- The layout of a StackMapTable, and what makes its frames right (JVMS SE 8, 4.7.4).
use Rattle.std.specs.Prelude.{◌≡◌, ◌≢◌, ℕ, ◌+◌, ◌-◌, ◌<◌, ◌≤◌, ◌^◌, ◌⊎◌, List, [], ◌∷◌, ◌++◌, length, Some, Result, Err, slice_get, fold}
use Rattle.std.specs.List.{flat_map, AllByRecursion}
use Rattle.class_walk.specs.declared.class.Constant.{Constant}
use Rattle.class_walk.specs.Layout.{u1, u2, table, IsCounted}
use Rattle.class_pool.specs.PoolRules.{IsClassEntry}
use Rattle.instructions.specs.declared.what.Instr.{Instr}
use Rattle.instructions.specs.declared.what.Target.{Target}
use Rattle.instructions.specs.declared.what.What.TheVariants as instructions
use Rattle.instructions.specs.declared.operation.ClassUse.TheVariants.{New}
use Rattle.instructions.specs.Steps.{number_at}
use Rattle.code_frames.specs.declared.types.VType.{VType}
use Rattle.code_frames.specs.declared.types.VType.TheVariants.{Top, Int, Float, Double, Long, Null, UninitThis, Object, Uninit, Entry}
use Rattle.code_frames.specs.declared.types.LocalsChange.{LocalsChange}
use Rattle.code_frames.specs.declared.types.LocalsChange.TheVariants.{Same, Append, Chop, Full}
use Rattle.code_frames.specs.declared.types.MapFrame.{MapFrame}
use Rattle.code_frames.specs.declared.refusal.FrameRefusal.{FrameRefusal}
use Rattle.code_frames.specs.declared.refusal.FrameRefusal.TheVariants.{Frame, NoMemory}
use Rattle.code_frames.specs.Locals.{count_after}

-- verification_type_info; none stands for a type by its place at the method's entry
abbrev pub item : VType → List ℕ
item Top = u1 0
item Int = u1 1
item Float = u1 2
item Double = u1 3
item Long = u1 4
item Null = u1 5
item UninitThis = u1 6
item (Object index) = u1 7 ++ u2 index
item (Uninit at) = u1 8 ++ u2 at
item (Entry local) = []

-- an instruction `new` begins there
abbrev pub IsNewAt : List (Instr Target) → ℕ → Type 0
IsNewAt steps at = (number class : ℕ) × (i : Instr Target) × (number_at steps at ≡ Some number)
    × (slice_get steps number ≡ Some i) × (i.what ≡ instructions.Class New class)

abbrev pub IsItem : List Constant → List (Instr Target) → VType → Type 0
IsItem pool steps (Object index) = (index < 2 ^ 16) × IsClassEntry pool index
IsItem pool steps (Uninit at) = (at < 2 ^ 16) × IsNewAt steps at
IsItem pool steps (Entry local) = ⊥
IsItem pool steps _ = Unit {0}

-- stack_map_frame: same_frame and same_frame_extended, same_locals_1_stack_item_frame and its extended form,
-- chop_frame, append_frame, full_frame
abbrev pub IsFrameText : ℕ → LocalsChange → List VType → List ℕ → Type 0
IsFrameText delta Same [] text = ((delta < 64) × (text ≡ u1 delta)) ⊎ (text ≡ u1 251 ++ u2 delta)
IsFrameText delta Same (x ∷ []) text = ((delta < 64) × (text ≡ u1 (64 + delta) ++ item x)) ⊎ (text ≡ u1 247 ++ u2 delta ++ item x)
IsFrameText delta (Chop removed) [] text = (0 < removed) × (removed ≤ 3) × (text ≡ u1 (251 - removed) ++ u2 delta)
IsFrameText delta (Append added) [] text =
    (0 < length added) × (length added ≤ 3) × (text ≡ u1 (251 + length added) ++ u2 delta ++ flat_map item added)
IsFrameText delta (Full locals) stack text = text ≡ u1 255 ++ u2 delta ++ table item locals ++ table item stack
IsFrameText delta _ _ text = ⊥

-- a change of `count` locals
abbrev pub IsChange : List Constant → List (Instr Target) → ℕ → LocalsChange → Type 0
IsChange pool steps count Same = Unit {0}
IsChange pool steps count (Append added) = AllByRecursion (IsItem pool steps) added
IsChange pool steps count (Chop removed) = removed ≤ count
IsChange pool steps count (Full locals) = IsCounted (IsItem pool steps) locals

-- what a frame goes by: the least offset that it may have, and how many locals there are before it
pub record Previous : Type 0 where
  pub least : ℕ
  pub locals : ℕ

-- before the first frame of a method with `locals` locals at its entry
abbrev pub entry : ℕ → Previous
entry locals = record { least = 0; locals = locals }

abbrev pub next : Previous → MapFrame → Previous
next previous f = record { least = f.at + 1; locals = count_after previous.locals f.locals }

-- after frames
abbrev pub behind : Previous → List MapFrame → Previous
behind previous frames = fold next previous frames

-- The bytes begin with this frame, and the others come after it. The offset of the first frame is its offset_delta, and
-- that of each other frame is the offset of the one before it, plus offset_delta, plus 1.
pub record BeginsWith (pool : List Constant) (steps : List (Instr Target)) (previous : Previous) (bytes : List ℕ) (f : MapFrame) (others : List ℕ) : Type 0 where
  pub delta : ℕ
  pub text : List ℕ
  pub width : delta < 2 ^ 16
  pub offset : f.at ≡ previous.least + delta
  pub step : number_at steps f.at ≡ Some f.step
  pub locals : IsChange pool steps previous.locals f.locals
  pub stack : IsCounted (IsItem pool steps) f.stack
  pub spelled : IsFrameText delta f.locals f.stack text
  pub parts : bytes ≡ text ++ others

-- the bytes begin with these frames, one after another, and the others come after them
abbrev pub BeginsWithAll : List Constant → List (Instr Target) → Previous → List ℕ → List MapFrame → List ℕ → Type 0
BeginsWithAll pool steps previous bytes [] others = bytes ≡ others
BeginsWithAll pool steps previous bytes (f ∷ fs) others =
    (rest : List ℕ) × BeginsWith pool steps previous bytes f rest × BeginsWithAll pool steps (next previous f) rest fs others

-- the bytes begin with a count of frames, and the frames come after it
abbrev pub IsTableOf : List ℕ → ℕ → List ℕ → Type 0
IsTableOf maps count bytes = (count < 2 ^ 16) × (maps ≡ u2 count ++ bytes)

-- The content of a StackMapTable with these frames, of a method that has `locals` locals at its entry. One of no bytes
-- has no frames.
abbrev pub IsStackMap : List Constant → List (Instr Target) → ℕ → List ℕ → List MapFrame → Type 0
IsStackMap pool steps locals maps frames = ((maps ≡ []) × (frames ≡ []))
    ⊎ ((bytes : List ℕ) × IsTableOf maps (length frames) bytes × BeginsWithAll pool steps (entry locals) bytes frames [])

-- the bytes don't begin with a frame
abbrev pub HasNoFrame : List Constant → List (Instr Target) → Previous → List ℕ → Type 0
HasNoFrame pool steps previous bytes = (f : MapFrame) (others : List ℕ) → ¬ BeginsWith pool steps previous bytes f others

-- of `count` frames, the first `number` are at the front; then either one more is due and there is no frame, or none is
-- due and bytes are left
pub record IsBadBehind (pool : List Constant) (steps : List (Instr Target)) (locals count : ℕ) (bytes : List ℕ) (number : ℕ) : Type 0 where
  pub frames : List MapFrame
  pub others : List ℕ
  pub before : BeginsWithAll pool steps (entry locals) bytes frames others
  pub place : length frames ≡ number
  pub bad : ((number < count) × HasNoFrame pool steps (behind (entry locals) frames) others) ⊎ ((number ≡ count) × (others ≢ []))

-- The number of the first frame that is wrong. A count that is cut short is frame 0, and bytes after the frames are one
-- more frame.
abbrev pub IsFirstBadFrame : List Constant → List (Instr Target) → ℕ → List ℕ → ℕ → Type 0
IsFirstBadFrame pool steps locals maps number = ((length maps ≡ 1) × (number ≡ 0))
    ⊎ ((count : ℕ) × (bytes : List ℕ) × IsTableOf maps count bytes × IsBadBehind pool steps locals count bytes number)

abbrev pub Refuses : List Constant → List (Instr Target) → ℕ → List ℕ → FrameRefusal → Type 0
Refuses pool steps locals maps (Frame number) = IsFirstBadFrame pool steps locals maps number
Refuses pool steps locals maps NoMemory = Unit {0}

abbrev pub IsUnlessNoMemory : {X : Type 0} → Result X FrameRefusal → Result X FrameRefusal → Type 0
IsUnlessNoMemory answer wanted = (answer ≡ wanted) ⊎ (answer ≡ Err NoMemory)
