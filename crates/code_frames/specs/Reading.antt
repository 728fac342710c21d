-- Reading a StackMapTable from its front.
use Rattle.std.specs.Prelude.{◌≡◌, ℕ, zero, suc, ◌+◌, ◌-◌, Bool, true, false, List, [], ◌∷◌, length, take, drop, Option, Some, None, Result, Ok, Err, nat_lt, ◌==◌, slice_get, if◌then◌else◌}
use Rattle.std.specs.Option.{option_and_then}
use Rattle.byteorder.specs.Endian.{big_number}
use Rattle.class_walk.specs.declared.class.Constant.{Constant}
use Rattle.class_pool.specs.PoolTest.{is_class_entry}
use Rattle.instructions.specs.declared.what.Instr.{Instr}
use Rattle.instructions.specs.declared.what.What.{What}
use Rattle.instructions.specs.declared.what.What.TheVariants as instructions
use Rattle.instructions.specs.declared.what.Target.{Target}
use Rattle.instructions.specs.declared.operation.ClassUse.TheVariants.{New}
use Rattle.instructions.specs.Steps.{number_at}
use Rattle.code_frames.specs.declared.types.VType.{VType}
use Rattle.code_frames.specs.declared.types.VType.TheVariants.{Top, Int, Float, Double, Long, Null, UninitThis, Object, Uninit}
use Rattle.code_frames.specs.declared.types.LocalsChange.{LocalsChange}
use Rattle.code_frames.specs.declared.types.LocalsChange.TheVariants.{Same, Append, Chop, Full}
use Rattle.code_frames.specs.declared.types.MapFrame.{MapFrame}
use Rattle.code_frames.specs.declared.form.FrameForm.{FrameForm}
use Rattle.code_frames.specs.declared.form.FrameForm.TheVariants as forms
use Rattle.code_frames.specs.declared.refusal.Fault.{Fault}
use Rattle.code_frames.specs.declared.refusal.Fault.TheVariants as faults
use Rattle.code_frames.specs.declared.refusal.FrameRefusal.{FrameRefusal}
use Rattle.code_frames.specs.declared.refusal.FrameRefusal.TheVariants as refusals
use Rattle.code_frames.specs.StackMap.{Previous, entry, BeginsWithAll, IsBadBehind, IsStackMap, Refuses}

infixl 10 ◌>>=◌
abbrev pub ◌>>=◌ : {A B : Type 0} → Option A → (A → Option B) → Option B
(Some x) >>= f = f x
None >>= f = None

-- Reading fails with this fault; memory may run out anywhere.
abbrev pub Fails : {Y : Type 0} → Fault → Option Y → Type 0
Fails faults.Malformed read = read ≡ None
Fails faults.NoMemory read = Unit {0}

-- What a function returned, and the bytes that it left, are what reading gives, unless memory ran out.
abbrev pub Gives : {X : Type 0} → Result X Fault → List ℕ → Option (X × List ℕ) → Type 0
Gives (Ok x) left read = read ≡ Some (x, left)
Gives (Err e) left read = Fails e read

-- The same of a function that takes no memory.
abbrev pub FailsExactly : {Y : Type 0} → Fault → Option Y → Type 0
FailsExactly faults.Malformed read = read ≡ None
FailsExactly faults.NoMemory read = ⊥

abbrev pub GivesExactly : {X : Type 0} → Result X Fault → List ℕ → Option (X × List ℕ) → Type 0
GivesExactly (Ok x) left read = read ≡ Some (x, left)
GivesExactly (Err e) left read = FailsExactly e read

abbrev pub refusal_of : Fault → ℕ → FrameRefusal
refusal_of faults.Malformed number = refusals.Frame number
refusal_of faults.NoMemory number = refusals.NoMemory

-- a number of n bytes, and the bytes after it
abbrev pub unsigned_at : ℕ → List ℕ → Option (ℕ × List ℕ)
unsigned_at n bytes = if nat_lt (length bytes) n then None else Some (big_number n (take n bytes), drop n bytes)

abbrev pub is_new : What Target → Bool
is_new (instructions.Class New _) = true
is_new _ = false

abbrev pub makes_object : Option (Instr Target) → Bool
makes_object (Some i) = is_new i.what
makes_object None = false

abbrev pub is_new_at : List (Instr Target) → ℕ → Bool
is_new_at steps at = makes_object (option_and_then (slice_get steps) (number_at steps at))

unfoldable pub object_at : List Constant → List ℕ → Option (VType × List ℕ)
object_at pool bytes = do
  index ← unsigned_at 2 bytes
  if is_class_entry (slice_get pool index.0) then Some (Object index.0, index.1) else None

unfoldable pub uninit_at : List (Instr Target) → List ℕ → Option (VType × List ℕ)
uninit_at steps bytes = do
  at ← unsigned_at 2 bytes
  if is_new_at steps at.0 then Some (Uninit at.0, at.1) else None

-- the item of a tag
unfoldable pub tagged_item_at : List Constant → List (Instr Target) → ℕ → List ℕ → Option (VType × List ℕ)
tagged_item_at pool steps tag bytes =
    if tag == 0 then Some (Top, bytes) else
    if tag == 1 then Some (Int, bytes) else
    if tag == 2 then Some (Float, bytes) else
    if tag == 3 then Some (Double, bytes) else
    if tag == 4 then Some (Long, bytes) else
    if tag == 5 then Some (Null, bytes) else
    if tag == 6 then Some (UninitThis, bytes) else
    if tag == 7 then object_at pool bytes else
    if tag == 8 then uninit_at steps bytes else None

unfoldable pub item_at : List Constant → List (Instr Target) → List ℕ → Option (VType × List ℕ)
item_at pool steps bytes = do
  tag ← unsigned_at 1 bytes
  tagged_item_at pool steps tag.0 tag.1

unfoldable pub items_at : List Constant → List (Instr Target) → ℕ → List ℕ → Option (List VType × List ℕ)
items_at pool steps zero bytes = Some ([], bytes)
items_at pool steps (suc n) bytes = do
  first ← item_at pool steps bytes
  others ← items_at pool steps n first.1
  Some (first.0 ∷ others.0, others.1)

-- a count of two bytes, and that many items
unfoldable pub items_table_at : List Constant → List (Instr Target) → List ℕ → Option (List VType × List ℕ)
items_table_at pool steps bytes = do
  count ← unsigned_at 2 bytes
  items_at pool steps count.0 count.1

-- frame_type (JVMS 4.7.4)
unfoldable pub form_of : ℕ → Option FrameForm
form_of kind =
    if nat_lt kind 64 then Some forms.Same else
    if nat_lt kind 128 then Some forms.OneItem else
    if nat_lt kind 247 then None else
    if kind == 247 then Some forms.OneItem else
    if nat_lt kind 251 then Some (forms.Chop (251 - kind)) else
    if kind == 251 then Some forms.Same else
    if nat_lt kind 255 then Some (forms.Append (kind - 251)) else Some forms.Full

-- offset_delta
unfoldable pub delta_at : ℕ → List ℕ → Option (ℕ × List ℕ)
delta_at kind bytes = if nat_lt kind 64 then Some (kind, bytes) else if nat_lt kind 128 then Some (kind - 64, bytes) else unsigned_at 2 bytes

-- the locals and the stack of a form, where there are `locals` locals before it
unfoldable pub content_at : List Constant → List (Instr Target) → ℕ → FrameForm → List ℕ → Option ((LocalsChange × List VType) × List ℕ)
content_at pool steps locals forms.Same bytes = Some ((Same, []), bytes)
content_at pool steps locals forms.OneItem bytes = do
  item ← item_at pool steps bytes
  Some ((Same, item.0 ∷ []), item.1)
content_at pool steps locals (forms.Chop removed) bytes = if nat_lt locals removed then None else Some ((Chop removed, []), bytes)
content_at pool steps locals (forms.Append added) bytes = do
  items ← items_at pool steps added bytes
  Some ((Append items.0, []), items.1)
content_at pool steps locals forms.Full bytes = do
  all ← items_table_at pool steps bytes
  stack ← items_table_at pool steps all.1
  Some ((Full all.0, stack.0), stack.1)

abbrev pub previous_of : ℕ → ℕ → Previous
previous_of least locals = record { least = least; locals = locals }

unfoldable pub frame_at : List Constant → List (Instr Target) → Previous → List ℕ → Option (MapFrame × List ℕ)
frame_at pool steps previous bytes = do
  kind ← unsigned_at 1 bytes
  form ← form_of kind.0
  delta ← delta_at kind.0 kind.1
  step ← number_at steps (previous.least + delta.0)
  content ← content_at pool steps previous.locals form delta.1
  Some (record { at = previous.least + delta.0; step = step; locals = content.0.0; stack = content.0.1 }, content.1)

-- A function read `count` frames from the front and left these bytes, or it refused the first frame that is wrong.
abbrev pub GivesFrames : List Constant → List (Instr Target) → ℕ → ℕ → List ℕ → Result (List MapFrame) FrameRefusal → List ℕ → Type 0
GivesFrames pool steps locals count bytes (Ok frames) left = (length frames ≡ count) × BeginsWithAll pool steps (entry locals) bytes frames left
GivesFrames pool steps locals count bytes (Err (refusals.Frame number)) left = IsBadBehind pool steps locals count bytes number
GivesFrames pool steps locals count bytes (Err refusals.NoMemory) left = Unit {0}

-- What a function returned is the frames of the table, or the refusal of the first one that is wrong.
abbrev pub Answers : List Constant → List (Instr Target) → ℕ → List ℕ → Result (List MapFrame) FrameRefusal → Type 0
Answers pool steps locals maps (Ok frames) = IsStackMap pool steps locals maps frames
Answers pool steps locals maps (Err e) = Refuses pool steps locals maps e
