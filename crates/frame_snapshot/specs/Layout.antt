-- Where the words of frames lie.
use Rattle.std.specs.Prelude.{ℕ, ◌+◌, ◌-◌, ◌≤◌, List, [], ◌∷◌, map, reverse, take, drop, length}
use Rattle.frame_snapshot.specs.declared.activation.Activation.{Activation}
use Rattle.frame_snapshot.specs.declared.activation.Save.{Save}
use Rattle.frame_snapshot.specs.declared.frames.Frames.TheInside.{Inside}
use Rattle.frame_snapshot.specs.FrameStack.{Frame, Saved, FrameStack}

abbrev pub locals_in : List ℕ → Activation → List ℕ
locals_in words e = take (e.floor - e.base) (drop e.base words)

abbrev pub stack_in : List ℕ → Activation → List ℕ
stack_in words e = reverse (take (e.top - e.floor) (drop e.floor words))

abbrev pub frame_in : List ℕ → Activation → Frame
frame_in words e = record {
  method = e.method;
  step = e.step;
  stage = e.stage;
  monitor = e.monitor;
  locals = locals_in words e;
  stack = stack_in words e;
  free = e.limit - e.top;
}

-- the kept words begin with the first local
abbrev pub kept_frame : List ℕ → Save → Frame
kept_frame kept s = record {
  method = s.here.method;
  step = s.here.step;
  stage = s.here.stage;
  monitor = s.here.monitor;
  locals = take (s.here.floor - s.here.base) (drop s.from kept);
  stack = reverse (take (s.here.top - s.here.floor) (drop (s.from + (s.here.floor - s.here.base)) kept));
  free = s.here.limit - s.here.top;
}

abbrev pub saved_in : List ℕ → List Frame → Save → Saved
saved_in kept below s = record {
  here = kept_frame kept s;
  below = drop (length below - s.depth) below;
}

-- over the words, the top frame, those below it, the nearest first, the saves, the last first, and the kept words: the
-- frames below lie in the words before those of the top one
abbrev pub frames_over : List ℕ → Activation → List Activation → List Save → List ℕ → FrameStack
frames_over words here below saves kept = record {
  here = frame_in words here;
  below = map (frame_in (take here.base words)) below;
  saves = map (saved_in kept (map (frame_in (take here.base words)) below)) saves;
}

abbrev pub frames_of : Inside → FrameStack
frames_of x = frames_over x.words.items x.here (reverse x.below.items) (reverse x.saves.items) x.kept.items

-- the places of a frame are in order, within `size` words
pub record IsPlaced (size : ℕ) (e : Activation) : Type 0 where
  pub base : e.base ≤ e.floor
  pub floor : e.floor ≤ e.top
  pub top : e.top ≤ e.limit
  pub limit : e.limit ≤ size

-- frames lie one below the other, the nearest first, which ends at a place or before it
abbrev pub LieBelow : ℕ → ℕ → List Activation → Type 0
LieBelow size end [] = Unit {0}
LieBelow size end (e ∷ es) = IsPlaced size e × (e.top ≤ end) × LieBelow size e.base es

-- the saves, the last first: each has its words before a place of the kept words, and can be gone back to
abbrev pub AreSaves : ℕ → List Activation → ℕ → ℕ → List Save → Type 0
AreSaves size below end depth [] = Unit {0}
AreSaves size below end depth (s ∷ ss) =
    IsPlaced size s.here × (s.from + (s.here.top - s.here.base) ≤ end) × (s.depth ≤ depth)
    × LieBelow size s.here.base (drop (length below - s.depth) below) × AreSaves size below s.from s.depth ss

-- all of it, over the numbers of words and of kept words
pub record FitTogether (size : ℕ) (top : Activation) (below : List Activation) (saves : List Save) (kept : ℕ) : Type 0 where
  pub placed : IsPlaced size top
  pub lie_below : LieBelow size top.base below
  pub count : length below ≤ 1023
  pub are_saves : AreSaves size below kept (length below) saves

abbrev pub AreLaidOut : Inside → Type 0
AreLaidOut x =
    FitTogether (length x.words.items) x.here (reverse x.below.items) (reverse x.saves.items) (length x.kept.items)
