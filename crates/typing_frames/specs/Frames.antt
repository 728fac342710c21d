-- The frame of a walk over a method's instructions, in stores of lists of words.
use Rattle.std.specs.Prelude.{◌≡◌, ◌≤◌}
use Rattle.type_rules.specs.Assignable.{Hierarchy}
use Rattle.type_rules.specs.Environment.{TypeFrame}
use Rattle.type_lists.specs.Store.{word_at, IsList, IsKept, Remembers, Follows}
use Rattle.type_lists.specs.Shown.{first_words, stack_words, EndsBy}
use Rattle.typing_frames.specs.declared.stores.FrameStores.{FrameStores}
use Rattle.typing_frames.specs.declared.stores.CurrentFrame.{CurrentFrame}

-- the frame of the rules that a frame stands for: as many locals as the stores are made for
abbrev pub shown : FrameStores → CurrentFrame → TypeFrame
shown stores frame = record {
  locals = first_words (word_at stores.locals frame.locals) stores.locals.most;
  stack = stack_words (word_at stores.stacks frame.stack) frame.depth;
  flag_this_uninit = frame.unset;
}

-- there is such a frame in the stores, and past its words there is nothing
pub record IsFrame (stores : FrameStores) (frame : CurrentFrame) : Type 0 where
  pub locals : IsList stores.locals frame.locals
  pub stack : IsList stores.stacks frame.stack
  pub locals_end : EndsBy (word_at stores.locals frame.locals) stores.locals.most
  pub stack_ends : EndsBy (word_at stores.stacks frame.stack) frame.depth
  pub room : frame.depth ≤ stores.stacks.most

-- .. and no change of the stores changes it
pub record IsKeptFrame (stores : FrameStores) (frame : CurrentFrame) : Type 0 where
  pub there : IsFrame stores frame
  pub locals : IsKept stores.locals frame.locals
  pub stack : IsKept stores.stacks frame.stack

-- what no call changes
pub record StoresFollow (old new : FrameStores) : Type 0 where
  pub locals : Follows old.locals new.locals
  pub stacks : Follows old.stacks new.stacks

-- what the stores remember of comparisons is so among these classes
pub record StoresRemember (h : Hierarchy) (stores : FrameStores) : Type 0 where
  pub locals : Remembers h stores.locals
  pub stacks : Remembers h stores.stacks

-- all frames are kept, and are what they were
pub record KeepsAll (old new : FrameStores) : Type 0 where
  pub follows : StoresFollow old new
  pub kept : (frame : CurrentFrame) → IsFrame old frame → IsKeptFrame new frame
  pub same : (frame : CurrentFrame) → IsFrame old frame → shown new frame ≡ shown old frame

-- all frames that are there stay there, and are what they were
pub record LeavesFrames (old new : FrameStores) : Type 0 where
  pub follows : StoresFollow old new
  pub there : (frame : CurrentFrame) → IsFrame old frame → IsFrame new frame
  pub same : (frame : CurrentFrame) → IsFrame old frame → shown new frame ≡ shown old frame
