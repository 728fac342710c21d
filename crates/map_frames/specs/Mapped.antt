-- Map frames in stores of lists of words.
use Rattle.std.specs.Prelude.{◌≡◌, ◌≤◌, ◌<◌, ℕ, not, Bool, Option, Some, None, List, [], ◌∷◌, drop, length, slice_get}
use Rattle.std.specs.List.{list_any}
use Rattle.code_frames.specs.declared.types.VType.{VType}
use Rattle.code_frames.specs.declared.types.MapFrame.{MapFrame}
use Rattle.type_rules.specs.declared.types.VerificationType.{VerificationType}
use Rattle.type_rules.specs.declared.types.VerificationType.TheVariants.{Top}
use Rattle.type_rules.specs.Assignable.{is_same_type}
use Rattle.type_rules.specs.Environment.{TypeFrame, padded}
use Rattle.type_rules.specs.MapFrames.{frame_numbered}
use Rattle.type_lists.specs.declared.store.Words.{Words}
use Rattle.type_lists.specs.Shown.{first_words, EndsBy}
use Rattle.type_lists.specs.Store.{word_at, IsKept}
use Rattle.typing_frames.specs.declared.stores.FrameStores.{FrameStores}
use Rattle.typing_frames.specs.Frames.{shown, IsKeptFrame}
use Rattle.map_frames.specs.declared.mapped.MappedFrame.{MappedFrame}
use Rattle.map_frames.specs.declared.mapped.MapFrames.{MapFrames}

abbrev pub is_word : VerificationType → Bool
is_word type = not (is_same_type type Top)

-- with as many locals as the method has
abbrev pub with_locals : ℕ → TypeFrame → TypeFrame
with_locals most g = record g { locals = padded most g.locals }

-- locals as many as the method has, which no change of the stores changes
pub record AreLocals (stores : FrameStores) (words : Words) : Type 0 where
  pub kept : IsKept stores.locals words
  pub end : EndsBy (word_at stores.locals words) stores.locals.most

abbrev pub shown_locals : FrameStores → Words → List VerificationType
shown_locals stores words = first_words (word_at stores.locals words) stores.locals.most

-- the word of a stack of one word
abbrev pub only_word : List VerificationType → Option VerificationType
only_word (w ∷ []) = Some w
only_word _ = None

-- A map frame is that of the rules. Its locals are the first ones that the method has. Beside them, it says how many
-- locals it names, and whether one past those of the method is known. A stack that is too deep has only its depth, and
-- its word where that is one.
pub record Maps (stores : FrameStores) (mapped : MappedFrame) (g : TypeFrame) : Type 0 where
  pub locals : AreLocals stores mapped.locals
  pub shown_locals : shown_locals stores mapped.locals ≡ padded stores.locals.most g.locals
  pub only : mapped.only ≡ only_word g.stack
  pub words : mapped.words ≡ length g.locals
  pub passes : mapped.passes ≡ list_any is_word (drop stores.locals.most g.locals)
  pub depth : mapped.frame.depth ≡ length g.stack
  pub kept : length g.stack ≤ stores.stacks.most → IsKeptFrame stores mapped.frame
  pub shown : length g.stack ≤ stores.stacks.most → shown stores mapped.frame ≡ with_locals stores.locals.most g

abbrev pub MapsAt : FrameStores → Option MappedFrame → Option TypeFrame → Type 0
MapsAt stores None None = Unit {0}
MapsAt stores (Some mapped) (Some g) = Maps stores mapped g
MapsAt stores _ _ = ⊥

-- the first `count` frames of a table are made
abbrev pub AreMapped : FrameStores → List MappedFrame → (VType → VerificationType) → Bool → List VerificationType → List MapFrame → ℕ → Type 0
AreMapped stores made item constructs values frames count =
    (j : ℕ) (f : MapFrame) → j < count → slice_get frames j ≡ Some f
    → MapsAt stores (slice_get made j) (Some (frame_numbered item constructs values frames j f))

-- all frames of a table are made, which stand for the frames of the rules
abbrev pub AreMapFrames : FrameStores → MapFrames → (VType → VerificationType) → Bool → List VerificationType → List MapFrame → Type 0
AreMapFrames stores made item constructs values frames = AreMapped stores made.frames.items item constructs values frames (length frames)
