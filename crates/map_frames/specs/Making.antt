-- The locals and stacks of map frames while they are made.
use Rattle.std.specs.Prelude.{◌≡◌, ◌≤◌, ℕ, ◌+◌, Bool, false, List, [], ◌∷◌, drop, length, reverse, if◌then◌else◌}
use Rattle.type_rules.specs.declared.types.VerificationType.{VerificationType}
use Rattle.type_rules.specs.Environment.{TypeFrame, padded}
use Rattle.type_rules.specs.Environments.{words_of_values}
use Rattle.type_rules.specs.MapFrames.{is_uninit_this}
use Rattle.typing_frames.specs.declared.stores.FrameStores.{FrameStores}
use Rattle.typing_frames.specs.declared.stores.CurrentFrame.{CurrentFrame}
use Rattle.typing_frames.specs.Frames.{shown, IsFrame}
use Rattle.map_frames.specs.declared.words.LocalWords.{LocalWords}
use Rattle.map_frames.specs.declared.items.LocalItems.{LocalItems}
use Rattle.map_frames.specs.Mapped.{is_word}

abbrev pub one_if : Bool → ℕ
one_if b = if b then 1 else 0

abbrev pub count_words : (VerificationType → Bool) → List VerificationType → ℕ
count_words test [] = 0
count_words test (w ∷ ws) = one_if (test w) + count_words test ws

abbrev pub type_frame : List VerificationType → List VerificationType → Bool → TypeFrame
type_frame locals stack unset = record { locals = locals; stack = stack; flag_this_uninit = unset }

-- the words of locals, of which those are stored that the method has
pub record AreWords (stores : FrameStores) (words : LocalWords) (ws : List VerificationType) : Type 0 where
  pub there : IsFrame stores words.frame
  pub are : shown stores words.frame ≡ type_frame (padded stores.locals.most ws) [] false
  pub count : words.count ≡ length ws
  pub passing : words.passing ≡ count_words is_word (drop stores.locals.most ws)
  pub uninits : words.uninits ≡ count_words is_uninit_this ws

abbrev pub AreItems : FrameStores → LocalItems → Type 0
AreItems stores locals = AreWords stores locals.words (words_of_values locals.items.items)

-- these words are on a stack, the deepest first, as far as they are no more than the stack may have
pub record IsStack (stores : FrameStores) (frame : CurrentFrame) (locals : List VerificationType) (unset : Bool) (ws : List VerificationType) : Type 0 where
  pub depth : frame.depth ≡ length ws
  pub there : length ws ≤ stores.stacks.most → IsFrame stores frame
  pub are : length ws ≤ stores.stacks.most → shown stores frame ≡ type_frame locals (reverse ws) unset

abbrev pub IsFrameInRoom : FrameStores → CurrentFrame → Type 0
IsFrameInRoom stores frame = frame.depth ≤ stores.stacks.most → IsFrame stores frame
