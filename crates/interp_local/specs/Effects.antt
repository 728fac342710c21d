-- What is done to a frame, said of words that are taken off its stack and of words that are pushed.
use Rattle.std.specs.Prelude.{ℕ, suc, ◌+◌, ◌-◌, ◌≤◌, ◌<◌, List, [], ◌∷◌, ◌++◌, length, drop}
use Rattle.frame_snapshot.specs.FrameStack.{FrameStack, with_here}
use Rattle.java_rows.specs.LocalRows.{LocalRow, moves, fails_by, no_row, leaving, with_local}
use Rattle.java_rows.specs.Numbers.{long_words}
use Rattle.java_rows.specs.Plan.{at_step, Frame}
use Rattle.interp_local.specs.declared.constants.Constant.{Constant}
use Rattle.interp_local.specs.declared.constants.Constant.TheVariants.{Word, Long}
use Rattle.interp_local.specs.declared.effect.Words.{Words}
use Rattle.interp_local.specs.declared.effect.Words.TheVariants as words
use Rattle.interp_local.specs.declared.effect.Effect.{Effect}
use Rattle.interp_local.specs.declared.effect.Effect.TheVariants.{Leaves, Stores, StoresLong, Jumps, Throws, Other}

abbrev pub words_of : Words → List ℕ
words_of words.None = []
words_of (words.One a) = a ∷ []
words_of (words.Two a b) = a ∷ b ∷ []
words_of (words.Three a b c) = a ∷ b ∷ c ∷ []
words_of (words.Four a b c d) = a ∷ b ∷ c ∷ d ∷ []
words_of (words.Five a b c d e) = a ∷ b ∷ c ∷ d ∷ e ∷ []
words_of (words.Six a b c d e f) = a ∷ b ∷ c ∷ d ∷ e ∷ f ∷ []

-- the words of a constant, the top first
abbrev pub constant_words : Constant → List ℕ
constant_words (Word a) = a ∷ []
constant_words (Long n) = long_words n

-- the row of an instruction that does this
abbrev pub row_of : Frame → Effect → LocalRow
row_of f (Leaves taken words) = leaving f (words_of words ++ drop taken f.stack)
row_of f (Stores taken n word) = leaving (with_local f n word) (drop taken f.stack)
row_of f (StoresLong n low high) = leaving (with_local (with_local f n low) (suc n) high) (drop 2 f.stack)
row_of f (Jumps taken step) = moves (record f { step = step; task = at_step; stack = drop taken f.stack })
row_of f (Throws c) = fails_by c
row_of f Other = no_row

-- the words, the locals and the room are there
abbrev pub CanApply : FrameStack → Effect → Type 0
CanApply s (Leaves taken words) =
    (taken ≤ length s.here.stack) × (length (words_of words) ≤ s.here.free + taken)
CanApply s (Stores taken n word) = (taken ≤ length s.here.stack) × (n < length s.here.locals)
CanApply s (StoresLong n low high) = (2 ≤ length s.here.stack) × (suc n < length s.here.locals)
CanApply s (Jumps taken step) = taken ≤ length s.here.stack
CanApply s _ = Unit {0}

-- the frames with words pushed
abbrev pub with_words : FrameStack → List ℕ → FrameStack
with_words s words =
    with_here s (record s.here { stack = words ++ s.here.stack; free = s.here.free - length words })

-- words taken off, others pushed, at the next instruction
abbrev pub replaced : FrameStack → ℕ → List ℕ → FrameStack
replaced s taken words = with_here s (record s.here {
  step = suc s.here.step;
  stack = words ++ drop taken s.here.stack;
  free = s.here.free + taken - length words;
})
