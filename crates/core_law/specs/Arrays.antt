-- The words and the texts that a run leaves, as the core tells them with which it ends.
use Rattle.std.specs.Prelude.{◌≡◌, ℕ, Bool, false, Option, Some, List, length, Contains}
use Rattle.op_core.specs.declared.Line.{Line}
use Rattle.op_core.specs.declared.Line.TheVariants.{Made}
use Rattle.op_core.specs.declared.MadeText.{MadeText}
use Rattle.op_core.specs.ThreadCode.{Code}
use Rattle.op_core.specs.OrdinaryState.{Object}
use Rattle.op_core.specs.MadeTexts.{AreMadeTexts}
use Rattle.thread_automaton.specs.declared.Bounds.{Bounds}
use Rattle.core_runs.specs.Cores.{Core}
use Rattle.core_runs.specs.Acts.{Act}
use Rattle.section_laws.specs.Layout.{IsWordPlace}
use Rattle.first_law.specs.Free.{IsFreeRun}
use Rattle.core_law.specs.Erasure.{Erasure}
use Rattle.word_texts.specs.PutBack.{WillBe}
use Rattle.word_texts.specs.Texts.{AreTextsOf}

-- What the core says that a word of an object will be is what the execution that is left makes of it.
abbrev pub WordsAreThoseLeft : {S : Type 0} → Code S → Type 0
WordsAreThoseLeft {S} code = (b : Bounds) (is_thread : ℕ → Bool) (first : S) (classes : ℕ) (c : ℕ → Core S) (acts : List Act) → IsFreeRun code b is_thread first classes c acts
    → (left : Erasure code b is_thread c acts) (p v : ℕ) (word : IsWordPlace is_thread (c (length acts)).objects p) → WillBe (c (length acts)) p v
    → v ≡ left.last.words word.r word.i

-- an array of one word for each element is at r; it is no thread
pub record IsArrayAt (is_thread : ℕ → Bool) (objects : ℕ → Option Object) (r : ℕ) : Type 0 where
  pub object : Object
  pub there : objects r ≡ Some object
  pub words : object.words ≡ object.length
  pub other : is_thread object.class ≡ false

-- one is wherever a line says so
abbrev pub NameArrays : (ℕ → Bool) → (ℕ → Option Object) → List Line → Type 0
NameArrays is_thread objects lines = (r : ℕ) → Contains lines (Made r) → IsArrayAt is_thread objects r

-- If the lines name arrays that the execution which is left has, then their texts, as the core tells them, are those that these
-- arrays have after it.
abbrev pub TextsAreThoseLeft : {S : Type 0} → Code S → Type 0
TextsAreThoseLeft {S} code = (b : Bounds) (is_thread : ℕ → Bool) (first : S) (classes : ℕ) (c : ℕ → Core S) (acts : List Act) → IsFreeRun code b is_thread first classes c acts
    → (left : Erasure code b is_thread c acts) (lines : List Line) (made : List MadeText) → NameArrays is_thread left.last.objects lines
    → AreTextsOf (c (length acts)) lines made → AreMadeTexts left.last lines made
