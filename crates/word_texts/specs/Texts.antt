-- The texts of printed lines that a program made, as they will be once each thread has undone what it is to undo.
use Rattle.std.specs.Prelude.{◌≡◌, ◌↔◌, ◌%◌, ◌^◌, ℕ, Some, List, length, slice_get, All, Contains}
use Rattle.std.specs.List.Sorted.{IsStrictlyIncreasing}
use Rattle.heap_words.specs.Words.{header_length}
use Rattle.op_core.specs.declared.Line.{Line}
use Rattle.op_core.specs.declared.Line.TheVariants.{Made}
use Rattle.op_core.specs.declared.MadeText.{MadeText}
use Rattle.op_core.specs.MadeTexts.{references_of}
use Rattle.thread_automaton.specs.NextMove.{word_place}
use Rattle.core_runs.specs.Cores.{Core}
use Rattle.word_texts.specs.PutBack.{heap_in, WillBe}

-- unit number i of an array is the low 16 bits of its word number i (JVMS 2.3.1)
abbrev pub IsUnitAt : {S : Type 0} → Core S → ℕ → ℕ → ℕ → Type 0
IsUnitAt c r i u = (v : ℕ) × WillBe c (word_place r i) v × (u ≡ v % 2 ^ 16)

-- the units of the array of r: as many as its header says
pub record AreUnitsOf {S : Type 0} (c : Core S) (r : ℕ) (units : List ℕ) : Type 0 where
  pub count : length units ≡ header_length (heap_in c r)
  pub each : (i u : ℕ) → slice_get units i ≡ Some u → IsUnitAt c r i u

-- The texts of the lines that name arrays: each array once, by rising reference, with its units.
pub record AreTextsOf {S : Type 0} (c : Core S) (lines : List Line) (made : List MadeText) : Type 0 where
  pub rising : IsStrictlyIncreasing (references_of made)
  pub each : (r : ℕ) → Contains (references_of made) r ↔ Contains lines (Made r)
  pub units : All (λ text. AreUnitsOf c text.at text.units) made
