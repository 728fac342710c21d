-- What a turn asks of the shared words, at each place of a run.
use Rattle.std.specs.Prelude.{◌≡◌, ◌<◌, ◌≤◌, ◌+◌, ◌^◌, ℕ, Bool, false, Some, List, length}
use Rattle.op_core.specs.ThreadCode.{Code}
use Rattle.heap_words.specs.declared.areas.Area.{Area}
use Rattle.heap_words.specs.declared.areas.Area.TheVariants.{Control}
use Rattle.heap_words.specs.declared.areas.Areas.{Areas}
use Rattle.heap_words.specs.Areas.{IsIn}
use Rattle.step_port.specs.declared.answer.StepAnswer.{StepAnswer}
use Rattle.step_port.specs.declared.step.Step.{Step}
use Rattle.step_port.specs.declared.step.Step.TheVariants.{SwapWord}
use Rattle.step_port.specs.Steps.{place_of, effect_of}
use Rattle.step_port.specs.Words.{Words, answer_of}
use Rattle.plain_words.specs.declared.plain.PlainWords.{PlainWords}
use Rattle.plain_words.specs.Table.{words_in, HasRoom, MayStep, Stepped}
use Rattle.thread_automaton.specs.declared.Bounds.{Bounds}
use Rattle.thread_automaton.specs.declared.Move.TheVariants.{Make}
use Rattle.thread_automaton.specs.ThreadState.{ThreadState}
use Rattle.thread_automaton.specs.NextMove.{next_move}
use Rattle.core_runs.specs.Cores.{Core}
use Rattle.core_runs.specs.Acts.{Act}
use Rattle.first_law.specs.Free.{IsFreeRun}
use Rattle.written_words.specs.Tags.{IsWrittenRun}
use Rattle.quick_turn_laws.specs.Laws.{IsNotWaitedFor}
use Rattle.thread_moves.specs.Change.{NamesThread}

-- The table has a word for each section that can be drawn, for each class below a number, and for each place up to the end of
-- the heap.
pub record HasWordsFor (b : Bounds) (number : ℕ) (areas : Areas) : Type 0 where
  pub sections : b.limits.sections ≤ areas.sections
  pub classes : number ≤ areas.classes + 1
  pub objects : b.first + b.limits.heap ≤ areas.objects + 1

-- No section is drawn, no words are taken for objects, no line is printed, and the number of one thread is drawn.
pub record IsUndrawn (w : Words) : Type 0 where
  pub sections : w (Control 1) ≡ 0
  pub taken : w (Control 2) ≡ 0
  pub lines : w (Control 3) ≡ 0
  pub threads : w (Control 4) ≡ 1

-- A run that begins so, as `grounded_monitors` has them, in which tags say who wrote the words of objects, and whose threads
-- make fewer than 2^56 counted turns each: so sums fit in words of 64 bits.
pub record IsRunInRoom {S : Type 0} (code : Code S) (b : Bounds) (is_thread : ℕ → Bool) (first : S) (classes : ℕ) (c : ℕ → Core S) (acts : List Act) : Type 0 where
  pub run : IsFreeRun code b is_thread first classes c acts
  pub written : IsWrittenRun code b is_thread first classes c acts
  pub begins : IsUndrawn (c 0).words
  pub turns : b.limits.turns < 2 ^ 56

-- the step's word is in the table, and a sum that the step makes of it has 64 bits
pub record IsAllowed (areas : Areas) (w : Words) (step : Step) : Type 0 where
  pub there : IsIn areas (place_of step)
  pub room : HasRoom (effect_of step) (w (place_of step))

-- The step that comes next for the thread, if one does, is allowed; and a start word that it loads says the number of a thread.
pub record CanStep {S : Type 0} (code : Code S) (b : Bounds) (areas : Areas) (w : Words) (th : ThreadState S) : Type 0 where
  pub allowed : (step : Step) → next_move code b th ≡ Make step → IsAllowed areas w step
  pub names : (step : Step) → next_move code b th ≡ Make step → NamesThread step (answer_of w step)

-- so it is with each thread at each place
abbrev pub StepsAreAllowed : {S : Type 0} → Code S → Type 0
StepsAreAllowed {S} code = (b : Bounds) (is_thread : ℕ → Bool) (first : S) (classes : ℕ) (areas : Areas) (c : ℕ → Core S) (acts : List Act)
    → HasWordsFor b classes areas
    → IsRunInRoom code b is_thread first classes c acts → (k t : ℕ) (th : ThreadState S) → k ≤ length acts → (c k).threads t ≡ Some th
    → CanStep code b areas (c k).words th

-- a word that a thread is about to overwrite is neither a monitor that another wants, nor a start word for which it waits
abbrev pub WritesAreApart : {S : Type 0} → Code S → Type 0
WritesAreApart {S} code = (b : Bounds) (is_thread : ℕ → Bool) (first : S) (classes : ℕ) (areas : Areas) (c : ℕ → Core S) (acts : List Act)
    → HasWordsFor b classes areas
    → IsRunInRoom code b is_thread first classes c acts → (k t u : ℕ) (th uh : ThreadState S) (at old new : ℕ) → k ≤ length acts
    → (c k).threads t ≡ Some th → (c k).threads u ≡ Some uh
    → uh.over ≡ false → next_move code b th ≡ Make (SwapWord at old new) → IsNotWaitedFor (code.next uh.local) at

-- ---- tables

-- the table has these areas, and in them these words
pub record HoldsWords (x : PlainWords) (areas : Areas) (w : Words) : Type 0 where
  pub same : x.areas ≡ areas
  pub words : (a : Area) → IsIn areas a → words_in x a ≡ w a

-- The table may make the step that comes next for the thread, and a start word that this step loads says the number of a thread:
-- so a turn of the thread on the table can be made (`turn` of `rollback_core`), where what it wants can be asked for.
pub record IsReadyFor {S : Type 0} (code : Code S) (b : Bounds) (x : PlainWords) (th : ThreadState S) : Type 0 where
  pub allows : (step : Step) → next_move code b th ≡ Make step → MayStep x step
  pub names : (step : Step) (a : StepAnswer) (y : PlainWords) → next_move code b th ≡ Make step → Stepped x step a y → NamesThread step a

-- so is each table that holds the words of a place, for each thread there
abbrev pub TablesAreReady : {S : Type 0} → Code S → Type 0
TablesAreReady {S} code = (b : Bounds) (is_thread : ℕ → Bool) (first : S) (classes : ℕ) (areas : Areas) (c : ℕ → Core S) (acts : List Act)
    → HasWordsFor b classes areas
    → IsRunInRoom code b is_thread first classes c acts → (k t : ℕ) (th : ThreadState S) → k ≤ length acts → (c k).threads t ≡ Some th
    → (x : PlainWords) → HoldsWords x areas (c k).words → IsReadyFor code b x th
