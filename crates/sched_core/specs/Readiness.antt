-- What a run has to give at each of its places, so that its threads can have their turns.
use Rattle.std.specs.Prelude.{◌≡◌, ℕ, false, true, Option, None, Some, List, length}
use Rattle.op_core.specs.declared.Op.TheVariants.{End}
use Rattle.op_core.specs.declared.Next.TheVariants.{Want}
use Rattle.op_core.specs.ThreadCode.{Code}
use Rattle.heap_words.specs.declared.areas.Areas.{Areas}
use Rattle.heap_words.specs.Areas.{IsIn}
use Rattle.step_port.specs.declared.step.Step.{Step}
use Rattle.step_port.specs.declared.step.Step.TheVariants.{SwapWord, Split}
use Rattle.step_port.specs.Steps.{place_of, effect_of}
use Rattle.step_port.specs.Words.{Words, answer_of}
use Rattle.plain_words.specs.Table.{HasRoom}
use Rattle.thread_automaton.specs.declared.Bounds.{Bounds}
use Rattle.thread_automaton.specs.declared.Move.TheVariants.{Make}
use Rattle.thread_automaton.specs.ThreadState.{ThreadState}
use Rattle.thread_automaton.specs.NextMove.{next_move}
use Rattle.core_runs.specs.Cores.{Core}
use Rattle.core_runs.specs.Acts.{Act, ActFrom}
use Rattle.section_laws.specs.Lines.{LinesHaveTickets}
pub use Rattle.quick_turn_laws.specs.Laws.{IsNotWaitedFor}
use Rattle.thread_moves.specs.Thread.{CanBeAsked}
use Rattle.thread_moves.specs.Change.{NamesThread}

-- The thread can have a turn on these words: what it wants can be asked for, its step's word is there and has room, and a start
-- word that it loads names a thread.
pub record IsReady {S : Type 0} (code : Code S) (b : Bounds) (areas : Areas) (w : Words) (th : ThreadState S) : Type 0 where
  pub asked : CanBeAsked code th.local (code.next th.local)
  pub there : (step : Step) → next_move code b th ≡ Make step → IsIn areas (place_of step)
  pub room : (step : Step) → next_move code b th ≡ Make step → HasRoom (effect_of step) (w (place_of step))
  pub names : (step : Step) → next_move code b th ≡ Make step → NamesThread step (answer_of w step)

-- So can each thread that hasn't ended, and lines have their tickets. A thread that has ended wanted to. A thread that is handed out
-- isn't there before. No thread writes a word of an object that is a monitor or a start word for which another one waits.
pub record IsWell {S : Type 0} (code : Code S) (b : Bounds) (areas : Areas) (c : Core S) : Type 0 where
  pub ready : (t : ℕ) (th : ThreadState S) → c.threads t ≡ Some th → th.over ≡ false → IsReady code b areas c.words th
  pub lines : LinesHaveTickets c
  pub ended : (t : ℕ) (th : ThreadState S) → c.threads t ≡ Some th → th.over ≡ true → (x : Option ℕ) × (code.next th.local ≡ Want (End x))
  pub new : (t : ℕ) (th : ThreadState S) (n r p : ℕ) → c.threads t ≡ Some th → next_move code b th ≡ Make (Split n r p) → c.threads n ≡ None
  pub apart : (t u : ℕ) (th uh : ThreadState S) (at old new : ℕ) → c.threads t ≡ Some th → c.threads u ≡ Some uh
      → next_move code b th ≡ Make (SwapWord at old new) → IsNotWaitedFor (code.next uh.local) at

-- so it is wherever acts of threads lead from this core
abbrev pub StaysWell : {S : Type 0} → Code S → Bounds → Areas → Core S → Type 0
StaysWell {S} code b areas core = (c : ℕ → Core S) (acts : List Act) → c 0 ≡ core → ActFrom code b c 0 acts → IsWell code b areas (c (length acts))
