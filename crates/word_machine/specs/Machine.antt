-- Threads and the words that they share, as they are in memory.
use Rattle.std.specs.Prelude.{◌≡◌, ℕ, Bool, false, Option, None, Some, List}
use Rattle.std.specs.Option.{option_map}
use Rattle.op_core.specs.ThreadCode.{Code}
use Rattle.step_port.specs.Words.{Words}
use Rattle.plain_words.specs.declared.plain.PlainWords.{PlainWords}
use Rattle.plain_words.specs.Table.{words_in}
use Rattle.thread_automaton.specs.ThreadState.{ThreadState}
use Rattle.core_runs.specs.Cores.{Core}
use Rattle.word_runs.specs.Enabled.{is_enabled}
use Rattle.thread_moves.specs.declared.thread.JThread.{JThread}
use Rattle.word_machine.specs.Seats.{seat_in}

-- the thread of the definitions that it is
abbrev pub threads_in : {C S : Type 0} → (JThread C → ThreadState S) → List (Option (JThread C)) → ℕ → Option (ThreadState S)
threads_in meant places t = option_map meant (seat_in places t)

-- The words and the threads of this core are those in memory. `meant` says which thread of the definitions one in memory is.
pub record IsCoreOf {C S : Type 0} (meant : JThread C → ThreadState S) (w : PlainWords) (places : List (Option (JThread C))) (core : Core S) : Type 0 where
  pub words : core.words ≡ words_in w
  pub threads : core.threads ≡ threads_in meant places

-- the thread is there and can go on
abbrev pub is_enabled_in : {S : Type 0} → Code S → Words → Option (ThreadState S) → Bool
is_enabled_in code w None = false
is_enabled_in code w (Some th) = is_enabled code w th
