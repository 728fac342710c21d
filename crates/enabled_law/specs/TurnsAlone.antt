-- Whether a thread goes on that is given turns while no other thread is.
use Rattle.std.specs.Prelude.{ℕ, zero, suc, ◌||◌, Bool, true, false}
use Rattle.op_core.specs.ThreadCode.{Code}
use Rattle.step_port.specs.Words.{Words, answer_of, words_after}
use Rattle.thread_automaton.specs.declared.Bounds.{Bounds}
use Rattle.thread_automaton.specs.declared.Move.{Move}
use Rattle.thread_automaton.specs.declared.Move.TheVariants.{Over, Quiet, Stop, Make}
use Rattle.thread_automaton.specs.ThreadState.{ThreadState}
use Rattle.thread_automaton.specs.NextMove.{next_move}
use Rattle.thread_automaton.specs.Told.{Told, advanced, born, told, after_answer}

-- the turn counts against the limit of the thread's turns
abbrev pub counts : Told → Bool
counts (advanced reply) = true
counts born = true
counts other = false

-- Its next turn makes this move on the words w, and counts or meets a limit; or what comes after it does. A silent step counts, or
-- would make a 1,025th frame.
abbrev pub goes_on_by : {S : Type 0} → Code S → Bounds → (ThreadState S → Words → Bool) → ThreadState S → Words → Move → Bool
goes_on_by code b later th w Over = false
goes_on_by code b later th w (Stop limit) = true
goes_on_by code b later th w Quiet = true
goes_on_by code b later th w (Make step) =
    counts (told code b th step (answer_of w step)) || later (after_answer code b th step (answer_of w step)) (words_after step w)

-- One of the next n turns that the thread is given alone counts, or meets a limit.
abbrev pub goes_on_in : {S : Type 0} → Code S → Bounds → ℕ → ThreadState S → Words → Bool
goes_on_in code b zero th w = false
goes_on_in code b (suc n) th w = goes_on_by code b (goes_on_in code b n) th w (next_move code b th)
