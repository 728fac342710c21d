-- Threads that stay ready on any words.
use Rattle.op_core.specs.ThreadCode.{Code}
use Rattle.thread_automaton.specs.declared.Bounds.{Bounds}
use Rattle.thread_automaton.specs.ThreadState.{ThreadState}
use Rattle.thread_moves.specs.Change.{NamesThread}
use Rattle.turn_runs.specs.Turns.{StaysReady}

-- the thread stays ready where each step may be made, and each start word that is loaded says the number of a thread
abbrev pub StaysReadyOnAny : {S P : Type 0} → Code S → Bounds → ThreadState S → P → Type 0
StaysReadyOnAny code b th x = StaysReady code b (λ x step. Unit {0}) (λ x step answer y. NamesThread step answer) th x
