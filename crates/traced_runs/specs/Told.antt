-- What the acts of a run tell the rows of its journal, each as its thread knows itself.
use Rattle.std.specs.Prelude.{◌≡◌, ℕ, zero, suc, Option, None, Some, List, [], length, slice_get}
use Rattle.op_core.specs.ThreadCode.{Code}
use Rattle.step_port.specs.declared.answer.StepAnswer.{StepAnswer}
use Rattle.step_port.specs.declared.step.Step.{Step}
use Rattle.thread_automaton.specs.declared.Bounds.{Bounds}
use Rattle.thread_automaton.specs.ThreadState.{ThreadState}
use Rattle.thread_automaton.specs.Told.{told, after_answer}
use Rattle.core_runs.specs.Cores.{Core}
use Rattle.core_runs.specs.Acts.{Act, did, ActFrom}
use Rattle.journal_rows.specs.Told.{RowCall, RowsTold, nothing_told, after_row_calls}
use Rattle.journal_rows.specs.Rows.{AreRowsTold}
use Rattle.journal_rows.specs.declared.journal_rows.JournalRows.{JournalRows}
use Rattle.core_law.specs.Calls.{step_calls}

-- thread t, if it is there, tells this of its step
abbrev pub calls_of_step : {S : Type 0} → Code S → Bounds → ℕ → Step → StepAnswer → Option (ThreadState S) → List RowCall
calls_of_step code b t step a None = []
calls_of_step code b t step a (Some th) = step_calls t th (code.next th.local) step (told code b th step a) (after_answer code b th step a)

-- An act that is made in this core tells this. Silent moves tell nothing.
abbrev pub calls_of_act : {S : Type 0} → Code S → Bounds → Core S → Option Act → List RowCall
calls_of_act code b c (Some (did t step a)) = calls_of_step code b t step a (c.threads t)
calls_of_act code b c act = []

-- the rows once k acts have told theirs
abbrev pub told_at : {S : Type 0} → Code S → Bounds → (ℕ → Core S) → List Act → ℕ → RowsTold
told_at code b c acts zero = nothing_told
told_at code b c acts (suc k) = after_row_calls (calls_of_act code b (c k) (slice_get acts k)) (told_at code b c acts k)

-- The rows are those that the acts have told, which lead on from this core.
abbrev pub AreRowsOfActs : {S : Type 0} → Code S → Bounds → Core S → List Act → JournalRows → Type 0
AreRowsOfActs {S} code b core acts rows = (c : ℕ → Core S) → c 0 ≡ core → ActFrom code b c 0 acts → AreRowsTold rows (told_at code b c acts (length acts))
