-- What the threads of a run tell the rows of its journal, each as it knows itself.
use Rattle.std.specs.Prelude.{ℕ, zero, suc, Option, None, Some, List, [], ◌∷◌, ◌++◌}
use Rattle.op_core.specs.declared.Next.{Next}
use Rattle.op_core.specs.declared.Next.TheVariants.{Want}
use Rattle.step_port.specs.declared.step.Step.{Step}
use Rattle.step_port.specs.declared.step.Step.TheVariants.{RestoreWord, MarkUndone}
use Rattle.step_port.specs.Words.{Words}
use Rattle.thread_automaton.specs.ThreadState.{ThreadState}
use Rattle.thread_automaton.specs.Told.{Told, advanced}
use Rattle.core_runs.specs.Cores.{Core}
use Rattle.word_texts.specs.PutBack.{levels_back}
use Rattle.journal_rows.specs.Told.{RowCall, event_came, puts_word_back, undoes_levels_to}
use Rattle.core_law.specs.RunCalls.{open_or_close_calls, end_call}

-- an event comes where others see a reply; the thread made this number of silent moves before
abbrev pub reply_calls : ℕ → ℕ → Next → Told → List RowCall
reply_calls t silents (Want op) (advanced (Some reply)) = event_came (record { thread = t; silent = silents; op = op; reply = reply }) ∷ []
reply_calls t silents next told = []

abbrev pub shown_calls : ℕ → ℕ → Next → Step → Told → List RowCall
shown_calls t silents next (RestoreWord at old) told = puts_word_back t ∷ []
shown_calls t silents next step told = reply_calls t silents next told

-- the thread had n levels open before the step, and has m after it
abbrev pub depth_calls : ℕ → ℕ → ℕ → Step → List RowCall
depth_calls t n m (MarkUndone s w) = undoes_levels_to t m ∷ []
depth_calls t n m step = open_or_close_calls t n m

-- Thread t, which was th, wanted `next`, and is y after its step, tells this of it, the newest first.
abbrev pub step_calls : {S : Type 0} → ℕ → ThreadState S → Next → Step → Told → ThreadState S → List RowCall
step_calls t th next step told y = depth_calls t th.levels y.levels step ++ shown_calls t th.silents next step told

-- where a run ends, a thread tells which levels it is to undo, as the word of its section says it
abbrev pub end_call_told : {S : Type 0} → Words → ℕ → Option (ThreadState S) → List RowCall
end_call_told w t None = []
end_call_told w t (Some th) = end_call t th.levels (levels_back w th)

-- each of the threads below this number, the highest first
abbrev pub end_calls_told : {S : Type 0} → Core S → ℕ → List RowCall
end_calls_told c zero = []
end_calls_told c (suc t) = end_call_told c.words t (c.threads t) ++ end_calls_told c t
