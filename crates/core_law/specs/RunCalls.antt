-- What a run tells the rows of its journal.
use Rattle.std.specs.Prelude.{ℕ, zero, suc, ◌-◌, Bool, Option, None, Some, List, [], ◌∷◌, ◌++◌, length, nat_lt, slice_get, if◌then◌else◌}
use Rattle.op_core.specs.InPlaceList.{Entry, event, put_back, go_back}
use Rattle.thread_automaton.specs.ThreadState.{ThreadState}
use Rattle.core_runs.specs.Cores.{Core}
use Rattle.core_runs.specs.Acts.{Act, mover}
use Rattle.section_laws.specs.Settled.{to_undo}
use Rattle.journal_rows.specs.Told.{RowCall, event_came, opens_a_level, closes_levels, puts_word_back, undoes_levels_to, leaves_levels_out, RowsTold, nothing_told, after_row_calls}

abbrev pub counted_silents : {S : Type 0} → Option (ThreadState S) → ℕ
counted_silents None = 0
counted_silents (Some th) = th.silents

-- of the entry that an act of thread t shows, made in this core: an event, or a word that is put back
abbrev pub entry_calls : {S : Type 0} → Core S → ℕ → Entry → List RowCall
entry_calls c t (event u op reply) = event_came (record { thread = u; silent = counted_silents (c.threads u); op = op; reply = reply }) ∷ []
entry_calls c t (put_back r i v) = puts_word_back t ∷ []
entry_calls c t e = []

-- a level that thread t opened, or those that it closed, where it had n levels open before, and has m after
abbrev pub open_or_close_calls : ℕ → ℕ → ℕ → List RowCall
open_or_close_calls t n m = if nat_lt n m then opens_a_level t ∷ [] else if nat_lt m n then closes_levels t m ∷ [] else []

-- of the levels of thread t, of which there were n before an act of its own, and are m after it
abbrev pub level_calls : ℕ → ℕ → ℕ → Entry → List RowCall
level_calls t n m (go_back u p) = undoes_levels_to u m ∷ []
level_calls t n m e = open_or_close_calls t n m

-- act number k tells this, the newest first
abbrev pub calls_by : {S : Type 0} → (ℕ → Core S) → ℕ → ℕ → Entry → List RowCall
calls_by c k t e = level_calls t (length ((c k).levels t)) (length ((c (suc k)).levels t)) e ++ entry_calls (c k) t e

abbrev pub calls_at : {S : Type 0} → (ℕ → Core S) → ℕ → Option Act → Option Entry → List RowCall
calls_at c k act None = []
calls_at c k act (Some e) = calls_by c k (mover act) e

-- the rows when k acts have told theirs
abbrev pub rows_at : {S : Type 0} → (ℕ → Core S) → List Act → List Entry → ℕ → RowsTold
rows_at c acts es zero = nothing_told
rows_at c acts es (suc k) = after_row_calls (calls_at c k (slice_get acts k) (slice_get es k)) (rows_at c acts es k)

-- where a run ends, a thread with u of its n levels to undo tells this
abbrev pub end_call : ℕ → ℕ → ℕ → List RowCall
end_call t n zero = []
end_call t n (suc u) = leaves_levels_out t (n - suc u) ∷ []

-- each of the threads below this number, the highest first
abbrev pub end_calls : (ℕ → Bool) → (ℕ → List ℕ) → ℕ → List RowCall
end_calls doomed levels zero = []
end_calls doomed levels (suc t) = end_call t (length (levels t)) (to_undo doomed (levels t)) ++ end_calls doomed levels t
