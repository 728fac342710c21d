use Rattle.thread_moves.specs.Thread.{thread_of}
use Rattle.core_runs.specs.Cores.{Core}
use Rattle.word_machine.specs.Machine.{IsCoreOf}
use Rattle.journal_rows.specs.Told.{RowsTold, after_row_calls}
use Rattle.journal_rows.specs.Rows.{AreRowsTold}
use Rattle.core_law.specs.Calls.{end_calls_told}
use Rattle.traced_runs.proofs.telling.tell_ends.Given as goal

abbrev pub invariant-loop-number : goal.invariant-loop-number
invariant-loop-number g l = (core : Core g.C.ThreadCode.State) → IsCoreOf (thread_of g.C.ThreadCode.state g.C.ThreadCode.saved) l.machine.words l.machine.seats.places.items core
    → (s : RowsTold) → AreRowsTold l.initial.rows s → AreRowsTold l.rows (after_row_calls (end_calls_told core l.number) s)
