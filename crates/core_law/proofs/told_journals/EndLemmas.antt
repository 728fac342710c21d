-- What the threads tell where a run ends.
use Rattle.std.proofs.Common.{◌≡◌, ℕ, zero, suc, ◌≤◌, Bool, Option, None, Some, List, ◌++◌, length, refl, sym, ◌∙◌, ap, arith}
use Rattle.op_core.specs.ThreadCode.{Code}
use Rattle.thread_automaton.specs.declared.Bounds.{Bounds}
use Rattle.thread_automaton.specs.ThreadState.{ThreadState}
use Rattle.core_runs.specs.Cores.{Core}
use Rattle.core_runs.specs.Acts.{Act}
use Rattle.section_laws.specs.Settled.{to_undo}
use Rattle.section_laws.specs.Levels.{IsLevelledRun}
use Rattle.section_laws.proofs.section_levels.RunLemmas.{Counted, counted_at}
use Rattle.first_law.specs.SettledRuns.{IsDoomedTest}
use Rattle.first_law.proofs.grounded_monitors.RunLemmas.{free_runs_hold_monitors}
use Rattle.core_law.specs.Erasure.{is_left_out}
use Rattle.core_law.specs.RevokedLevels.{is_level_revoked}
use Rattle.core_law.proofs.RevokedLemmas.{revoked_levels_are_told}
use Rattle.core_law.proofs.UndoLemmas.{levels_to_undo_are_told}
use Rattle.journal_rows.specs.Told.{after_row_calls, items_left}
use Rattle.core_law.specs.RunCalls.{rows_at, end_call, end_calls}
use Rattle.core_law.proofs.run_journals.JournalLaw.{rows_are_journals}
use Rattle.core_law.proofs.run_journals.JournalLemmas.{journals_have_events}
use Rattle.core_law.specs.Calls.{end_call_told, end_calls_told}
use Rattle.core_law.specs.ToldLaws.{ThreadsTellJournals}

module _ {S : Type 0} (code : Code S) (b : Bounds) (first : S) (classes : ℕ) (c : ℕ → Core S) (acts : List Act) (run : IsLevelledRun code b first classes c acts) (doomed : ℕ → Bool)
    (tells : IsDoomedTest c acts doomed) where
  whole : length acts ≤ length acts
  whole = omega arith

  counted : Counted code b first classes c acts run (c (length acts))
  counted = counted_at code b first classes c acts run (length acts) whole

  one_call : (t : ℕ) (o : Option (ThreadState S)) → (c (length acts)).threads t ≡ o
      → end_call t (length ((c (length acts)).levels t)) (to_undo doomed ((c (length acts)).levels t)) ≡ end_call_told (c (length acts)).words t o
  one_call t None is = ap (λ levels. end_call t (length levels) (to_undo doomed levels)) (counted.nobody t is)
  one_call t (Some th) is = ap (λ n. end_call t n (to_undo doomed ((c (length acts)).levels t))) (counted.there t th is)
      ∙ ap (end_call t th.levels) (levels_to_undo_are_told code b first classes c acts run doomed tells t th is)

  pub calls_are : (n : ℕ) → end_calls doomed (c (length acts)).levels n ≡ end_calls_told (c (length acts)) n
  calls_are zero = refl
  calls_are (suc t) = ap (λ xs. xs ++ end_calls doomed (c (length acts)).levels t) (one_call t ((c (length acts)).threads t) refl)
      ∙ ap (λ xs. end_call_told (c (length acts)).words t ((c (length acts)).threads t) ++ xs) (calls_are t)

  pub none_above : (n : ℕ) → ((t : ℕ) → n ≤ t → (c (length acts)).threads t ≡ None) → (t : ℕ) → n ≤ t → to_undo doomed ((c (length acts)).levels t) ≡ 0
  none_above n nobody t past = ap (to_undo doomed) (counted.nobody t (nobody t past))

pub threads_tell_journals : {S : Type 0} (code : Code S) → ThreadsTellJournals code
threads_tell_journals code b is_thread first classes c acts free left n nobody = record {
  items = ap (λ calls. items_left (after_row_calls calls (rows_at c acts left.entries (length acts)))) (sym (calls_are code b first classes c acts levelled (is_level_revoked c acts) tells n))
      ∙ rows_are_journals code b first classes c acts left.entries (is_level_revoked c acts) (record { levelled = levelled; shows = left.shows; tells = tells }) n
      (none_above code b first classes c acts levelled (is_level_revoked c acts) tells n nobody);
  events = journals_have_events _ c (is_left_out c acts) acts left.entries left.count;
}
  where
    levelled : IsLevelledRun code b first classes c acts
    levelled = (free_runs_hold_monitors code b is_thread first classes c acts free).levelled

    tells : IsDoomedTest c acts (is_level_revoked c acts)
    tells = revoked_levels_are_told code b first classes c acts levelled
