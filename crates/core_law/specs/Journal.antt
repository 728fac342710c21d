-- The journal of a run: its events that are left and its undoings, in the order in which they were made.
use Rattle.std.specs.Prelude.{ℕ, suc, ◌+◌, Bool, Some, List, [], ◌∷◌, length, if◌then◌else◌}
use Rattle.op_core.specs.OrdinaryState.{set_at}
use Rattle.op_core.specs.InPlaceList.{Entry, silent, event, put_back, give_back, go_back, unseen}
use Rattle.trace_journal.specs.declared.item.JournalItem.{JournalItem}
use Rattle.trace_journal.specs.declared.item.JournalItem.TheVariants.{Event as event_item, Undone}
use Rattle.core_runs.specs.Cores.{Core}
use Rattle.core_runs.specs.Acts.{Act, mover}

-- What the acts from number k on, with the entries that they show, put into the journal, where the cut isn't left. By thread
-- `silents` are its silent moves that are left since its event before, and `back` the words that it has put back since it last
-- undid levels.
abbrev pub journal_from : {S : Type 0} → (ℕ → Core S) → (ℕ → Bool) → ℕ → (ℕ → ℕ) → (ℕ → ℕ) → List Act → List Entry → List JournalItem
journal_from c cut k silents back [] es = []
journal_from c cut k silents back (x ∷ acts) [] = []
journal_from c cut k silents back (x ∷ acts) (silent t ∷ es) =
    journal_from c cut (suc k) (if cut k then silents else set_at silents t (suc (silents t))) back acts es
journal_from c cut k silents back (x ∷ acts) (event t op reply ∷ es) =
    if cut k
    then journal_from c cut (suc k) silents back acts es
    else (event_item (record { thread = t; silent = silents t; op = op; reply = reply })
    ∷ journal_from c cut (suc k) (set_at silents t 0) back acts es)
journal_from c cut k silents back (x ∷ acts) (put_back r i v ∷ es) =
    journal_from c cut (suc k) silents (set_at back (mover (Some x)) (suc (back (mover (Some x))))) acts es
journal_from c cut k silents back (x ∷ acts) (give_back t r count ∷ es) = journal_from c cut (suc k) silents back acts es
-- An undoing is told with the outermost level that was undone, counted from 1.
journal_from c cut k silents back (x ∷ acts) (go_back t p ∷ es) =
    Undone t (length ((c (suc k)).levels t) + 1) (back t) ∷ journal_from c cut (suc k) silents (set_at back t 0) acts es
journal_from c cut k silents back (x ∷ acts) (unseen ∷ es) = journal_from c cut (suc k) silents back acts es

-- the journal of a run
abbrev pub run_journal : {S : Type 0} → (ℕ → Core S) → (ℕ → Bool) → List Act → List Entry → List JournalItem
run_journal c cut acts es = journal_from c cut 0 (λ _. 0) (λ _. 0) acts es
