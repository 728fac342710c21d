-- The erasure law: what is left of a run, once the levels that are undone are left out, is an execution.
use Rattle.std.specs.Prelude.{◌≡◌, ◌<◌, ◌^◌, ◌++◌, ℕ, Bool, true, Some, List, length, slice_get}
use Rattle.op_core.specs.declared.Op.{Op}
use Rattle.op_core.specs.declared.Reply.{Reply}
use Rattle.op_core.specs.ThreadCode.{Code, quiet_steps}
use Rattle.op_core.specs.OrdinaryState.{OrdinaryState, live}
use Rattle.op_core.specs.InPlaceList.{Entry, event}
use Rattle.op_core.specs.Execution.{Leads, IsExecution, printed}
use Rattle.op_core.specs.CleanCut.{CanBeCut, kept_by}
use Rattle.op_core.specs.Laws.{IsKeptOf}
use Rattle.thread_automaton.specs.declared.Bounds.{Bounds}
use Rattle.core_runs.specs.Cores.{Core}
use Rattle.core_runs.specs.Acts.{Act}
use Rattle.core_runs.specs.Entries.{ShowFrom}
use Rattle.core_runs.specs.Reading.{ordinary}
use Rattle.section_laws.specs.Settled.{to_undo}
use Rattle.written_words.specs.SettledWords.{WordsAreSettled}
use Rattle.first_law.specs.Free.{IsFreeRun}
use Rattle.first_law.specs.Cuts.{is_cut_by}
use Rattle.core_law.specs.CutLaw.{IsCutRun, MonitorsAreSettled}
use Rattle.core_law.specs.RevokedLevels.{is_level_revoked}

-- the events that are left are an execution from the ordinary state in which the run begins
abbrev pub ErasedRunsAreExecutions : {S : Type 0} → Code S → Type 0
ErasedRunsAreExecutions {S} code = (b : Bounds) (is_thread : ℕ → Bool) (first : S) (classes : ℕ) (c : ℕ → Core S) (acts : List Act) (es : List Entry) (doomed : ℕ → Bool) → IsCutRun code b is_thread first classes c acts es doomed
    → IsExecution code (ordinary code is_thread (c 0)) (kept_by (is_cut_by doomed c acts) es)

-- act number k was made with a level open that is revoked at any place of the run
abbrev pub is_left_out : {S : Type 0} → (ℕ → Core S) → List Act → ℕ → Bool
is_left_out c acts = is_cut_by (is_level_revoked c acts) c acts

-- What is left of a run: the entries that its acts show, and the state to which the events that are left lead.
pub record Erasure {S : Type 0} (code : Code S) (b : Bounds) (is_thread : ℕ → Bool) (c : ℕ → Core S) (acts : List Act) : Type 0 where
  pub entries : List Entry
  pub last : OrdinaryState S
  pub count : length entries ≡ length acts
  pub shows : ShowFrom code b c 0 acts entries
  pub leads : Leads code (ordinary code is_thread (c 0)) (kept_by (is_left_out c acts) entries) last
  -- its classes, the threads that were started, that wait, and that have ended and how, are those of the run's last ordinary
  -- state,
  pub kept : IsKeptOf code (ordinary code is_thread (c 0)) entries (is_left_out c acts) (ordinary code is_thread (c (length acts))) last
  -- and so are its lines, of which those events print the ones that the run adds
  pub lines : (c (length acts)).lines ≡ (c 0).lines ++ printed (kept_by (is_left_out c acts) entries)
  -- nothing is left out that told other threads what can't be taken back,
  pub lasting : (k t : ℕ) (op : Op) (reply : Reply) → slice_get entries k ≡ Some (event t op reply) → is_left_out c acts k ≡ true → CanBeCut op reply
  -- its words and monitors are as they will be once every thread has undone what it is to undo,
  pub words : WordsAreSettled is_thread (is_level_revoked c acts) (c (length acts)) last.words
  pub monitors : MonitorsAreSettled (is_level_revoked c acts) (c (length acts)) last.monitors
  -- and a thread that has nothing to undo is where it is in the run, but for silent steps
  pub places : (t : ℕ) (l : S) → to_undo (is_level_revoked c acts) ((c (length acts)).levels t) ≡ 0 → (ordinary code is_thread (c (length acts))).threads t ≡ live l
      → (from : S) × (n : ℕ) × (last.threads t ≡ live from) × (quiet_steps code n from ≡ Some l)

-- Each run has such an erasure, if it is one as `grounded_monitors` has them, and if tags have room for the numbers of its
-- sections.
abbrev pub RunsAreErased : {S : Type 0} → Code S → Type 0
RunsAreErased {S} code = (b : Bounds) (is_thread : ℕ → Bool) (first : S) (classes : ℕ) (c : ℕ → Core S) (acts : List Act) → IsFreeRun code b is_thread first classes c acts → b.limits.sections < 2 ^ 24
    → Erasure code b is_thread c acts

-- the events that are left are the same, whichever entries are given that the acts show
abbrev pub ErasuresAreOne : {S : Type 0} → Code S → Type 0
ErasuresAreOne {S} code = (b : Bounds) (c : ℕ → Core S) (acts : List Act) (es fs : List Entry) → ShowFrom code b c 0 acts es → ShowFrom code b c 0 acts fs
    → (cut : ℕ → Bool) → kept_by cut es ≡ kept_by cut fs
