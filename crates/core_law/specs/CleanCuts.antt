-- The conditions of a clean cut, of the acts that are made with a level open that is to be undone.
use Rattle.std.specs.Prelude.{◌≡◌, ◌<◌, ◌≤◌, ◌⊎◌, ℕ, Bool, true, Some, List, length, slice_get}
use Rattle.op_core.specs.declared.Op.{Op}
use Rattle.op_core.specs.declared.Reply.{Reply}
use Rattle.op_core.specs.ThreadCode.{Code}
use Rattle.op_core.specs.InPlaceList.{Entry, event, go_back}
use Rattle.op_core.specs.CleanCut.{IsStepOf, IsGoneBackOver, CanBeCut}
use Rattle.thread_automaton.specs.declared.Bounds.{Bounds}
use Rattle.core_runs.specs.Cores.{Core}
use Rattle.core_runs.specs.Acts.{Act}
use Rattle.core_runs.specs.Entries.{ShowFrom}
use Rattle.section_laws.specs.Settled.{to_undo}
use Rattle.section_laws.specs.Levels.{IsLevelledRun}
use Rattle.first_law.specs.SettledRuns.{IsDoomedTest}
use Rattle.first_law.specs.Cuts.{is_cut_by}

-- A run with the entry that each act shows, and a test of the acts that opened levels which are revoked at any place. What is
-- cut are the entries of the acts that threads make with such a level open (`is_cut_by`).
pub record IsShownRun {S : Type 0} (code : Code S) (b : Bounds) (first : S) (classes : ℕ) (c : ℕ → Core S) (acts : List Act) (es : List Entry) (doomed : ℕ → Bool) : Type 0 where
  pub levelled : IsLevelledRun code b first classes c acts
  pub shows : ShowFrom code b c 0 acts es
  pub tells : IsDoomedTest c acts doomed

-- what a thread did since the place to which it goes back is cut
abbrev pub UndoneIsCut : {S : Type 0} → Code S → Type 0
UndoneIsCut {S} code = (b : Bounds) (first : S) (classes : ℕ) (c : ℕ → Core S) (acts : List Act) (es : List Entry) (doomed : ℕ → Bool) → IsShownRun code b first classes c acts es doomed
    → (j t p : ℕ) → slice_get es j ≡ Some (go_back t p) → (i : ℕ) → p ≤ i → i < j → IsStepOf t (slice_get es i) → is_cut_by doomed c acts i ≡ true

-- and meanwhile it goes back no further
abbrev pub UndoingsNest : {S : Type 0} → Code S → Type 0
UndoingsNest {S} code = (b : Bounds) (first : S) (classes : ℕ) (c : ℕ → Core S) (acts : List Act) (es : List Entry) (doomed : ℕ → Bool) → IsShownRun code b first classes c acts es doomed
    → (j t p : ℕ) → slice_get es j ≡ Some (go_back t p) → (i q : ℕ) → p ≤ i → i < j → slice_get es i ≡ Some (go_back t q) → p ≤ q

-- what is cut is gone back over later, or all that its thread does later is cut
abbrev pub CutIsCovered : {S : Type 0} → Code S → Type 0
CutIsCovered {S} code = (b : Bounds) (first : S) (classes : ℕ) (c : ℕ → Core S) (acts : List Act) (es : List Entry) (doomed : ℕ → Bool) → IsShownRun code b first classes c acts es doomed
    → (i t : ℕ) → is_cut_by doomed c acts i ≡ true → IsStepOf t (slice_get es i)
    → IsGoneBackOver es t i ⊎ ((j : ℕ) → i < j → IsStepOf t (slice_get es j) → is_cut_by doomed c acts j ≡ true)

-- no event is cut that makes something known to other threads that can't be put back
abbrev pub CutIsAllowed : {S : Type 0} → Code S → Type 0
CutIsAllowed {S} code = (b : Bounds) (first : S) (classes : ℕ) (c : ℕ → Core S) (acts : List Act) (es : List Entry) (doomed : ℕ → Bool) → IsShownRun code b first classes c acts es doomed
    → (i t : ℕ) (op : Op) (reply : Reply) → is_cut_by doomed c acts i ≡ true → slice_get es i ≡ Some (event t op reply) → CanBeCut op reply

-- if a thread has nothing left to undo where the run ends, what is cut of it is all gone back over
abbrev pub RestedThreadsHaveGoneBack : {S : Type 0} → Code S → Type 0
RestedThreadsHaveGoneBack {S} code = (b : Bounds) (first : S) (classes : ℕ) (c : ℕ → Core S) (acts : List Act) (es : List Entry) (doomed : ℕ → Bool) → IsShownRun code b first classes c acts es doomed
    → (t : ℕ) → to_undo doomed ((c (length acts)).levels t) ≡ 0 → (i : ℕ) → is_cut_by doomed c acts i ≡ true → IsStepOf t (slice_get es i) → IsGoneBackOver es t i
