-- The third law: the cut of a run is a clean cut.
use Rattle.std.specs.Prelude.{◌<◌, ◌^◌, ℕ, Bool, List, length}
use Rattle.op_core.specs.ThreadCode.{Code}
use Rattle.op_core.specs.OrdinaryState.{Monitor, view_of}
use Rattle.op_core.specs.InPlaceList.{Entry, IsInPlaceList}
use Rattle.op_core.specs.CleanCut.{AgreeFrom, IsCleanCut, view_from}
use Rattle.thread_automaton.specs.declared.Bounds.{Bounds}
use Rattle.core_runs.specs.Cores.{Core}
use Rattle.core_runs.specs.Acts.{Act}
use Rattle.core_runs.specs.Entries.{ShowFrom}
use Rattle.core_runs.specs.Reading.{ordinary}
use Rattle.section_laws.specs.SettledMonitors.{SettledMonitors}
use Rattle.first_law.specs.SettledRuns.{IsDoomedTest, held_in, back_in}
use Rattle.written_words.specs.SettledWords.{WordsAreSettled}
use Rattle.first_law.specs.Free.{IsFreeRun}
use Rattle.first_law.specs.Cuts.{is_cut_by}

-- A run that begins as it has to, with the entries that its acts show, and a test of the acts that opened levels which are
-- revoked at any place of the run.
pub record IsCutRun {S : Type 0} (code : Code S) (b : Bounds) (is_thread : ℕ → Bool) (first : S) (classes : ℕ) (c : ℕ → Core S) (acts : List Act) (es : List Entry) (doomed : ℕ → Bool) : Type 0 where
  pub free : IsFreeRun code b is_thread first classes c acts
  -- tags have room for the numbers of its sections
  pub sections : b.limits.sections < 2 ^ 24
  pub shows : ShowFrom code b c 0 acts es
  -- `free_runs_are_in_place` has such entries of each such run
  pub in_place : IsInPlaceList code (λ k. ordinary code is_thread (c k)) es
  pub tells : IsDoomedTest c acts doomed

-- the monitors are those that threads will hold once they have undone what they are to undo
abbrev pub MonitorsAreSettled : {S : Type 0} → (ℕ → Bool) → Core S → (ℕ → Monitor) → Type 0
MonitorsAreSettled doomed core settled = SettledMonitors settled (λ t. held_in (core.threads t)) (λ t r. back_in doomed (core.levels t) (core.threads t) r)

-- each event that is left finds what the events left before it make of the words and monitors
abbrev pub EventsLeftAgree : {S : Type 0} → Code S → Type 0
EventsLeftAgree {S} code = (b : Bounds) (is_thread : ℕ → Bool) (first : S) (classes : ℕ) (c : ℕ → Core S) (acts : List Act) (es : List Entry) (doomed : ℕ → Bool) → IsCutRun code b is_thread first classes c acts es doomed
    → AgreeFrom (is_cut_by doomed c acts) (λ k. ordinary code is_thread (c k)) 0 (view_of (ordinary code is_thread (c 0))) es

-- so what is made with a level open that is to be undone is a clean cut
abbrev pub CutsAreClean : {S : Type 0} → Code S → Type 0
CutsAreClean {S} code = (b : Bounds) (is_thread : ℕ → Bool) (first : S) (classes : ℕ) (c : ℕ → Core S) (acts : List Act) (es : List Entry) (doomed : ℕ → Bool) → IsCutRun code b is_thread first classes c acts es doomed
    → IsCleanCut (λ k. ordinary code is_thread (c k)) es (is_cut_by doomed c acts)

-- What the events that are left make of words and monitors, beginning with those of the run's first ordinary state, is settled
-- where the run ends: each is as it will be once every thread has undone what it is to undo.
abbrev pub EventsLeftSettle : {S : Type 0} → Code S → Type 0
EventsLeftSettle {S} code = (b : Bounds) (is_thread : ℕ → Bool) (first : S) (classes : ℕ) (c : ℕ → Core S) (acts : List Act) (es : List Entry) (doomed : ℕ → Bool) → IsCutRun code b is_thread first classes c acts es doomed
    → WordsAreSettled is_thread doomed (c (length acts)) (view_from (is_cut_by doomed c acts) 0 (view_of (ordinary code is_thread (c 0))) es).words
    × MonitorsAreSettled doomed (c (length acts)) (view_from (is_cut_by doomed c acts) 0 (view_of (ordinary code is_thread (c 0))) es).monitors
