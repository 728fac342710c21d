-- The words that threads have logged along a run, and the tags that they carry.
use Rattle.std.specs.Prelude.{◌≡◌, ◌<◌, ◌≤◌, ◌^◌, ℕ, Bool, true, Some, List, length}
use Rattle.op_core.specs.ThreadCode.{Code}
use Rattle.heap_words.specs.declared.areas.Area.{Area}
use Rattle.section_state.specs.SectionWord.{pinned_of}
use Rattle.write_log.specs.declared.Noted.{Noted}
use Rattle.step_port.specs.Words.{Words}
use Rattle.thread_automaton.specs.declared.Bounds.{Bounds}
use Rattle.thread_automaton.specs.ThreadState.{ThreadState, mark_of, noted_since}
use Rattle.core_runs.specs.Cores.{Core}
use Rattle.core_runs.specs.Acts.{Act}
use Rattle.section_laws.specs.Settled.{notes, Carries, AreNotedAgain}
use Rattle.section_laws.specs.Layout.{IsLaidRun}
use Rattle.section_laws.specs.OpenSections.{IsLiveOrRevoking}
use Rattle.first_law.specs.Held.{top_at}
use Rattle.first_law.specs.RunMonitors.{IsMonitorRun}

-- A run whose monitors lie apart, whose threads want what fits the objects, and whose tags have room for the numbers of its
-- sections.
pub record IsTaggedRun {S : Type 0} (code : Code S) (b : Bounds) (is_thread : ℕ → Bool) (first : S) (classes : ℕ) (c : ℕ → Core S) (acts : List Act) : Type 0 where
  pub monitors : IsMonitorRun code b first classes c acts
  pub laid : IsLaidRun code b is_thread c acts
  pub sections : b.limits.sections < 2 ^ 24

-- the words of objects, by their places
abbrev pub heap_of : Words → ℕ → ℕ
heap_of w p = w (Area.Object p)

-- Section s has written each word that is logged here, at level n or further inside; and so it had where the word is logged
-- again.
abbrev pub AreOwnFrom : ℕ → ℕ → (ℕ → ℕ) → List Noted → Type 0
AreOwnFrom s n heap log = ((p : ℕ) → notes p log ≡ true → Carries s n (heap p)) × AreNotedAgain s n log

-- So it is with what a thread has logged since one of its levels opened, where that isn't pinned and the section isn't committed.
-- While a section is undone to a level, those inside of that level don't count any more.
abbrev pub NotedWordsAreOwn : {S : Type 0} → Code S → Type 0
NotedWordsAreOwn {S} code = (b : Bounds) (is_thread : ℕ → Bool) (first : S) (classes : ℕ) (c : ℕ → Core S) (acts : List Act) → IsTaggedRun code b is_thread first classes c acts
    → (k t n : ℕ) (th : ThreadState S) → k ≤ length acts → (c k).threads t ≡ Some th → IsLiveOrRevoking ((c k).words (Area.Section th.section))
    → pinned_of ((c k).words (Area.Section th.section)) < n → n ≤ top_at th.attempt th.levels
    → AreOwnFrom th.section n (heap_of (c k).words) (noted_since (mark_of th n).noted th.log)
