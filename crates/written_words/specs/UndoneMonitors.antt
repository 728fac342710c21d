-- What the words of monitors say once a thread has undone levels of its section, along a run.
use Rattle.std.specs.Prelude.{◌≡◌, ◌<◌, ◌≤◌, ◌+◌, ℕ, suc, Some, List, length, slice_get}
use Rattle.op_core.specs.ThreadCode.{Code}
use Rattle.heap_words.specs.declared.areas.Area.{Area}
use Rattle.section_state.specs.SectionWord.{revoke_of}
use Rattle.monitor_core.specs.Monitors.{monitor_section, monitor_level}
use Rattle.step_port.specs.declared.answer.StepAnswer.TheVariants.{Done}
use Rattle.step_port.specs.declared.step.Step.TheVariants.{MarkUndone}
use Rattle.thread_automaton.specs.declared.Bounds.{Bounds}
use Rattle.thread_automaton.specs.declared.Attempt.TheVariants.{Undoing}
use Rattle.thread_automaton.specs.ThreadState.{ThreadState}
use Rattle.core_runs.specs.Cores.{Core}
use Rattle.core_runs.specs.Acts.{Act, did}
use Rattle.first_law.specs.RunMonitors.{IsObject, IsMonitorRun}

-- With act number k thread t, which is th, marks its section s as undone to level n.
pub record MarksUndone {S : Type 0} (c : ℕ → Core S) (acts : List Act) (k t s n : ℕ) : Type 0 where
  pub th : ThreadState S
  pub word : ℕ
  pub seen : ℕ
  pub stands : (c k).threads t ≡ Some th
  pub undoing : th.attempt ≡ Undoing seen
  pub level : revoke_of seen ≡ n
  pub marks : slice_get acts k ≡ Some (did t (MarkUndone s word) Done)

-- After that act each monitor that the section holds was taken further out.
abbrev pub UndoneLevelsHoldNoMonitor : {S : Type 0} → Code S → Type 0
UndoneLevelsHoldNoMonitor {S} code = (b : Bounds) (first : S) (classes : ℕ) (c : ℕ → Core S) (acts : List Act) → IsMonitorRun code b first classes c acts
    → (k t s n r : ℕ) → MarksUndone c acts k t s n → IsObject (c (suc k)) r → monitor_section ((c (suc k)).words (Area.Object (r + 1))) ≡ s
    → monitor_level ((c (suc k)).words (Area.Object (r + 1))) < n

-- And after the outermost level was undone the section holds none, at any later place.
abbrev pub UndoneSectionsHoldNoMonitor : {S : Type 0} → Code S → Type 0
UndoneSectionsHoldNoMonitor {S} code = (b : Bounds) (first : S) (classes : ℕ) (c : ℕ → Core S) (acts : List Act) → IsMonitorRun code b first classes c acts
    → (k j t s r : ℕ) → MarksUndone c acts k t s 1 → k < j → j ≤ length acts → IsObject (c j) r → monitor_section ((c j).words (Area.Object (r + 1))) ≡ s → ⊥
