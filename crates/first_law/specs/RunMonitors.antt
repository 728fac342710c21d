-- Where the monitors of objects are along a run, and which runs are seen here.
use Rattle.std.specs.Prelude.{◌≡◌, ◌≢◌, ◌<◌, ◌+◌, ◌^◌, ℕ, Option, None, Some, List, slice_get}
use Rattle.op_core.specs.ThreadCode.{Code}
use Rattle.op_core.specs.OrdinaryState.{Object}
use Rattle.heap_words.specs.declared.areas.Area.TheVariants as area
use Rattle.step_port.specs.declared.answer.StepAnswer.{StepAnswer}
use Rattle.step_port.specs.declared.step.Step.{Step}
use Rattle.step_port.specs.declared.step.Step.TheVariants.{SwapWord, RestoreWord, LoadMonitor, TakeMonitor, SetHeader, StartThread}
use Rattle.thread_automaton.specs.declared.Bounds.{Bounds}
use Rattle.core_runs.specs.Cores.{Core}
use Rattle.core_runs.specs.Acts.{Act, did}
use Rattle.section_laws.specs.Levels.{IsLevelledRun}

-- the place of a header or a word of an object that the step sets
abbrev pub written_place : Step → Option ℕ
written_place (SwapWord at old new) = Some at
written_place (RestoreWord at old) = Some at
written_place (SetHeader r word) = Some r
written_place (StartThread r n) = Some (r + 3)
written_place step = None

-- the object whose monitor is loaded or taken
abbrev pub monitor_met : Step → Option ℕ
monitor_met (LoadMonitor r) = Some r
monitor_met (TakeMonitor r new) = Some r
monitor_met step = None

abbrev pub IsObject : {S : Type 0} → Core S → ℕ → Type 0
IsObject c r = (o : Object) × (c.objects r ≡ Some o)

-- Monitors lie apart from all other words of objects.
pub record MonitorsLieApart {S : Type 0} (c : ℕ → Core S) (acts : List Act) : Type 0 where
  -- those of the objects that are there at first are free, and so is that of a new object
  pub begins : (r : ℕ) → IsObject (c 0) r → (c 0).words (area.Object (r + 1)) ≡ 0
  pub made : (k t r w : ℕ) (answer : StepAnswer) → slice_get acts k ≡ Some (did t (SetHeader r w) answer) → (c k).words (area.Object (r + 1)) ≡ 0
  -- threads name monitors of objects alone,
  pub wanted : (k t r : ℕ) (step : Step) (answer : StepAnswer) → slice_get acts k ≡ Some (did t step answer) → monitor_met step ≡ Some r → IsObject (c k) r
  -- and no word that is set as a word or a header of an object is a monitor
  pub apart : (k t at r : ℕ) (step : Step) (answer : StepAnswer) → slice_get acts k ≡ Some (did t step answer) → written_place step ≡ Some at → IsObject (c k) r → at ≢ r + 1

-- A run whose threads have their levels counted, whose sections have numbers of 32 bits, and in which monitors lie apart.
pub record IsMonitorRun {S : Type 0} (code : Code S) (b : Bounds) (first : S) (classes : ℕ) (c : ℕ → Core S) (acts : List Act) : Type 0 where
  pub levelled : IsLevelledRun code b first classes c acts
  pub numbers : b.limits.sections < 2 ^ 32
  pub apart : MonitorsLieApart c acts
