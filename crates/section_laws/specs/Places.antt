-- On which words of objects steps are made.
use Rattle.std.specs.Prelude.{◌≡◌, ◌≢◌, ◌<◌, ◌≤◌, ◌+◌, ◌⊎◌, ℕ, suc, Bool, true, Some, List, slice_get}
use Rattle.op_core.specs.ThreadCode.{Code}
use Rattle.op_core.specs.OrdinaryState.{Object}
use Rattle.heap_words.specs.declared.areas.Area.{Area}
use Rattle.step_port.specs.declared.answer.StepAnswer.{StepAnswer}
use Rattle.step_port.specs.declared.step.ThreadWord.TheVariants.{Start}
use Rattle.step_port.specs.declared.step.Step.{Step}
use Rattle.step_port.specs.declared.step.Step.TheVariants.{LoadWord, SwapWord, RestoreWord, LoadMonitor, TakeMonitor, SetDepth, Release, SetHeader, StartThread, LoadThread}
use Rattle.step_port.specs.Steps.{place_of}
use Rattle.thread_automaton.specs.declared.Bounds.{Bounds}
use Rattle.core_runs.specs.Cores.{Core}
use Rattle.core_runs.specs.Acts.{Act, did}
use Rattle.section_laws.specs.Layout.{Objects, IsLaidRun}

-- In what follows number d of an object's words is its header where it is 0, its monitor where it is 1, and its word i
-- where it is i + 2. `thread` says whether it is a thread object, whose word 1 is the start word.

-- it is a word that code reads and writes
abbrev pub IsCodeWord : Bool → ℕ → Type 0
IsCodeWord thread d = (2 ≤ d) × (thread ≡ true → d ≢ 3)

-- the step is one on number d
abbrev pub FitsNumber : Bool → ℕ → Step → Type 0
FitsNumber thread d (SetHeader r w) = d ≡ 0
FitsNumber thread d (LoadWord at) = (d ≡ 0) ⊎ IsCodeWord thread d
FitsNumber thread d (SwapWord at old new) = IsCodeWord thread d
FitsNumber thread d (RestoreWord at old) = IsCodeWord thread d
FitsNumber thread d (LoadMonitor r) = d ≡ 1
FitsNumber thread d (TakeMonitor r new) = d ≡ 1
FitsNumber thread d (SetDepth r new) = d ≡ 1
FitsNumber thread d (Release r) = d ≡ 1
FitsNumber thread d (StartThread r n) = (d ≡ 3) × (thread ≡ true)
FitsNumber thread d (LoadThread (Start r)) = (d ≡ 3) × (thread ≡ true)
FitsNumber thread d step = ⊥

-- The place is that of such a word of an object that is there.
pub record IsInObject (is_thread : ℕ → Bool) (objects : Objects) (step : Step) (at : ℕ) : Type 0 where
  pub r : ℕ
  pub o : Object
  pub there : objects r ≡ Some o
  pub number : ℕ
  pub below : number < 2 + o.words
  pub place : at ≡ r + number
  pub fits : FitsNumber (is_thread o.class) number step

-- each step of a thread on the words of objects is made so
abbrev pub StepsStayInObjects : {S : Type 0} → Code S → Type 0
StepsStayInObjects {S} code = (b : Bounds) (is_thread : ℕ → Bool) (c : ℕ → Core S) (acts : List Act) → IsLaidRun code b is_thread c acts
    → (k t at : ℕ) (step : Step) (answer : StepAnswer) → slice_get acts k ≡ Some (did t step answer) → place_of step ≡ Area.Object at
    → IsInObject is_thread (c (suc k)).objects step at
