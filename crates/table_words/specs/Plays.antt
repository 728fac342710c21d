-- Which steps a port lets its seat make, and what a step tells of the seat.
use Rattle.std.specs.Prelude.{◌≡◌, ℕ, ◌-◌, true, false, List, [], ◌∷◌}
use Rattle.atomic_table.specs.Table.{Me}
use Rattle.op_core.specs.ThreadCode.{Code}
use Rattle.heap_words.specs.declared.areas.Area.{Area}
use Rattle.heap_words.specs.Areas.{begin_of, IsIn}
use Rattle.step_port.specs.declared.step.Step.{Step}
use Rattle.step_port.specs.declared.step.Step.TheVariants.{LoadStop, SetStop, LookMonitor, LookSection, BreakLevel}
use Rattle.step_port.specs.Steps.{place_of, effect_of}
use Rattle.step_port.specs.Words.{answer_to}
use Rattle.core_runs.specs.OwnParts.{can_break, is_beside}
use Rattle.section_laws.specs.NextSteps.{step_made}
use Rattle.table_words.specs.declared.setup.Setup.{Setup}
use Rattle.table_words.specs.declared.setup.ThreadPart.{ThreadPart}
use Rattle.table_words.specs.Setups.{setup_areas}
use Rattle.table_words.specs.Views.{first_after, IsSeated, FirstIsInItsRun, FirstMayMake}

-- ---- what is allowed

-- the seat has a part, and the step's word is there
abbrev pub MayLook : {C : Type 0} → Setup C → List (ThreadPart C) → Step → Type 0
MayLook k v step = IsSeated k v × IsIn (setup_areas k) (place_of step)

-- A step beside the threads is allowed where its word is there, and a level that is to be broken is open and not pinned in a
-- live section. Any other step is allowed where it may come next in the seat's part.
abbrev pub SeatMayMake : {C S : Type 0} → (C → S) → Code S → Setup C → List (ThreadPart C) → Step → Type 0
SeatMayMake state code k v LoadStop = IsSeated k v
SeatMayMake state code k v SetStop = IsSeated k v
SeatMayMake state code k v (LookMonitor r) = MayLook k v (LookMonitor r)
SeatMayMake state code k v (LookSection s) = MayLook k v (LookSection s)
SeatMayMake state code k v (BreakLevel s old level) = MayLook k v (BreakLevel s old level) × (can_break old level ≡ true)
SeatMayMake state code k v step = FirstMayMake state code k v step

-- ---- what is told

-- the number in its area of the word at a place of the table
abbrev pub number_in_area : {C : Type 0} → List (ThreadPart C) → ℕ → Area → ℕ
number_in_area [] place a = 0
number_in_area (p ∷ ps) place a = place - begin_of (setup_areas p.setup) a

module _ {C S : Type 0} (state : C → S) (code : Code S) where
  -- a seat's view and slots after this step found the word n: the first part has grown by it, and is its thread's part of a run
  abbrev pub MakesThisStep : Step → Me (Unit {0}) (List (ThreadPart C)) → ℕ → Me (Unit {0}) (List (ThreadPart C)) → Type 0
  MakesThisStep step me n me' =
      (me' ≡ (first_after me.0 (step_made step (answer_to (effect_of step) n)), me.1)) × FirstIsInItsRun state code me'.0

  -- the same of some step of the thread's own: the part alone decides which it is
  abbrev pub MakesOwnStep : Me (Unit {0}) (List (ThreadPart C)) → ℕ → Me (Unit {0}) (List (ThreadPart C)) → Type 0
  MakesOwnStep me n me' = (step : Step) × (is_beside step ≡ false) × MakesThisStep step me n me'
