-- What a seat knows: its view is a list of parts, of which the first one grows.
use Rattle.std.specs.Prelude.{◌≡◌, Option, None, Some, List, [], ◌∷◌}
use Rattle.op_core.specs.ThreadCode.{Code}
use Rattle.step_port.specs.declared.answer.StepAnswer.TheVariants.{Found}
use Rattle.step_port.specs.declared.step.Step.{Step}
use Rattle.step_port.specs.declared.step.Step.TheVariants.{LoadStop, Split}
use Rattle.core_runs.specs.declared.StepMade.{StepMade}
use Rattle.core_runs.specs.declared.Birth.{Birth}
use Rattle.section_laws.specs.NextSteps.{step_made}
use Rattle.table_words.specs.declared.setup.Setup.{Setup}
use Rattle.table_words.specs.declared.setup.ThreadPart.{ThreadPart}
use Rattle.table_words.specs.Parts.{fresh_part, part_after, next_of_part, IsPartInRun, MayMakeNext}

module _ {C : Type 0} where
  -- the view with one step more in its first part
  abbrev pub first_after : List (ThreadPart C) → StepMade → List (ThreadPart C)
  first_after [] m = []
  first_after (p ∷ ps) m = part_after p m ∷ ps

  -- there is a part that can grow
  abbrev pub IsSeated : Setup C → List (ThreadPart C) → Type 0
  IsSeated k [] = ⊥
  IsSeated k (p ∷ ps) = p.setup ≡ k

-- the thread that a step hands out
abbrev pub born_by : Step → Birth
born_by (Split n r q) = record { number = n; object = r; priority = q }
born_by step = record { number = 0; object = 0; priority = 0 }

abbrev pub step_or_load : Option Step → Step
step_or_load None = LoadStop
step_or_load (Some step) = step

module _ {C S : Type 0} (state : C → S) (code : Code S) where
  -- the first part is its thread's part of a run
  abbrev pub FirstIsInRun : Setup C → List (ThreadPart C) → Type 0
  FirstIsInRun k [] = Unit {0}
  FirstIsInRun k (p ∷ ps) = IsPartInRun state code k p

  -- the same, of the setup that the part itself names
  abbrev pub FirstIsInItsRun : List (ThreadPart C) → Type 0
  FirstIsInItsRun [] = Unit {0}
  FirstIsInItsRun (p ∷ ps) = IsPartInRun state code p.setup p

  -- the step may come next in the first part
  abbrev pub FirstMayMake : Setup C → List (ThreadPart C) → Step → Type 0
  FirstMayMake k [] step = ⊥
  FirstMayMake k (p ∷ ps) step = MayMakeNext state code k p step

  -- The views of a seat that hands out a thread, and of the seat that is handed out: the part itself says by which step.
  abbrev pub parent_view : List (ThreadPart C) → List (ThreadPart C)
  parent_view [] = []
  parent_view (p ∷ ps) = part_after p (step_made (step_or_load (next_of_part state code p)) (Found 0)) ∷ ps

  abbrev pub child_view : List (ThreadPart C) → List (ThreadPart C)
  child_view [] = []
  child_view (p ∷ ps) = fresh_part p.setup (born_by (step_or_load (next_of_part state code p))) ∷ []
