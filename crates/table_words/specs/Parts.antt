-- Runs of a program, and what one thread did of a run.
use Rattle.std.specs.Prelude.{◌≡◌, Option, List, [], ◌∷◌, Contains, nat_eq, if◌then◌else◌}
use Rattle.op_core.specs.ThreadCode.{Code}
use Rattle.heap_words.specs.Areas.{IsIn}
use Rattle.plain_words.specs.Table.{HasRoom}
use Rattle.step_port.specs.declared.answer.StepAnswer.{StepAnswer}
use Rattle.step_port.specs.declared.step.Step.{Step}
use Rattle.step_port.specs.Steps.{place_of, effect_of}
use Rattle.thread_automaton.specs.ThreadState.{ThreadState, first_state}
use Rattle.core_runs.specs.declared.StepMade.{StepMade}
use Rattle.core_runs.specs.declared.Birth.{Birth}
use Rattle.core_runs.specs.WordRuns.{RunEntry, words_by, part_of}
use Rattle.core_runs.specs.OwnParts.{IsOwnPart, births, IsCoreRun}
use Rattle.section_laws.specs.NextSteps.{step_made, next_step}
use Rattle.table_words.specs.declared.setup.Setup.{Setup}
use Rattle.table_words.specs.declared.setup.ThreadPart.{ThreadPart}
use Rattle.table_words.specs.Setups.{setup_bounds, setup_areas, setup_words, first_birth}

module _ {C : Type 0} where
  -- the part of a thread that has made no step yet
  abbrev pub fresh_part : Setup C → Birth → ThreadPart C
  fresh_part k birth = record { setup = k; birth = birth; steps = [] }

  -- the part with one step more
  abbrev pub part_after : ThreadPart C → StepMade → ThreadPart C
  part_after p m = record p { steps = m ∷ p.steps }

  -- the part is its thread's part of this run
  pub record IsPartOf (k : Setup C) (run : List RunEntry) (p : ThreadPart C) : Type 0 where
    pub setup : p.setup ≡ k
    pub steps : p.steps ≡ part_of p.birth.number run
    pub born : Contains (births (first_birth k) run) p.birth

  abbrev pub ArePartsOf : Setup C → List RunEntry → List (ThreadPart C) → Type 0
  ArePartsOf k run [] = Unit {0}
  ArePartsOf k run (p ∷ ps) = IsPartOf k run p × ArePartsOf k run ps

module _ {C S : Type 0} (state : C → S) (code : Code S) where
  -- where a thread begins: the first one with the code of the setup, another as the child of its object
  abbrev pub local_at_birth : Setup C → Birth → S
  local_at_birth k birth = if nat_eq birth.number 1 then state k.code else code.child (state k.code) birth.object

  abbrev pub state_at_birth : Setup C → Birth → ThreadState S
  state_at_birth k birth = first_state birth.number birth.priority (local_at_birth k birth)

  -- a run of the program
  abbrev pub IsSetupRun : Setup C → List RunEntry → Type 0
  IsSetupRun k run = IsCoreRun code (setup_bounds k) (state_at_birth k) (first_birth k) (setup_words k) run

  -- these steps are what the thread does that was born so
  abbrev pub IsOwnOf : Setup C → Birth → List StepMade → Type 0
  IsOwnOf k birth steps = IsOwnPart code (setup_bounds k) (state_at_birth k birth) steps

  -- the step that the thread of a part makes next
  abbrev pub next_of_part : ThreadPart C → Option Step
  next_of_part p = next_step code (setup_bounds p.setup) (state_at_birth p.setup p.birth) p.steps

  -- the part is its thread's part of a run
  pub record IsPartInRun (k : Setup C) (p : ThreadPart C) : Type 0 where
    pub run : List RunEntry
    pub is_run : IsSetupRun k run
    pub is_part : IsPartOf k run p

  -- in each run of which this is its thread's part, the step's word has room for the step
  abbrev pub HasRoomInRuns : Setup C → ThreadPart C → Step → Type 0
  HasRoomInRuns k p step = (run : List RunEntry) → IsSetupRun k run → IsPartOf k run p → HasRoom (effect_of step) (words_by (setup_words k) run (place_of step))

  -- The part is its thread's part of a run, and the step may come next: it is the thread's next one, whatever it is answered; its
  -- word is there; and the word has room for it.
  pub record MayMakeNext (k : Setup C) (p : ThreadPart C) (step : Step) : Type 0 where
    pub in_run : IsPartInRun k p
    pub own : (answer : StepAnswer) → IsOwnOf k p.birth (step_made step answer ∷ p.steps)
    pub there : IsIn (setup_areas k) (place_of step)
    pub room : HasRoomInRuns k p step
