-- The numbers of the threads of a run.
use Rattle.std.specs.Prelude.{◌≡◌, ◌≢◌, ◌≤◌, ℕ, List, ◌∷◌, Contains}
use Rattle.op_core.specs.ThreadCode.{Code}
use Rattle.heap_words.specs.declared.areas.Area.TheVariants.{Control}
use Rattle.step_port.specs.declared.answer.StepAnswer.{StepAnswer}
use Rattle.step_port.specs.declared.step.Step.TheVariants.{Split}
use Rattle.step_port.specs.Words.{Words}
use Rattle.thread_automaton.specs.declared.Bounds.{Bounds}
use Rattle.thread_automaton.specs.ThreadState.{ThreadState}
use Rattle.core_runs.specs.declared.Birth.{Birth}
use Rattle.core_runs.specs.WordRuns.{RunEntry, part_of}
use Rattle.core_runs.specs.OwnParts.{IsOwnPart, births}
use Rattle.section_laws.specs.Runs.{IsRunFrom}
use Rattle.section_laws.specs.NextSteps.{step_made}

-- Of both laws the premise is that the number of the first thread is one of those that were drawn as the run begins.

-- threads of the same number are the same thread
abbrev pub NumbersAreSingle : {S : Type 0} → Code S → Type 0
NumbersAreSingle {S} code = (b : Bounds) (first : Birth → ThreadState S) (main : Birth) (w : Words) (run : List RunEntry)
    → IsRunFrom code b first main w run → main.number ≤ w (Control 4)
    → (x y : Birth) → Contains (births main run) x → Contains (births main run) y → x.number ≡ y.number → x ≡ y

-- where a thread of the run can hand out one of number n next, no thread of the run has that number
abbrev pub HandedOutIsNew : {S : Type 0} → Code S → Type 0
HandedOutIsNew {S} code = (b : Bounds) (first : Birth → ThreadState S) (main : Birth) (w : Words) (run : List RunEntry)
    → IsRunFrom code b first main w run → main.number ≤ w (Control 4)
    → (x : Birth) → Contains (births main run) x
    → (n r p : ℕ) (answer : StepAnswer) → IsOwnPart code b (first x) (step_made (Split n r p) answer ∷ part_of x.number run)
    → (y : Birth) → Contains (births main run) y → n ≢ y.number
