-- What a thread does of a run, and runs in which each thread does what comes next for it.
use Rattle.std.specs.Prelude.{◌≡◌, ℕ, zero, suc, Bool, true, false, ◌&&◌, nat_lt, nat_le, Some, List, [], ◌∷◌, Contains}
use Rattle.op_core.specs.ThreadCode.{Code, quiet_step}
use Rattle.section_state.specs.declared.State.TheVariants.{Live}
use Rattle.section_state.specs.SectionWord.{pinned_of, depth_of}
use Rattle.monitor_core.specs.Contention.{is_in}
use Rattle.step_port.specs.declared.step.Step.{Step}
use Rattle.step_port.specs.declared.step.Step.TheVariants.{LoadStop, SetStop, Split, LookMonitor, LookSection, BreakLevel}
use Rattle.step_port.specs.Words.{Words}
use Rattle.thread_automaton.specs.declared.Bounds.{Bounds}
use Rattle.thread_automaton.specs.declared.Move.TheVariants.{Quiet, Make}
use Rattle.thread_automaton.specs.ThreadState.{ThreadState}
use Rattle.thread_automaton.specs.NextMove.{next_move}
use Rattle.thread_automaton.specs.Told.{after_answer, after_quiet}
use Rattle.core_runs.specs.declared.Birth.{Birth}
use Rattle.core_runs.specs.declared.StepMade.{StepMade}
use Rattle.core_runs.specs.WordRuns.{RunEntry, IsWordRun, part_of}

-- the section of this word is live, and the level is open and not pinned
abbrev pub can_break : ℕ → ℕ → Bool
can_break word level = is_in Live word && nat_lt (pinned_of word) level && nat_le level (depth_of word)

-- Steps that are made beside what their thread does: the host's, and those with which a cycle of waiting threads is found and
-- broken.
abbrev pub is_beside : Step → Bool
is_beside LoadStop = true
is_beside SetStop = true
is_beside (LookMonitor r) = true
is_beside (LookSection s) = true
is_beside (BreakLevel s old level) = can_break old level
is_beside step = false

-- the thread x makes this number of silent moves, and is then y
abbrev pub Quietly : {S : Type 0} → Code S → Bounds → ℕ → ThreadState S → ThreadState S → Type 0
Quietly code b zero x y = x ≡ y
Quietly {S} code b (suc n) x y =
    (z : ThreadState S) × (l : S) × Quietly code b n x z × (next_move code b z ≡ Quiet) × (quiet_step code z.local ≡ Some l)
    × (y ≡ after_quiet z l)

-- the thread z makes the step and is then y; a step that is made beside the threads leaves it as it is
abbrev pub MakesOwn : {S : Type 0} → Bool → Code S → Bounds → StepMade → ThreadState S → ThreadState S → Type 0
MakesOwn true code b m z y = z ≡ y
MakesOwn false code b m z y = (next_move code b z ≡ Make m.step) × (y ≡ after_answer code b z m.step m.answer)

-- a thread that began as x has made these steps, with silent moves before each, and is y after the last
abbrev pub OwnTo : {S : Type 0} → Code S → Bounds → ThreadState S → List StepMade → ThreadState S → Type 0
OwnTo code b x [] y = x ≡ y
OwnTo {S} code b x (m ∷ part) y =
    (w z : ThreadState S) × (n : ℕ) × OwnTo code b x part w × Quietly code b n w z × MakesOwn (is_beside m.step) code b m z y

-- these steps are what a thread does that began as x
abbrev pub IsOwnPart : {S : Type 0} → Code S → Bounds → ThreadState S → List StepMade → Type 0
IsOwnPart {S} code b x part = (y : ThreadState S) × OwnTo code b x part y

abbrev pub births_after : Step → List Birth → List Birth
births_after (Split n r p) births = record { number = n; object = r; priority = p } ∷ births
births_after step births = births

-- the threads that have begun, main among them
abbrev pub births : Birth → List RunEntry → List Birth
births main [] = main ∷ []
births main (e ∷ run) = births_after e.made.step (births main run)

-- a thread makes steps only once it has begun
abbrev pub StepOnceBegun : Birth → List RunEntry → Type 0
StepOnceBegun main [] = Unit {0}
StepOnceBegun main (e ∷ run) =
    StepOnceBegun main run × ((birth : Birth) × Contains (births main run) birth × (birth.number ≡ e.thread))

-- A run of threads on the words w: each step is answered by the words, and the steps of each thread are what it does.
-- `first` is the state in which a thread begins.
pub record IsCoreRun {S : Type 0} (code : Code S) (b : Bounds) (first : Birth → ThreadState S) (main : Birth) (w : Words)
    (run : List RunEntry) : Type 0 where
  pub words : IsWordRun w run
  pub begun : StepOnceBegun main run
  pub own : (birth : Birth) → Contains (births main run) birth → IsOwnPart code b (first birth) (part_of birth.number run)
