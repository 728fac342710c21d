-- Runs as one list of entries, newest first: how far threads are in them, which acts they have, and the laws of sections
-- in them.
use Rattle.std.specs.Prelude.{◌≡◌, ◌≢◌, ◌<◌, ◌≤◌, ℕ, Option, None, Some, ◌⊎◌, List, [], ◌∷◌, ◌++◌, Contains, length, take, slice_get}
use Rattle.op_core.specs.ThreadCode.{Code}
use Rattle.op_core.specs.OrdinaryState.{Object, set_at}
use Rattle.heap_words.specs.declared.areas.Area.TheVariants.{Control, Section}
use Rattle.step_port.specs.declared.answer.StepAnswer.TheVariants.{Done}
use Rattle.step_port.specs.declared.step.Step.{Step}
use Rattle.step_port.specs.declared.step.Step.TheVariants.{OpenSection, Split}
use Rattle.step_port.specs.Words.{Words}
use Rattle.thread_automaton.specs.declared.Bounds.{Bounds}
use Rattle.thread_automaton.specs.declared.Move.TheVariants.{Make}
use Rattle.thread_automaton.specs.ThreadState.{ThreadState, first_state}
use Rattle.thread_automaton.specs.NextMove.{next_move}
use Rattle.core_runs.specs.WordRuns.{RunEntry, words_by, part_of}
use Rattle.core_runs.specs.declared.Birth.{Birth}
use Rattle.core_runs.specs.OwnParts.{Quietly, OwnTo, births}
use Rattle.core_runs.specs.Cores.{Core}
use Rattle.core_runs.specs.Acts.{Act, quiet, did, beside}
use Rattle.section_laws.specs.Runs.{IsRun, IsRunFrom, IsPinnedOrRevoked}

-- ---- how far threads are

-- Thread t is th after the run: it has begun, these are its steps, and it has made silent moves after the last.
pub record StandsBehind {S : Type 0} (code : Code S) (b : Bounds) (first : Birth → ThreadState S) (main : Birth)
    (run : List RunEntry) (t : ℕ) (th : ThreadState S) : Type 0 where
  pub birth : Birth
  pub begun : Contains (births main run) birth
  pub number : birth.number ≡ t
  pub last : ThreadState S
  pub own : OwnTo code b (first birth) (part_of t run) last
  pub moves : ℕ
  pub quietly : Quietly code b moves last th

-- th is about to make the step of the entry
pub record IsMaker {S : Type 0} (code : Code S) (b : Bounds) (first : Birth → ThreadState S) (main : Birth)
    (e : RunEntry) (run : List RunEntry) (th : ThreadState S) : Type 0 where
  pub stands : StandsBehind code b first main run e.thread th
  pub makes : next_move code b th ≡ Make e.made.step

-- ---- the acts of a run

-- the entries of acts after those of a run: a step is an entry, and a silent move is none
abbrev pub with_entry : Act → List RunEntry → List RunEntry
with_entry (quiet t) run = run
with_entry (did t step answer) run = record { thread = t; made = record { step = step; answer = answer } } ∷ run
with_entry (beside t step answer) run = record { thread = t; made = record { step = step; answer = answer } } ∷ run

abbrev pub with_entries : List Act → List RunEntry → List RunEntry
with_entries [] run = run
with_entries (x ∷ acts) run = with_entries acts (with_entry x run)

-- the core is what is so after the entries `older`, with which the run begins
pub record IsPlaceIn {S : Type 0} (code : Code S) (b : Bounds) (first : Birth → ThreadState S) (main : Birth)
    (w : Words) (run older : List RunEntry) (core : Core S) : Type 0 where
  pub newer : List RunEntry
  pub parts : run ≡ newer ++ older
  pub words : core.words ≡ words_by w older
  pub threads : (t : ℕ) (th : ThreadState S) → core.threads t ≡ Some th → StandsBehind code b first main older t th
  pub begun : (x : Birth) → Contains (births main older) x → (th : ThreadState S) × (core.threads x.number ≡ Some th)

-- the core in which a run begins on these words and objects: its first thread is there alone, with no level open, no thread
-- is started, and nothing is printed
abbrev pub first_core : {S : Type 0} → (Birth → ThreadState S) → Birth → Words → (ℕ → Option Object) → Core S
first_core first main w objects = record {
  words = w;
  threads = set_at (λ t. None) main.number (Some (first main));
  starting = λ t. None;
  objects = objects;
  levels = λ t. [];
  lines = [];
}

-- The acts are the steps of the run, one after another, with the silent moves of the threads between them: after each
-- act words and threads are those after the entries of the acts so far. The words w and these objects are the first ones.
pub record ActsOf {S : Type 0} (code : Code S) (b : Bounds) (first : Birth → ThreadState S) (main : Birth)
    (w : Words) (objects : ℕ → Option Object) (run : List RunEntry) : Type 0 where
  pub cores : ℕ → Core S
  pub acts : List Act
  pub is_run : IsRun code b cores acts
  pub starts : cores 0 ≡ first_core first main w objects
  pub steps : with_entries acts [] ≡ run
  pub places : (k : ℕ) → k ≤ length acts → IsPlaceIn code b first main w run (with_entries (take k acts) []) (cores k)

-- A thread that is handed out begins as the code says, with its number and its priority.
abbrev pub BeginsSo : {S : Type 0} → Code S → Bounds → (Birth → ThreadState S) → Birth → RunEntry → List RunEntry
    → Step → Type 0
BeginsSo {S} code b first main e run (Split n r p) = (th : ThreadState S) → IsMaker code b first main e run th
    → first (record { number = n; object = r; priority = p }) ≡ first_state n p (code.child th.local r)
BeginsSo code b first main e run step = Unit {0}

abbrev pub BeginAsHandedOut : {S : Type 0} → Code S → Bounds → (Birth → ThreadState S) → Birth → List RunEntry → Type 0
BeginAsHandedOut code b first main [] = Unit {0}
BeginAsHandedOut code b first main (e ∷ run) =
    BeginAsHandedOut code b first main run × BeginsSo code b first main e run e.made.step

-- A run as one list has acts, where the number of the first thread is one of those drawn before it. It has them whatever the
-- objects are with which it begins.
abbrev pub RunsHaveActs : {S : Type 0} → Code S → Type 0
RunsHaveActs {S} code = (b : Bounds) (first : Birth → ThreadState S) (main : Birth) (w : Words) (run : List RunEntry)
    → IsRunFrom code b first main w run → main.number ≤ w (Control 4) → BeginAsHandedOut code b first main run
    → (objects : ℕ → Option Object) → ActsOf code b first main w objects run

-- Such acts, at whose end each thread is in the state that is given for its number.
pub record ActsTo {S : Type 0} (code : Code S) (b : Bounds) (first : Birth → ThreadState S) (main : Birth)
    (w : Words) (objects : ℕ → Option Object) (run : List RunEntry) (states : ℕ → ThreadState S) : Type 0 where
  pub all : ActsOf code b first main w objects run
  pub last : (x : Birth) → Contains (births main run) x → (all.cores (length all.acts)).threads x.number ≡ Some (states x.number)

-- A run has acts that end where each thread is right after its last step. Where its last steps are beside the threads there are more
-- such states than one, and it can be each of them.
abbrev pub RunsReachStates : {S : Type 0} → Code S → Type 0
RunsReachStates {S} code = (b : Bounds) (first : Birth → ThreadState S) (main : Birth) (w : Words) (run : List RunEntry)
    → IsRunFrom code b first main w run → main.number ≤ w (Control 4) → BeginAsHandedOut code b first main run
    → (objects : ℕ → Option Object) (states : ℕ → ThreadState S)
    → ((x : Birth) → Contains (births main run) x → OwnTo code b (first x) (part_of x.number run) (states x.number))
    → ActsTo code b first main w objects run states

-- ---- the laws of sections

-- no number is opened twice
abbrev pub SectionsOpenOnceInRuns : {S : Type 0} → Code S → Type 0
SectionsOpenOnceInRuns {S} code = (b : Bounds) (first : Birth → ThreadState S) (main : Birth) (w : Words)
    (run : List RunEntry) → IsRunFrom code b first main w run → (j k t u s v x : ℕ)
    → slice_get run j ≡ Some (record { thread = t; made = record { step = OpenSection s v; answer = Done } })
    → slice_get run k ≡ Some (record { thread = u; made = record { step = OpenSection s x; answer = Done } }) → j ≡ k

-- no two threads have the same section open
abbrev pub SectionsAreApartInRuns : {S : Type 0} → Code S → Type 0
SectionsAreApartInRuns {S} code = (b : Bounds) (first : Birth → ThreadState S) (main : Birth) (w : Words)
    (run : List RunEntry) → IsRunFrom code b first main w run → (t u : ℕ) (th uh : ThreadState S)
    → StandsBehind code b first main run t th → StandsBehind code b first main run u uh
    → 0 < th.section → th.section ≡ uh.section → t ≡ u

-- A thread leaves the word of a section that was opened and isn't its own as it is, or pins the section deeper or revokes
-- it, both while it is live.
abbrev pub OthersSectionsStayInRuns : {S : Type 0} → Code S → Type 0
OthersSectionsStayInRuns {S} code = (b : Bounds) (first : Birth → ThreadState S) (main : Birth) (w : Words)
    (e : RunEntry) (run : List RunEntry) → IsRunFrom code b first main w (e ∷ run)
    → (s : ℕ) (th : ThreadState S) → IsMaker code b first main e run th
    → s ≢ th.section → words_by w run (Section s) ≢ 0
    → (words_by w (e ∷ run) (Section s) ≡ words_by w run (Section s))
    ⊎ IsPinnedOrRevoked (words_by w run (Section s)) (words_by w (e ∷ run) (Section s))
