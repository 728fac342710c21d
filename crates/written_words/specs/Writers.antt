-- Who wrote each word of an object, along a run: the levels that were open as it was written.
use Rattle.std.specs.Prelude.{◌≡◌, ◌≤◌, ℕ, zero, suc, Option, None, Some, List, [], ◌∷◌, length, take, drop, slice_get}
use Rattle.op_core.specs.ThreadCode.{Code}
use Rattle.op_core.specs.OrdinaryState.{set_at}
use Rattle.write_log.specs.declared.Noted.{Noted}
use Rattle.step_port.specs.declared.answer.StepAnswer.{StepAnswer}
use Rattle.step_port.specs.declared.answer.StepAnswer.TheVariants.{Done}
use Rattle.step_port.specs.declared.step.Step.{Step}
use Rattle.step_port.specs.declared.step.Step.TheVariants.{OpenSection, OpenLevel, SwapWord, RestoreWord}
use Rattle.thread_automaton.specs.declared.Bounds.{Bounds}
use Rattle.thread_automaton.specs.ThreadState.{ThreadState, nth_or}
use Rattle.core_runs.specs.Cores.{Core}
use Rattle.core_runs.specs.Acts.{Act, did}
use Rattle.section_laws.specs.Levels.{IsLevelledRun}

-- ---- levels. A level has the number of the act that opened it, and levels inside of one another are a list, the innermost first.

-- act number p of thread t opens a level of section s inside of these: the section itself, where there are none
abbrev pub OpensInside : List Act → ℕ → ℕ → ℕ → List ℕ → Type 0
OpensInside acts t s p [] = (w : ℕ) × (slice_get acts p ≡ Some (did t (OpenSection s w) Done))
OpensInside acts t s p (q ∷ levels) = (w : ℕ) × (slice_get acts p ≡ Some (did t (OpenLevel s w) Done))

-- These are levels of section s of thread t: as each was opened, exactly the next ones were open.
abbrev pub AreLevelsOf : {S : Type 0} → (ℕ → Core S) → List Act → ℕ → ℕ → List ℕ → Type 0
AreLevelsOf c acts t s [] = Unit {0}
AreLevelsOf c acts t s (p ∷ levels) = OpensInside acts t s p levels × ((c p).levels t ≡ levels) × AreLevelsOf c acts t s levels

-- so are the levels that a thread has open
abbrev pub OpenLevelsAreOfSections : {S : Type 0} → Code S → Type 0
OpenLevelsAreOfSections {S} code = (b : Bounds) (first : S) (classes : ℕ) (c : ℕ → Core S) (acts : List Act) → IsLevelledRun code b first classes c acts
    → (k t : ℕ) (th : ThreadState S) → k ≤ length acts → (c k).threads t ≡ Some th → AreLevelsOf c acts t th.section ((c k).levels t)

-- ---- writers. The writer of a word is the list of levels that were open as it was written: none, where it was written outside
-- of all sections, or not at all.

pub record Writers : Type 0 where
  -- by place: the writer of the word that is there
  pub word : ℕ → List ℕ
  -- by thread: the writer of each old word in its log
  pub old : ℕ → List (List ℕ)

-- nothing is written or logged
abbrev pub unwritten : Writers
unwritten = record { word = λ p. []; old = λ t. [] }

-- Thread t, which has these levels open, makes the step, and has logged this number of words then. A word that it overwrites
-- has these levels as its writer, and the old one's is kept as long as the old word is logged. A word that it puts back has again
-- the writer which it had.
abbrev pub writers_after : ℕ → List ℕ → ℕ → Step → StepAnswer → Writers → Writers
writers_after t levels logged (SwapWord at old new) Done w = record {
  word = set_at w.word at levels;
  old = set_at w.old t (take logged (w.word at ∷ w.old t));
}
writers_after t levels logged (RestoreWord at old) answer w = record {
  word = set_at w.word at (nth_or [] 0 (w.old t));
  old = set_at w.old t (drop 1 (w.old t));
}
writers_after t levels logged step answer w = record w { old = set_at w.old t (take logged (w.old t)) }

-- what a thread has logged
abbrev pub log_of : {S : Type 0} → Option (ThreadState S) → List Noted
log_of None = []
log_of (Some th) = th.log

abbrev pub writers_by : {S : Type 0} → Option Act → Core S → Core S → Writers → Writers
writers_by (Some (did t step answer)) old new w = writers_after t (old.levels t) (length (log_of (new.threads t))) step answer w
writers_by act old new w = w

-- the writers when k acts were made
abbrev pub writers : {S : Type 0} → (ℕ → Core S) → List Act → ℕ → Writers
writers c acts zero = unwritten
writers c acts (suc k) = writers_by (slice_get acts k) (c k) (c (suc k)) (writers c acts k)
