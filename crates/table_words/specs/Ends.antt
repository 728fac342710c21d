-- What is known once all seats are joined.
use Rattle.std.specs.Prelude.{◌≡◌, ℕ, ◌<◌, ◌≤◌, List, [], ◌∷◌, Contains}
use Rattle.op_core.specs.ThreadCode.{Code}
use Rattle.step_port.specs.declared.step.Step.{Step}
use Rattle.step_port.specs.declared.step.Step.TheVariants.{Split}
use Rattle.step_port.specs.Words.{Words}
use Rattle.core_runs.specs.declared.StepMade.{StepMade}
use Rattle.core_runs.specs.declared.Birth.{Birth}
use Rattle.core_runs.specs.WordRuns.{RunEntry, words_by}
use Rattle.core_runs.specs.OwnParts.{births}
use Rattle.table_words.specs.declared.setup.Setup.{Setup}
use Rattle.table_words.specs.declared.setup.ThreadPart.{ThreadPart}
use Rattle.table_words.specs.Setups.{setup_words, first_birth}
use Rattle.table_words.specs.Parts.{ArePartsOf, IsSetupRun}
use Rattle.table_words.specs.Rule.{sum_parts, one_if_numbered}

-- the numbers of the threads that these steps handed out
abbrev pub handed_after : Step → List ℕ → List ℕ
handed_after (Split n r q) ns = n ∷ ns
handed_after step ns = ns

abbrev pub handed_numbers : List StepMade → List ℕ
handed_numbers [] = []
handed_numbers (m ∷ ms) = handed_after m.step (handed_numbers ms)

-- one of the parts is that of the thread of this number
abbrev pub HasPartOf : {C : Type 0} → List (ThreadPart C) → ℕ → Type 0
HasPartOf ps n = 0 < sum_parts (one_if_numbered n) ps

-- the first thread has a part among them, and each thread that one of these threads handed out
pub record HaveAllThreads {C : Type 0} (ps : List (ThreadPart C)) : Type 0 where
  pub first : HasPartOf ps 1
  pub others : (p : ThreadPart C) → Contains ps p → (n : ℕ) → Contains (handed_numbers p.steps) n → HasPartOf ps n

-- The words are those after a run of which these parts are all that its threads did: each is its thread's part of it, and
-- each thread of the run has exactly one.
pub record IsWholeRun {C S : Type 0} (state : C → S) (code : Code S) (k : Setup C) (w : Words) (ps : List (ThreadPart C)) : Type 0 where
  pub run : List RunEntry
  pub is_run : IsSetupRun state code k run
  pub words : w ≡ words_by (setup_words k) run
  pub parts : ArePartsOf k run ps
  pub all : (x : Birth) → Contains (births (first_birth k) run) x → HasPartOf ps x.number
  -- no number has two parts
  pub once : (n : ℕ) → sum_parts (one_if_numbered n) ps ≤ 1
