-- The rule of the table: all steps that were made on it are one run, whose words are the table's, and each thread's part of it
-- is one part of one seat.
use Rattle.std.specs.Prelude.{◌≡◌, ℕ, ◌+◌, ◌≤◌, List, [], ◌∷◌, length, nat_eq, if◌then◌else◌}
use mathlib.Core.Option.{some}
use lib.ListN.{get_elem?}
use Rattle.atomic_table.specs.Table.{State}
use Rattle.op_core.specs.ThreadCode.{Code}
use Rattle.heap_words.specs.Areas.{size_of}
use Rattle.plain_words.specs.Block.{word_at, words_of}
use Rattle.core_runs.specs.declared.Birth.{Birth}
use Rattle.core_runs.specs.WordRuns.{RunEntry, words_by}
use Rattle.core_runs.specs.OwnParts.{births}
use Rattle.table_words.specs.declared.setup.Setup.{Setup}
use Rattle.table_words.specs.declared.setup.ThreadPart.{ThreadPart}
use Rattle.table_words.specs.Setups.{setup_areas, setup_words, first_birth}
use Rattle.table_words.specs.Parts.{ArePartsOf, IsSetupRun}

-- f of each part, added up
abbrev pub sum_parts : {P : Type 0} → (P → ℕ) → List P → ℕ
sum_parts f [] = 0
sum_parts f (p ∷ ps) = f p + sum_parts f ps

-- over all views
abbrev pub sum_views : {P : Type 0} → (P → ℕ) → List (List P) → ℕ
sum_views f [] = 0
sum_views f (v ∷ vs) = sum_parts f v + sum_views f vs

-- 1 where the part is that of the thread of this number, else 0
abbrev pub one_if_numbered : {C : Type 0} → ℕ → ThreadPart C → ℕ
one_if_numbered n p = if nat_eq n p.birth.number then 1 else 0

-- how many of these threads have the number
abbrev pub count_numbered : ℕ → List Birth → ℕ
count_numbered n [] = 0
count_numbered n (x ∷ xs) = (if nat_eq n x.number then 1 else 0) + count_numbered n xs

pub record HasRun {C S : Type 0} (state : C → S) (code : Code S) (k : Setup C) (s : State (Unit {0}) (List (ThreadPart C))) : Type 0 where
  pub run : List RunEntry
  pub is_run : IsSetupRun state code k run
  pub size : length s.words ≡ size_of (setup_areas k)
  pub words : words_of (setup_areas k) (word_at s.words) ≡ words_by (setup_words k) run
  pub parts : (seat : ℕ) (ps : List (ThreadPart C)) → get_elem? s.views seat ≡ some ps → ArePartsOf k run ps
  -- each thread has one part, and no two threads have the same number
  pub counted : (n : ℕ) → sum_views (one_if_numbered n) s.views ≡ count_numbered n (births (first_birth k) run)
  pub once : (n : ℕ) → count_numbered n (births (first_birth k) run) ≤ 1
