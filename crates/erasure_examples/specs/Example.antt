-- A run of two threads in which first an inner level is undone and then the outermost one.
use Rattle.std.specs.Prelude.{◌≡◌, ◌≢◌, ℕ, zero, suc, nat_eq, Bool, true, None, Some, List, [], ◌∷◌, length, slice_get}
use Rattle.op_core.specs.declared.Line.TheVariants.{Empty}
use Rattle.op_core.specs.declared.Op.TheVariants.{Write, Enter, Exit, Print, Start, End}
use Rattle.op_core.specs.declared.script.ScriptStep.{ScriptStep}
use Rattle.op_core.specs.declared.script.ScriptStep.TheVariants.{Operation}
use Rattle.op_core.specs.CleanCut.{kept_by}
use Rattle.op_core.specs.Script.{ScriptState, script_code}
use Rattle.op_core.specs.ScriptLaws.{script_at}
use Rattle.fixed_objects.specs.declared.FixedObject.{FixedObject}
use Rattle.fixed_objects.specs.declared.Opening.{Opening}
use Rattle.fixed_objects.specs.Fixed.{main_thread_at}
use Rattle.heap_words.specs.Words.{pack_tag, pack}
use Rattle.step_port.specs.declared.answer.StepAnswer.TheVariants.{Done}
use Rattle.step_port.specs.declared.step.Step.TheVariants.{SwapWord, MarkUndone}
use Rattle.thread_automaton.specs.declared.Bounds.{Bounds}
use Rattle.core_runs.specs.Cores.{Core}
use Rattle.core_runs.specs.Acts.{Act, did}
use Rattle.core_runs.specs.Revoked.{RevokesAt}
use Rattle.first_law.specs.Free.{IsFreeRun}
use Rattle.core_law.specs.Erasure.{is_left_out, Erasure}
use Rattle.opening_cores.specs.Openings.{opening_core}
use Rattle.word_runs.specs.Moves.{acts_in, core_in}

-- Main starts a thread that begins at step 8, enters the monitors of 13 and 15, writes a word of 17, exits both, prints an
-- empty line and ends. The other thread enters and exits the monitor of 15 and then that of 13, and ends.
abbrev pub steps : List ScriptStep
steps =
    Operation (Start 8 9)
    ∷ Operation (Enter 13)
    ∷ Operation (Enter 15)
    ∷ Operation (Write 17 0 7)
    ∷ Operation (Exit 15)
    ∷ Operation (Exit 13)
    ∷ Operation (Print Empty)
    ∷ Operation (End None)
    ∷ Operation (Enter 15)
    ∷ Operation (Exit 15)
    ∷ Operation (Enter 13)
    ∷ Operation (Exit 13)
    ∷ Operation (End None)
    ∷ []

abbrev pub first : ScriptState
first = script_at steps 0

-- class 3 is the class of threads
abbrev pub is_thread : ℕ → Bool
is_thread class = nat_eq class 3

abbrev pub plain_at : ℕ → List ℕ → FixedObject
plain_at r words = record { reference = r; class = 1; length = 0; words = words; started = 0 }

-- main's Thread, the other Thread, whose priority is 9, the objects whose monitors are entered, and the one that is written
abbrev pub objects : List FixedObject
objects =
    main_thread_at 1 3
    ∷ record { reference = 8; class = 3; length = 0; words = 9 ∷ 0 ∷ 0 ∷ []; started = 0 }
    ∷ plain_at 13 []
    ∷ plain_at 15 []
    ∷ plain_at 17 (0 ∷ [])
    ∷ []

abbrev pub opening : Opening
opening = record { objects = objects; ready = []; classes = 3; first = 20; main_thread = 1 }

abbrev pub bounds : Bounds
bounds = record { limits = record { turns = 1000; heap = 0; sections = 1000 }; first = 20 }

abbrev pub times : ℕ → ℕ → List ℕ → List ℕ
times zero t order = order
times (suc n) t order = t ∷ times n t order

-- Main writes inside both monitors; the other thread revokes the inner level, which main undoes; it takes and gives back the
-- inner monitor, and revokes the outermost level, which main undoes too; it ends, and then main does all of it again.
abbrev pub order : List ℕ
order = times 15 1 (times 3 2 (times 4 1 (times 11 2 (times 3 1 (times 9 2 (times 21 1 []))))))

abbrev pub acts : List Act
acts = acts_in script_code bounds 0 (opening_core opening first) order

abbrev pub cores : ℕ → Core ScriptState
cores = core_in script_code bounds 0 (opening_core opening first) order

-- act number k marks section 1 as undone
abbrev pub MarksUndone : List Act → ℕ → Type 0
MarksUndone acts k = (word : ℕ) × (slice_get acts k ≡ Some (did 1 (MarkUndone 1 word) Done))

-- act number k writes the word in section 1, at level 2
abbrev pub WritesInside : List Act → ℕ → Type 0
WritesInside acts k = (old : ℕ) × (slice_get acts k ≡ Some (did 1 (SwapWord 19 old (pack 7 (pack_tag 1 2))) Done))

-- The run meets all that the erasure law asks; level 2 and then level 1 of a section are revoked and undone in it; the write that
-- was undone is left out; and what is left of the run is an execution that isn't empty, since a line is printed.
pub record ARunIsErased : Type 0 where
  pub free : IsFreeRun script_code bounds is_thread first 4 cores acts
  pub count : length acts ≡ 66
  pub inner : RevokesAt acts 17 1 2
  pub inner_undone : MarksUndone acts 21
  pub outermost : RevokesAt acts 32 1 1
  pub outermost_undone : MarksUndone acts 35
  pub written : WritesInside acts 14
  pub left_out : is_left_out cores acts 14 ≡ true
  pub lines : (cores (length acts)).lines ≡ Empty ∷ []
  pub erasure : Erasure script_code bounds is_thread cores acts
  pub some : kept_by (is_left_out cores acts) erasure.entries ≢ []
