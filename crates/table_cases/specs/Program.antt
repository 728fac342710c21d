-- The program of the tests: what its threads do, and how it begins.
use Rattle.std.specs.Prelude.{◌≡◌, ℕ, nat_eq, Bool, true, None, List, [], ◌∷◌, map}
use Rattle.op_core.specs.declared.Line.TheVariants.{Empty}
use Rattle.op_core.specs.declared.Limits.{Limits}
use Rattle.op_core.specs.declared.Op.TheVariants.{Read, Write, New, Enter, Exit, Notify, Print, Start, Join, Init, InitDone, End}
use Rattle.op_core.specs.declared.script.Script.{Script}
use Rattle.op_core.specs.declared.script.ScriptStep.{ScriptStep}
use Rattle.op_core.specs.declared.script.ScriptStep.TheVariants.{Operation}
use Rattle.op_core.specs.Script.{ScriptState}
use Rattle.op_core.specs.ScriptLaws.{script_at}
use Rattle.fixed_objects.specs.declared.FixedObject.{FixedObject}
use Rattle.fixed_objects.specs.declared.Opening.{Opening}
use Rattle.fixed_objects.specs.Fixed.{main_thread_at}
use Rattle.thread_automaton.specs.declared.Bounds.{Bounds}
use Rattle.table_words.specs.declared.setup.Setup.{Setup}

-- Main starts a thread that begins at step 8, enters the monitors of 13 and 15, writes a word of 17, exits both, prints an
-- empty line and ends. The other thread enters and exits the monitor of 15 and then that of 13, and ends.
abbrev pub program_steps : List ScriptStep
program_steps =
    Operation (Start 8 9)
    ∷ Operation (Enter 13)
    ∷ Operation (Enter 15)
    ∷ Operation (Write 17 0 7)
    ∷ Operation (Exit 15)
    ∷ Operation (Exit 13)
    ∷ Operation (Print Empty)
    ∷ Operation (End None)
    ∷ Operation (Enter 15)
    ∷ Operation (Exit 15)
    ∷ Operation (Enter 13)
    ∷ Operation (Exit 13)
    ∷ Operation (End None)
    ∷ []

-- Main starts a thread that begins at step 8, enters the monitor of 13, writes a word of 17, enters the monitor of 15, exits
-- both, waits for the end of the other thread, and ends. The other thread initializes class 2, makes an object
-- of it, enters the monitor of 13 twice, prints an empty line, notifies nobody, exits twice, reads the word that main writes, and
-- ends.
abbrev pub kind_steps : List ScriptStep
kind_steps =
    Operation (Start 8 9)
    ∷ Operation (Enter 13)
    ∷ Operation (Write 17 0 7)
    ∷ Operation (Enter 15)
    ∷ Operation (Exit 15)
    ∷ Operation (Exit 13)
    ∷ Operation (Join 8)
    ∷ Operation (End None)
    ∷ Operation (Init 2)
    ∷ Operation (InitDone 2 true)
    ∷ Operation (New 2 1)
    ∷ Operation (Enter 13)
    ∷ Operation (Enter 13)
    ∷ Operation (Print Empty)
    ∷ Operation (Notify 13)
    ∷ Operation (Exit 13)
    ∷ Operation (Exit 13)
    ∷ Operation (Read 17 0)
    ∷ Operation (End None)
    ∷ []

-- Main waits for its own end, which never comes.
abbrev pub waiting_steps : List ScriptStep
waiting_steps = Operation (Join 1) ∷ Operation (End None) ∷ []

abbrev pub first_place : ScriptState
first_place = script_at program_steps 0

-- class 3 is the class of threads
abbrev pub is_thread : ℕ → Bool
is_thread class = nat_eq class 3

abbrev pub plain_at : ℕ → List ℕ → FixedObject
plain_at r words = record { reference = r; class = 1; length = 0; words = words; started = 0 }

-- main's Thread, the other Thread, whose priority is 9, the objects whose monitors are entered, and the one that is written
abbrev pub program_objects : List FixedObject
program_objects =
    main_thread_at 1 3
    ∷ record { reference = 8; class = 3; length = 0; words = 9 ∷ 0 ∷ 0 ∷ []; started = 0 }
    ∷ plain_at 13 []
    ∷ plain_at 15 []
    ∷ plain_at 17 (0 ∷ [])
    ∷ []

abbrev pub program_opening : Opening
program_opening = record { objects = program_objects; ready = []; classes = 3; first = 20; main_thread = 1 }

-- with so many turns for each thread
abbrev pub limits_with : ℕ → Limits
limits_with turns = record { turns = turns; heap = 8; sections = 1000 }

abbrev pub program_limits : Limits
program_limits = limits_with 1000

abbrev pub program_bounds : Bounds
program_bounds = record { limits = program_limits; first = 20 }

-- where a thread of a script in memory is
abbrev pub script_state : Script → ScriptState
script_state s = record { steps = s.steps.now; place = s.place.step; frames = s.place.frames }

-- and where it was at its saves
abbrev pub script_saved : Script → List ScriptState
script_saved s = map (λ p. record { steps = s.steps.now; place = p.step; frames = p.frames }) s.saves

-- a program with these steps in place of its own, and with so many turns for each thread
pub record IsProgramWith (steps : List ScriptStep) (turns : ℕ) (k : Setup Script) : Type 0 where
  pub opening : k.opening ≡ program_opening
  pub limits : k.limits ≡ limits_with turns
  pub code : script_state k.code ≡ script_at steps 0

-- the program with this code, if that is at the first step
pub record IsProgram (k : Setup Script) : Type 0 where
  pub opening : k.opening ≡ program_opening
  pub limits : k.limits ≡ program_limits
  pub code : script_state k.code ≡ first_place
