-- A run in which an enabled thread, given turns alone, comes to wait: it forgets which section it knew to be pinned.
use Rattle.std.specs.Prelude.{◌≡◌, ℕ, zero, suc, Bool, true, false, Option, None, Some, List, [], ◌∷◌, length, map}
use Rattle.std.specs.Option.{option_map_or}
use Rattle.op_core.specs.declared.Op.{Op}
use Rattle.op_core.specs.declared.Op.TheVariants.{Read, Write, Enter, Exit}
use Rattle.op_core.specs.declared.script.ScriptStep.TheVariants.{Operation}
use Rattle.op_core.specs.Script.{ScriptState, script_code}
use Rattle.op_core.specs.OrdinaryState.{set_at}
use Rattle.thread_automaton.specs.ThreadState.{ThreadState, first_state}
use Rattle.thread_automaton.specs.Walks.{small, zero_words}
use Rattle.core_runs.specs.Cores.{Core}
use Rattle.word_runs.specs.Enabled.{is_enabled}
use Rattle.word_runs.specs.Moves.{core_in}
use Rattle.enabled_law.specs.TurnsAlone.{goes_on_in}

-- a thread of this number and priority that is about to do these operations
abbrev pub doing : ℕ → ℕ → List Op → Option (ThreadState ScriptState)
doing number priority ops = Some (first_state number priority (record { steps = map Operation ops; place = 0; frames = 1 }))

-- Thread 1 writes the word of object 5 in a section. Thread 2 writes those of objects 9 and 5 in a section of its own, and enters
-- a second monitor in it, which thread 4 wants too. Thread 3 reads both words outside of sections.
abbrev pub threads : ℕ → Option (ThreadState ScriptState)
threads =
    set_at (set_at (set_at (set_at (λ t. None) 1 (doing 1 1 (Enter 1 ∷ Write 5 0 1 ∷ Exit 1 ∷ [])))
    2 (doing 2 1 (Enter 3 ∷ Write 9 0 2 ∷ Write 5 0 3 ∷ Enter 11 ∷ [])))
    3 (doing 3 1 (Read 9 0 ∷ Read 5 0 ∷ [])))
    4 (doing 4 10 (Enter 11 ∷ []))

abbrev pub beginning : Core ScriptState
beginning = record { words = zero_words; threads = threads; starting = λ t. None; objects = λ r. None; levels = λ t. []; lines = [] }

-- n moves of thread t, and then these
abbrev pub moves_of : ℕ → ℕ → List ℕ → List ℕ
moves_of t zero order = order
moves_of t (suc n) order = t ∷ moves_of t n order

-- Thread 3 has read object 9, whose writer it has pinned and knows, and has loaded the word of object 5, which thread 1 wrote. Thread
-- 1 leaves its section, and thread 2 overwrites the word. Its second level is revoked by thread 4.
abbrev pub order : List ℕ
order = moves_of 1 7 (moves_of 2 7 (moves_of 3 5 (moves_of 1 4 (moves_of 2 8 (moves_of 4 3 [])))))

abbrev pub last : Core ScriptState
last = core_in script_code small 0 beginning order (length order)

abbrev pub is_enabled_in : Core ScriptState → ℕ → Bool
is_enabled_in core t = option_map_or (is_enabled script_code core.words) (core.threads t) false

abbrev pub goes_on_alone : ℕ → Core ScriptState → ℕ → Bool
goes_on_alone n core t = option_map_or (λ th. goes_on_in script_code small n th core.words) (core.threads t) false

-- Thread 3 is enabled, since it knows that the writer of the word is pinned deep enough. It goes on with a look at the section
-- that had written the word before, which is committed, and knows that one from then on. So the word isn't safe for it any more,
-- and it waits for the section that is revoked.
pub record EnabledThreadsCanComeToWait : Type 0 where
  pub enabled : is_enabled_in last 3 ≡ true
  pub waits : goes_on_alone 8 last 3 ≡ false
