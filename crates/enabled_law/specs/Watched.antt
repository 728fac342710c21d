-- The shared words on which it depends whether a thread is enabled.
use Rattle.std.specs.Prelude.{◌≡◌, ◌⊎◌, ℕ, ◌+◌, List, [], ◌∷◌, Contains}
use Rattle.op_core.specs.declared.Op.TheVariants.{Read, Write, Enter, Rewake, Join, Init}
use Rattle.op_core.specs.declared.Next.{Next}
use Rattle.op_core.specs.declared.Next.TheVariants.{Want}
use Rattle.op_core.specs.ThreadCode.{Code}
use Rattle.heap_words.specs.declared.areas.Area.{Area}
use Rattle.heap_words.specs.declared.areas.Area.TheVariants.{Section, Thread, Wait, Class, Object}
use Rattle.heap_words.specs.Words.{tag_section, tag_of, value_of}
use Rattle.monitor_core.specs.Monitors.{monitor_section}
use Rattle.step_port.specs.declared.step.Effect.TheVariants.{Load}
use Rattle.step_port.specs.declared.step.Step.{Step}
use Rattle.step_port.specs.Steps.{place_of, effect_of}
use Rattle.step_port.specs.Words.{Words, words_after}
use Rattle.thread_automaton.specs.ThreadState.{ThreadState}
use Rattle.thread_automaton.specs.NextMove.{word_place}
use Rattle.word_runs.specs.Enabled.{is_enabled}

-- the monitor of an object, and the section that holds it
abbrev pub monitor_watched : Words → ℕ → List Area
monitor_watched w r = Object (r + 1) ∷ Section (monitor_section (w (Object (r + 1)))) ∷ []

-- the word at a place, and the section that wrote it
abbrev pub word_watched : Words → ℕ → List Area
word_watched w at = Object at ∷ Section (tag_section (tag_of (w (Object at)))) ∷ []

-- the start word of the thread object at r, and the word of the thread that it has started
abbrev pub start_watched : Words → ℕ → List Area
start_watched w r = Object (r + 3) ∷ Thread (value_of (w (Object (r + 3)))) ∷ []

-- those of what the thread of this number wants
abbrev pub wanted_watched : Words → ℕ → Next → List Area
wanted_watched w t (Want (Enter r)) = monitor_watched w r
wanted_watched w t (Want (Rewake r)) = Wait t ∷ monitor_watched w r
wanted_watched w t (Want (Read r i)) = word_watched w (word_place r i)
wanted_watched w t (Want (Write r i v)) = word_watched w (word_place r i)
wanted_watched w t (Want (Join r)) = start_watched w r
wanted_watched w t (Want (Init c)) = Class c ∷ []
wanted_watched w t next = []

-- the thread watches these words, its own section first
abbrev pub watched : {S : Type 0} → Code S → Words → ThreadState S → List Area
watched code w th = Section th.section ∷ wanted_watched w th.number (code.next th.local)

-- whether it is enabled depends on no other word
abbrev pub OnlyWatchedWordsCount : {S : Type 0} → Code S → Type 0
OnlyWatchedWordsCount {S} code = (v w : Words) (th : ThreadState S) → ((a : Area) → Contains (watched code w th) a → v a ≡ w a) → is_enabled code v th ≡ is_enabled code w th

-- the step is a load, or is made on a word that the thread doesn't watch
abbrev pub IsUnseenBy : {S : Type 0} → Code S → Words → ThreadState S → Step → Type 0
IsUnseenBy code w th step = (effect_of step ≡ Load) ⊎ (Contains (watched code w th) (place_of step) → ⊥)

-- such a step of another thread leaves the thread enabled or not, as it was
abbrev pub UnseenStepsLeaveEnabled : {S : Type 0} → Code S → Type 0
UnseenStepsLeaveEnabled {S} code = (w : Words) (th : ThreadState S) (step : Step) → IsUnseenBy code w th step → is_enabled code (words_after step w) th ≡ is_enabled code w th
