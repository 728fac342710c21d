-- The words of objects as they will be once each thread has undone what it is to undo.
use Rattle.std.specs.Prelude.{◌≡◌, ◌⊎◌, ℕ, suc, ◌-◌, true, false, Option, None, Some, List, [], if◌then◌else◌}
use Rattle.heap_words.specs.declared.areas.Area.TheVariants.{Object, Section}
use Rattle.heap_words.specs.Words.{value_of}
use Rattle.section_state.specs.SectionWord.{revoke_of}
use Rattle.write_log.specs.declared.Noted.{Noted}
use Rattle.step_port.specs.Words.{Words}
use Rattle.thread_automaton.specs.ThreadState.{ThreadState}
use Rattle.core_runs.specs.Cores.{Core}
use Rattle.section_laws.specs.Settled.{words_back, notes, replay}
use Rattle.word_runs.specs.Enabled.{has_to_undo}

-- how many of its open levels a thread has to undo: those from the level on to which its section is revoked
abbrev pub levels_back : {S : Type 0} → Words → ThreadState S → ℕ
levels_back w th = if has_to_undo w th then suc th.levels - revoke_of (w (Section th.section)) else 0

-- the words that it then puts back, as they were, the one that was logged last first
abbrev pub back_in : {S : Type 0} → Words → Option (ThreadState S) → List Noted
back_in w None = []
back_in w (Some th) = words_back (levels_back w th) th.marks th.log

abbrev pub back_of : {S : Type 0} → Core S → ℕ → List Noted
back_of c t = back_in c.words (c.threads t)

abbrev pub heap_in : {S : Type 0} → Core S → ℕ → ℕ
heap_in c p = c.words (Object p)

-- the word at place p will have this value: a thread puts it back, or none does and it has the value
abbrev pub WillBe : {S : Type 0} → Core S → ℕ → ℕ → Type 0
WillBe c p v =
    ((t : ℕ) × (notes p (back_of c t) ≡ true) × (v ≡ value_of (replay (back_of c t) (heap_in c) p)))
    ⊎ (((t : ℕ) → notes p (back_of c t) ≡ false) × (v ≡ value_of (heap_in c p)))
