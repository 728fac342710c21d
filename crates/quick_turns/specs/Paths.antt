-- The steps of an attempt at a word of an object that finds nothing unusual.
use Rattle.std.specs.Prelude.{◌≡◌, ◌⊎◌, ℕ, ◌-◌, ◌<◌, ◌≤◌, true, false, ◌∷◌, if◌then◌else◌, MatchBool}
use Rattle.op_core.specs.declared.Op.{Op}
use Rattle.op_core.specs.declared.Op.TheVariants.{Read, Write}
use Rattle.op_core.specs.ThreadCode.{Code}
use Rattle.heap_words.specs.Words.{tag_of, tag_section, tag_level, class_state, class_thread}
use Rattle.heap_words.specs.declared.areas.Area.TheVariants.{Section, Object}
use Rattle.section_state.specs.declared.State.TheVariants.{Revoking}
use Rattle.section_state.specs.SectionWord.{pinned_of}
use Rattle.monitor_core.specs.Contention.{is_in}
use Rattle.step_port.specs.declared.answer.StepAnswer.{StepAnswer}
use Rattle.step_port.specs.declared.answer.StepAnswer.TheVariants.{Found}
use Rattle.step_port.specs.declared.step.Step.{Step}
use Rattle.step_port.specs.declared.step.Step.TheVariants.{LoadWord, LoadSection}
use Rattle.step_port.specs.Words.{Words}
use Rattle.thread_automaton.specs.declared.Attempt.{Attempt}
use Rattle.thread_automaton.specs.declared.Attempt.TheVariants.{Begin, Checked}
use Rattle.thread_automaton.specs.NextMove.{word_place}
use Rattle.thread_automaton.specs.Changes.{knows}
use Rattle.thread_automaton.specs.Checks.{tag_seen}
use Rattle.thread_moves.specs.declared.thread.Own.{Own}
use Rattle.turn_runs.specs.Own.{is_safe_for, has_unseen_level, own_counted}
use Rattle.turn_runs.specs.HostPlaces.{HostPlace}
use Rattle.quick_turns.specs.Place.{HostLeadsAmid}

-- where a level is open that the thread hasn't seen pinned, the word of its section says on the words w what the thread has last seen
pub record IsAsSeen (w : Words) (own : Own) : Type 0 where
  pub state : has_unseen_level own ≡ true → is_in Revoking (w (Section own.section)) ≡ false
  pub pinned : has_unseen_level own ≡ true → pinned_of (w (Section own.section)) ≡ own.pinned

-- there are turns for an answer, and the thread may have one more counted turn
pub record HasTurns {P : Type 0} (h : HostPlace P) : Type 0 where
  pub left : 5 ≤ h.left
  pub counted : h.own.counted < h.own.bounds.limits.turns

-- the operation reads or writes the word at this place
abbrev pub IsOfWord : Op → ℕ → Type 0
IsOfWord (Read r i) at = at ≡ word_place r i
IsOfWord (Write r i v) at = at ≡ word_place r i
IsOfWord op at = ⊥

-- the word of a class says that it is initialized, or that the thread itself initializes it
abbrev pub IsInitialized : Own → ℕ → Type 0
IsInitialized own w = (class_state w ≡ 2) ⊎ ((class_state w ≡ 1) × (class_thread w ≡ own.number))

-- how far an attempt is once the own section was looked at, if that had to be
abbrev pub looked : Own → Attempt
looked own = if has_unseen_level own then Checked else Begin

-- the place after a step of this kind that doesn't count
abbrev pub probed_at : {P : Type 0} → HostPlace P → ℕ → P → HostPlace P
probed_at h kind y = record { own = record h.own { last_kind = kind }; port = y; left = h.left - 1 }

-- the thread looks at its own section, if that has to be
abbrev pub LooksAtOwnSection : {P : Type 0} → (P → Step → StepAnswer → P → Type 0) → HostPlace P → HostPlace P → Type 0
LooksAtOwnSection {P} stepped h k = MatchBool (has_unseen_level h.own)
    ((w : ℕ) × (y : P) × stepped h.port (LoadSection h.own.section) (Found w) y × (k ≡ probed_at h 6 y)) (k ≡ h)

-- The section that wrote this word isn't being undone on the words w, and is committed, or pinned as deep as the word was written. So
-- words of it up to this depth are safe for a thread that has looked at it.
pub record KnowsWriter (w : Words) (word depth : ℕ) : Type 0 where
  pub seen : tag_seen (tag_section (tag_of word)) (tag_level (tag_of word)) (w (Section (tag_section (tag_of word)))) ≡ knows (tag_section (tag_of word)) depth
  pub stays : is_in Revoking (w (Section (tag_section (tag_of word)))) ≡ false
  pub deep : tag_level (tag_of word) ≤ depth

-- what is kept once the thread knows of a section how deep words are safe that were written in it
abbrev pub own_knowing : Own → ℕ → ℕ → Own
own_knowing own s depth = record own { known = s; known_depth = depth; last_kind = 6 }

-- the thread loads the word at this place, and looks at the section s that wrote it
abbrev pub LooksAtWriter : {P : Type 0} → (P → Step → StepAnswer → P → Type 0) → ℕ → ℕ → ℕ → HostPlace P → HostPlace P → Type 0
LooksAtWriter {P} stepped at s depth h k = (w u : ℕ) × (y z : P) × stepped h.port (LoadWord at) (Found w) y × stepped y (LoadSection s) (Found u) z
    × (k ≡ record { own = own_knowing h.own s depth; port = z; left = h.left - 2 })

-- The attempt at the word at this place came, from the place h to the place k, to the load after which the word is safe.
pub record ReachesWord {S P : Type 0} (code : Code S) (stepped : P → Step → StepAnswer → P → Type 0) (words : P → Words) (at : ℕ)
    (h k : HostPlace P) : Type 0 where
  pub attempt : Attempt
  pub loads : (attempt ≡ looked k.own) ⊎ (attempt ≡ Checked)
  pub goes : (op : Op) → IsOfWord op at → HostLeadsAmid code stepped words op Begin h attempt k
  pub safe : is_safe_for k.own (words k.port (Object at)) ≡ true
  pub same_words : words k.port ≡ words h.port
  pub own : k.own ≡ record h.own { known = k.own.known; known_depth = k.own.known_depth; last_kind = k.own.last_kind }
  pub left : 2 ≤ k.left
  pub counted : k.own.counted < k.own.bounds.limits.turns

-- a turn is counted in which a word was overwritten, which is logged where it can be put back
pub record HasWritten (at old : ℕ) (before after : Own) : Type 0 where
  pub own : after ≡ record (own_counted before 2) { log = after.log }
  pub log : after.log.noted ≡ (if has_unseen_level before then record { at = at; old = old } ∷ before.log.noted else before.log.noted)
