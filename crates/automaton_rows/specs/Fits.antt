-- What is so of the attempt of a thread, of the thread alone.
use Rattle.std.specs.Prelude.{◌≡◌, ℕ, ◌<◌, ◌≤◌, ◌^◌, Bool, true, false, ◌&&◌, not, List, [], ◌∷◌, length, nat_eq, nat_lt, nat_le}
use Rattle.op_core.specs.declared.Op.{Op}
use Rattle.op_core.specs.declared.Op.TheVariants.{Read, Write, New, Enter, Exit, Wait, Rewake, Start, Join, Init}
use Rattle.op_core.specs.declared.Next.{Next}
use Rattle.op_core.specs.declared.Next.TheVariants.{Want}
use Rattle.op_core.specs.ThreadCode.{Code}
use Rattle.heap_words.specs.declared.words.WaitWord.TheVariants.{Waiting}
use Rattle.heap_words.specs.Words.{pack_header, wait_word_of}
use Rattle.section_state.specs.declared.State.TheVariants.{Live, Revoking}
use Rattle.section_state.specs.SectionWord.{pinned_of}
use Rattle.monitor_core.specs.declared.Contend.{Contend}
use Rattle.monitor_core.specs.Monitors.{monitor_word}
use Rattle.monitor_core.specs.Contention.{is_in, contend_with}
use Rattle.step_port.specs.declared.step.ThreadWord.{ThreadWord}
use Rattle.step_port.specs.declared.step.Step.{Step}
use Rattle.step_port.specs.declared.step.Step.TheVariants.{SwapWord, DrawSection, OpenSection, OpenLevel, CloseLevel, Pin, Revoke, Commit, LoadMonitor, TakeMonitor, SetDepth, Release, SetHeader, DrawThread, StartThread, LoadThread, SetWait, LoadWait, ClaimClass, Split}
use Rattle.thread_automaton.specs.declared.Attempt.{Attempt}
use Rattle.thread_automaton.specs.declared.Attempt.TheVariants.{Look, Fixed, Meets, Undoing}
use Rattle.thread_automaton.specs.declared.Held.{Held}
use Rattle.thread_automaton.specs.ThreadState.{ThreadState, is_open, is_own_section, own_word, opening_word, highest}
use Rattle.thread_automaton.specs.NextMove.{word_place, held_word}
use Rattle.thread_automaton.specs.Changes.{without}
use Rattle.thread_automaton.specs.Checks.{is_safe, written_word}
use Rattle.thread_automaton.specs.Monitors.{monitor_wanted, entry, needs_level}
use Rattle.thread_automaton.specs.Answers.{is_waiting_for}

-- a word that this section has written at this level isn't safe
abbrev pub is_unsafe_at : {S : Type 0} → ThreadState S → ℕ → ℕ → Bool
is_unsafe_at th s level =
    not (nat_eq s 0 && nat_eq level 0) && not (nat_eq s th.section) && not (nat_eq s th.known && nat_le level th.known_depth)

-- the pin of the section that wrote an unsafe word
abbrev pub IsTagStep : {S : Type 0} → ThreadState S → Step → Type 0
IsTagStep th (Pin s w level) = (is_unsafe_at th s level ≡ true) × (is_in Live w ≡ true) × (pinned_of w < level)
IsTagStep th step = ⊥

-- a step on the way into the wanted monitor
abbrev pub IsEntryStep : {S : Type 0} → ThreadState S → Next → Step → Type 0
IsEntryStep th next DrawSection = nat_eq th.section 0 ≡ true
IsEntryStep th next (OpenSection s w) = (nat_eq th.section 0 ≡ true) × (nat_lt 0 s ≡ true) × (w ≡ opening_word th)
IsEntryStep th next (OpenLevel s w) = (nat_lt 0 th.section ≡ true) × (s ≡ th.section) × (w ≡ own_word th) × (needs_level th next ≡ true) × (nat_eq th.levels 255 ≡ false)
IsEntryStep th next (TakeMonitor r new) = (nat_lt 0 th.section ≡ true) × (r ≡ monitor_wanted next) × (new ≡ held_word th.section (entry th next th.levels))
IsEntryStep th next (SetDepth r new) = (r ≡ monitor_wanted next) × ((depth level : ℕ) × (new ≡ monitor_word th.section depth level))
IsEntryStep th next (Revoke s w level) = (is_own_section th s ≡ false) × (contend_with w level th.priority ≡ Contend.Revoke level)
IsEntryStep th next step = ⊥

-- the own section is to be pinned with all levels that are open, from the word in which it was last known
abbrev pub IsOwnPin : {S : Type 0} → ThreadState S → ℕ → ℕ → ℕ → Type 0
IsOwnPin th s w level = (is_open th ≡ true) × (s ≡ th.section) × (w ≡ own_word th) × (level ≡ th.levels)

-- the levels inside of this one are to be closed: the monitor of r has one of them, and those held beside it have not
abbrev pub IsOwnClose : {S : Type 0} → ThreadState S → ℕ → ℕ → ℕ → ℕ → Type 0
IsOwnClose th r s w depth = (nat_lt 0 th.section ≡ true) × (s ≡ th.section) × (w ≡ own_word th)
    × (0 < length (without r th.held)) × (depth ≡ highest (without r th.held))

-- what is so of a step that a thread has fixed
abbrev pub FixedFits : {S : Type 0} → ThreadState S → Next → Step → Type 0
FixedFits th (Want (Read r i)) step = IsTagStep th step
FixedFits th (Want (Write r i v)) (SwapWord at old new) = (at ≡ word_place r i) × (new ≡ written_word th v) × (is_safe th old ≡ true)
FixedFits th (Want (Write r i v)) step = IsTagStep th step
FixedFits th (Want (New c n)) (SetHeader r w) = w ≡ pack_header c n
FixedFits th (Want (Enter r)) step = IsEntryStep th (Want (Enter r)) step
FixedFits th (Want (Exit r)) (SetDepth q new) = (q ≡ r) × ((depth level : ℕ) × (new ≡ monitor_word th.section depth level))
FixedFits th (Want (Exit r)) (Commit s w) = (nat_lt 0 th.section ≡ true) × (s ≡ th.section) × (without r th.held ≡ []) × (w ≡ own_word th)
FixedFits th (Want (Exit r)) (CloseLevel s w depth) = IsOwnClose th r s w depth
FixedFits th (Want (Exit r)) (Pin s w level) = IsOwnPin th s w level
FixedFits th (Want (Exit r)) (Release q) = q ≡ r
FixedFits th (Want (Wait r)) (Pin s w level) = IsOwnPin th s w level
FixedFits th (Want (Wait r)) (SetWait n w) = (is_open th ≡ false) × (n ≡ th.number) × (w ≡ wait_word_of (Waiting r))
FixedFits th (Want (Wait r)) (Release q) = (is_open th ≡ false) × (q ≡ r)
FixedFits th (Want (Rewake r)) (LoadMonitor q) = q ≡ r
FixedFits th (Want (Rewake r)) step = IsEntryStep th (Want (Rewake r)) step
FixedFits th (Want (Op.Notify r)) (Pin s w level) = IsOwnPin th s w level
FixedFits th (Want (Op.Notify r)) (LoadWait n) = (is_open th ≡ false) × (0 < n) × (n < 256)
FixedFits th (Want (Op.Notify r)) (Step.Notify n w) = (is_open th ≡ false) × (0 < n) × (n < 256) × (is_waiting_for r w ≡ true)
FixedFits th (Want (Start r p)) (Pin s w level) = IsOwnPin th s w level
FixedFits th (Want (Start r p)) DrawThread = is_open th ≡ false
FixedFits th (Want (Start r p)) (StartThread q n) = (is_open th ≡ false) × (q ≡ r) × (0 < n) × (n < 256)
FixedFits th (Want (Start r p)) (Split n q o) = (is_open th ≡ false) × (q ≡ r) × (o ≡ p) × (0 < n) × (n < 256)
FixedFits th (Want (Join r)) (LoadThread (ThreadWord.Ended n)) = Unit {0}
FixedFits th (Want (Init c)) (Pin s w level) = IsOwnPin th s w level
FixedFits th (Want (Init c)) (ClaimClass d n) = (is_open th ≡ false) × (d ≡ c) × (n ≡ th.number)
FixedFits th next step = ⊥

-- the section is being undone, and its word was w as it was seen to be revoked
pub record IsUndoing {S : Type 0} (th : ThreadState S) (w : ℕ) : Type 0 where
  pub section : nat_lt 0 th.section ≡ true
  pub revoked : is_in Revoking w ≡ true

-- a section is met that isn't the own one: as the holder of the wanted monitor, or as the writer of an unsafe word
abbrev pub MeetingFits : {S : Type 0} → ThreadState S → Next → ℕ → ℕ → Type 0
MeetingFits th (Want (Read r i)) s level = is_unsafe_at th s level ≡ true
MeetingFits th (Want (Write r i v)) s level = is_unsafe_at th s level ≡ true
MeetingFits th (Want (Enter r)) s level = is_own_section th s ≡ false
MeetingFits th (Want (Rewake r)) s level = is_own_section th s ≡ false
MeetingFits th next s level = ⊥

abbrev pub AttemptFits : {S : Type 0} → ThreadState S → Next → Attempt → Type 0
AttemptFits th next (Fixed step) = FixedFits th next step
AttemptFits th next (Meets s level) = MeetingFits th next s level
AttemptFits th next (Undoing w) = IsUndoing th w
AttemptFits th next Look = nat_lt 0 th.section ≡ true
AttemptFits th next attempt = Unit {0}

-- each has a level
abbrev pub InLevels : List Held → Type 0
InLevels [] = Unit {0}
InLevels (h ∷ held) = (0 < h.level) × (h.level < 2 ^ 8) × InLevels held

-- what is so of a thread alone, whatever it is answered, but for its attempt and what can be undone
pub record IsKept {S : Type 0} (th : ThreadState S) : Type 0 where
  -- each save has a mark, and both are of levels that are open
  pub saves : length th.saved ≡ length th.marks
  pub few : length th.saved ≤ th.levels
  -- a level is open exactly where a section is, and never more than 255
  pub levels : nat_eq th.section 0 ≡ nat_eq th.levels 0
  pub most : th.levels < 2 ^ 8
  -- nothing is held where no section is open, and what is held, or was given up in a wait, has a level
  pub held : nat_eq th.section 0 ≡ true → th.held ≡ []
  pub in_levels : InLevels th.held
  pub waited : (0 < th.level) × (th.level < 2 ^ 8)

-- so of the whole of it
pub record IsFit {S : Type 0} (code : Code S) (th : ThreadState S) : Type 0 where
  pub attempt : AttemptFits th (code.next th.local) th.attempt
  pub kept : IsKept th
  -- nothing is saved or logged where nothing can be undone
  pub unsaved : is_open th ≡ false → th.saved ≡ []
  pub unlogged : is_open th ≡ false → th.log ≡ []
