-- What each step on the sections of threads has for its cause.
use Rattle.std.specs.Prelude.{◌≡◌, ℕ, ◌<◌, true, false, ◌⊎◌, List, [], ◌∷◌, nat_eq, nat_lt}
use Rattle.op_core.specs.Replies.{IsEntry}
use Rattle.op_core.specs.declared.Op.TheVariants.{Exit}
use Rattle.op_core.specs.declared.Next.{Next}
use Rattle.op_core.specs.declared.Next.TheVariants.{Want}
use Rattle.op_core.specs.ThreadCode.{Code}
use Rattle.section_state.specs.declared.State.TheVariants.{Live}
use Rattle.section_state.specs.SectionWord.{pinned_of}
use Rattle.monitor_core.specs.declared.Contend.{Contend}
use Rattle.monitor_core.specs.Contention.{is_in, contend_with}
use Rattle.step_port.specs.declared.step.Step.{Step}
use Rattle.step_port.specs.declared.step.Step.TheVariants.{RestoreWord, DrawSection, OpenSection, OpenLevel, CloseLevel, Pin, Revoke, Commit, MarkUndone}
use Rattle.thread_automaton.specs.declared.Attempt.TheVariants.{Undoing}
use Rattle.thread_automaton.specs.ThreadState.{ThreadState, is_own_section, is_open, own_word, highest}
use Rattle.thread_automaton.specs.Changes.{without}
use Rattle.thread_automaton.specs.Monitors.{needs_level}
use Rattle.automaton_rows.specs.Fits.{is_unsafe_at, IsOwnPin, IsOwnClose, IsUndoing}
use Rattle.automaton_rows.specs.Rows.{IsAccess, Lasts}

-- the own section is pinned, with all levels that are open
pub record PinsOwn {S : Type 0} (code : Code S) (th : ThreadState S) (next : Next) (s w level : ℕ) : Type 0 where
  pub own : IsOwnPin th s w level
  pub cause : Lasts code th next

-- the section that wrote a word is pinned as deep as the word was written, since the thread is about to read or overwrite it
pub record PinsWriter {S : Type 0} (th : ThreadState S) (next : Next) (s w level : ℕ) : Type 0 where
  pub unsafe_word : is_unsafe_at th s level ≡ true
  pub live : is_in Live w ≡ true
  pub deeper : pinned_of w < level
  pub cause : IsAccess next

-- a section is opened as a monitor is entered with none open
pub record Opens {S : Type 0} (th : ThreadState S) (next : Next) : Type 0 where
  pub none_open : nat_eq th.section 0 ≡ true
  pub cause : IsEntry next

-- a level is opened as another monitor is entered in a section
pub record OpensLevel {S : Type 0} (th : ThreadState S) (next : Next) (s w : ℕ) : Type 0 where
  pub own : s ≡ th.section
  pub as_known : w ≡ own_word th
  pub needed : needs_level th next ≡ true
  pub cause : IsEntry next

-- inner levels are closed as the monitor of the innermost is left
pub record ClosesLevels {S : Type 0} (th : ThreadState S) (next : Next) (s w depth : ℕ) : Type 0 where
  pub monitor : ℕ
  pub exit : next ≡ Want (Exit monitor)
  pub own : IsOwnClose th monitor s w depth

-- the section of another thread, which holds the monitor that is to be entered, is revoked to the monitor's level
pub record Revokes {S : Type 0} (th : ThreadState S) (next : Next) (s w level : ℕ) : Type 0 where
  pub by_another : is_own_section th s ≡ false
  pub revoke : contend_with w level th.priority ≡ Contend.Revoke level
  pub cause : IsEntry next

-- the own section ends with the exit from the last monitor
pub record Commits {S : Type 0} (th : ThreadState S) (next : Next) (s w : ℕ) : Type 0 where
  pub own : s ≡ th.section
  pub as_known : w ≡ own_word th
  pub monitor : ℕ
  pub exit : next ≡ Want (Exit monitor)
  pub last : without monitor th.held ≡ []

-- the own section was revoked, and is undone
pub record Undoes {S : Type 0} (th : ThreadState S) : Type 0 where
  pub seen : ℕ
  pub attempt : th.attempt ≡ Undoing seen
  pub undoing : IsUndoing th seen

-- the step has its cause; other steps than those on sections and of undoing need none
abbrev pub HasCause : {S : Type 0} → Code S → ThreadState S → Next → Step → Type 0
HasCause code th next (Pin s w level) = PinsOwn code th next s w level ⊎ PinsWriter th next s w level
HasCause code th next DrawSection = Opens th next
HasCause code th next (OpenSection s w) = Opens th next
HasCause code th next (OpenLevel s w) = OpensLevel th next s w
HasCause code th next (CloseLevel s w depth) = ClosesLevels th next s w depth
HasCause code th next (Revoke s w level) = Revokes th next s w level
HasCause code th next (Commit s w) = Commits th next s w
HasCause code th next (RestoreWord at old) = Undoes th
HasCause code th next (MarkUndone s w) = Undoes th
HasCause code th next step = Unit {0}
