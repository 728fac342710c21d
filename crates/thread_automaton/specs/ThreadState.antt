-- The state of a thread: how far it is, and what it alone knows of its section.
use Rattle.std.specs.Prelude.{ℕ, ◌-◌, Bool, false, ◌&&◌, List, [], ◌∷◌, length, take, filter, get_or, nat_lt, nat_eq, nat_le, if◌then◌else◌}
use Rattle.op_core.specs.declared.Line.{Line}
use Rattle.section_state.specs.declared.State.TheVariants.{Live}
use Rattle.section_state.specs.SectionWord.{number_of, section_word}
use Rattle.write_log.specs.declared.Noted.{Noted}
use Rattle.thread_automaton.specs.declared.Held.{Held}
use Rattle.thread_automaton.specs.declared.Attempt.{Attempt}
use Rattle.thread_automaton.specs.declared.Attempt.TheVariants.{Begin}

-- a printed line, with the ticket that says its place among those of all threads
pub record Printed : Type 0 where
  pub ticket : ℕ
  pub line : Line

-- beside a save: how the thread was as the level opened
pub record Mark : Type 0 where
  -- the silent moves since the last event that others can see
  pub silents : ℕ
  -- how many words were logged
  pub noted : ℕ
  -- the monitors that were held
  pub held : List Held

-- In each list the newest comes first.
pub record ThreadState (S : Type 0) : Type 0 where
  -- from 1
  pub number : ℕ
  -- 1 to 10 in Java
  pub priority : ℕ
  -- the local state of its code
  pub local : S
  -- the local states to which undoing goes back: those of the innermost levels that are open, one each
  pub saved : List S
  -- and a mark beside each of them
  pub marks : List Mark
  -- the section that is open, or 0
  pub section : ℕ
  -- how many of its levels are open: 1 at least, and 0 without a section
  pub levels : ℕ
  -- to which depth the section was seen pinned
  pub pinned : ℕ
  -- the section that was last seen committed, or pinned deep enough, as the one that had written a word, or 0
  pub known : ℕ
  -- and how deep: words that were written at this level of it, or further out, are safe
  pub known_depth : ℕ
  -- the words that it has overwritten since the level of its first save opened, as they were
  pub log : List Noted
  -- the monitors that it holds
  pub held : List Held
  -- how often it had entered the monitor that a wait gave up, 0 where it isn't waiting
  pub depth : ℕ
  -- and the level of that monitor
  pub level : ℕ
  -- its counted turns
  pub counted : ℕ
  -- its silent moves since its last event that others can see
  pub silents : ℕ
  -- what it printed
  pub lines : List Printed
  -- it has ended
  pub over : Bool
  pub attempt : Attempt

-- a thread of this number and priority that begins at a local state
abbrev pub first_state : {S : Type 0} → ℕ → ℕ → S → ThreadState S
first_state number priority l = record {
  number = number;
  priority = priority;
  local = l;
  saved = [];
  marks = [];
  section = 0;
  levels = 0;
  pinned = 0;
  known = 0;
  known_depth = 0;
  log = [];
  held = [];
  depth = 0;
  level = 1;
  counted = 0;
  silents = 0;
  lines = [];
  over = false;
  attempt = Begin;
}

-- a level is open that it hasn't seen pinned: so a level may have been revoked
abbrev pub is_open : {S : Type 0} → ThreadState S → Bool
is_open th = nat_lt th.pinned th.levels

-- the section is the own one
abbrev pub is_own_section : {S : Type 0} → ThreadState S → ℕ → Bool
is_own_section th s = nat_lt 0 th.section && nat_eq s th.section

-- the word of its section, live, as it last knew it
abbrev pub own_word : {S : Type 0} → ThreadState S → ℕ
own_word th = section_word (number_of Live) th.number th.priority th.pinned th.levels 0

-- the word with which its section opens: one level is open, and none is pinned
abbrev pub opening_word : {S : Type 0} → ThreadState S → ℕ
opening_word th = section_word (number_of Live) th.number th.priority 0 1 0

-- ---- levels. Level n of a section is the n-th that is open; the lists of saves, of marks and of open levels have the
-- innermost first.

-- how many levels are inside of level n
abbrev pub inside : {S : Type 0} → ThreadState S → ℕ → ℕ
inside th n = th.levels - n

-- number k of a list, or x where the list is shorter
abbrev pub nth_or : {A : Type 0} → A → ℕ → List A → A
nth_or x k items = get_or items k x

abbrev pub no_mark : Mark
no_mark = record { silents = 0; noted = 0; held = [] }

-- how it was as level n opened
abbrev pub mark_of : {S : Type 0} → ThreadState S → ℕ → Mark
mark_of th n = nth_or no_mark (inside th n) th.marks

-- the words that were logged after the first n
abbrev pub noted_since : ℕ → List Noted → List Noted
noted_since n log = take (length log - n) log

-- ---- monitors that are held

-- the monitor of r among those that are held; where it isn't, with depth 0
abbrev pub held_as : ℕ → List Held → Held
held_as r [] = record { object = r; level = 1; depth = 0 }
held_as r (h ∷ held) = if nat_eq h.object r then h else held_as r held

-- those that are held with the monitor of r at another depth
abbrev pub with_depth_of : ℕ → ℕ → List Held → List Held
with_depth_of r depth [] = []
with_depth_of r depth (h ∷ held) = (if nat_eq h.object r then record h { depth = depth } else h) ∷ with_depth_of r depth held

-- those that were taken at this level or further inside
abbrev pub from_level : ℕ → List Held → List Held
from_level n held = filter (λ h. nat_le n h.level) held

-- the greatest level among them, 0 where none is held
abbrev pub highest : List Held → ℕ
highest [] = 0
highest (h ∷ held) = if nat_lt (highest held) h.level then h.level else highest held
