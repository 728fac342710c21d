-- What is kept of a thread beside its code, for hosts of that code.
use Rattle.std.specs.Prelude.{ℕ, zero, suc, ◌+◌, Bool, List, [], map, reverse, nat_lt}
use Rattle.thread_automaton.specs.declared.Attempt.{Attempt}
use Rattle.thread_automaton.specs.declared.Attempt.TheVariants.{Begin}
use Rattle.thread_automaton.specs.ThreadState.{ThreadState}
use Rattle.thread_automaton.specs.Checks.{is_safe, written_word}
use Rattle.thread_moves.specs.declared.thread.Own.{Own}
use Rattle.thread_moves.specs.Thread.{mark_meant, printed}

-- the thread of which this is kept, with an attempt, a local state and saves
abbrev pub thread_at : {S : Type 0} → Own → Attempt → S → List S → ThreadState S
thread_at own attempt l saves = record {
  number = own.number;
  priority = own.priority;
  local = l;
  saved = saves;
  marks = map mark_meant (reverse own.marks.items);
  section = own.section;
  levels = own.levels;
  pinned = own.pinned;
  known = own.known;
  known_depth = own.known_depth;
  log = own.log.noted;
  held = own.held.newest_first;
  depth = own.depth;
  level = own.level;
  counted = own.counted;
  silents = own.silents;
  lines = map printed own.lines.newest_first;
  over = own.over;
  attempt = attempt;
}

-- .. whatever its code
abbrev pub thread_of_own : Own → ThreadState (Unit {0})
thread_of_own own = thread_at own Begin tt []

-- the thread may read or overwrite this word of an object at once
abbrev pub is_safe_for : Own → ℕ → Bool
is_safe_for own w = is_safe (thread_of_own own) w

-- the word with this value that the thread writes
abbrev pub written_by : Own → ℕ → ℕ
written_by own v = written_word (thread_of_own own) v

-- a level is open that the thread hasn't seen pinned
abbrev pub has_unseen_level : Own → Bool
has_unseen_level own = nat_lt own.pinned own.levels

-- what is kept of a thread once it has made n silent turns
abbrev pub own_quiet : Own → ℕ → Own
own_quiet own zero = own
own_quiet own (suc n) = record own { counted = own.counted + suc n; silents = own.silents + suc n; last_kind = 0 }

-- what is kept once a turn with an event is counted whose step has this kind
abbrev pub own_counted : Own → ℕ → Own
own_counted own kind = record own { counted = suc own.counted; silents = 0; last_kind = kind }
