-- Which thread of the definitions a thread in memory is.
use Rattle.std.specs.Prelude.{◌≡◌, ℕ, ◌≤◌, ◌<◌, ◌^◌, Option, None, Some, IfSome, List, [], ◌∷◌, length, map, reverse, drop, vec_len, vec_capacity}
use Rattle.op_core.specs.declared.Op.TheVariants.{Read, Write, New}
use Rattle.op_core.specs.declared.Next.{Next}
use Rattle.op_core.specs.declared.Next.TheVariants.{Want}
use Rattle.op_core.specs.ThreadCode.{Code}
use Rattle.thread_automaton.specs.declared.Move.{Move}
use Rattle.thread_automaton.specs.declared.Move.TheVariants.{Quiet, Make}
use Rattle.thread_automaton.specs.ThreadState.{ThreadState, Mark, Printed}
use Rattle.thread_automaton.specs.NextMove.{word_place, words_asked}
use Rattle.thread_moves.specs.declared.thread.PrintedLine.{PrintedLine}
use Rattle.thread_moves.specs.declared.mark.SavedMark.{SavedMark}
use Rattle.thread_moves.specs.declared.thread.JThread.{JThread}

abbrev pub printed : PrintedLine → Printed
printed x = record { ticket = x.ticket; line = x.line }

abbrev pub mark_meant : SavedMark → Mark
mark_meant x = record { silents = x.silents; noted = x.noted; held = reverse x.held.items }

-- While a level is about to open, its save is on top of those of the code and isn't one of the thread's yet.
abbrev pub without_opening : {S : Type 0} → Option SavedMark → List S → List S
without_opening None saved = saved
without_opening (Some mark) saved = drop 1 saved

-- Its local state and the saved ones are those of its code.
abbrev pub thread_of : {C S : Type 0} → (C → S) → (C → List S) → JThread C → ThreadState S
thread_of state saved x = record {
  number = x.own.number;
  priority = x.own.priority;
  local = state x.code;
  saved = without_opening x.own.opening (saved x.code);
  marks = map mark_meant (reverse x.own.marks.items);
  section = x.own.section;
  levels = x.own.levels;
  pinned = x.own.pinned;
  known = x.own.known;
  known_depth = x.own.known_depth;
  log = x.own.log.noted;
  held = x.own.held.newest_first;
  depth = x.own.depth;
  level = x.own.level;
  counted = x.own.counted;
  silents = x.own.silents;
  lines = map printed x.own.lines.newest_first;
  over = x.own.over;
  attempt = x.own.attempt;
}

-- no level is about to open, and each save has a mark
pub record Saves {C S : Type 0} (saved : C → List S) (x : JThread C) : Type 0 where
  pub settled : x.own.opening ≡ None
  pub same : length (saved x.code) ≡ length x.own.marks.items

-- The level that is about to open has this mark and its save, and there is room for the mark.
pub record OpensWith {C S : Type 0} (state : C → S) (saved : C → List S) (x : JThread C) (mark : SavedMark) : Type 0 where
  pub meant : mark_meant mark ≡ record { silents = x.own.silents; noted = length x.own.log.noted; held = x.own.held.newest_first }
  pub save : saved x.code ≡ state x.code ∷ drop 1 (saved x.code)
  pub room : vec_len x.own.marks < vec_capacity x.own.marks

-- each save has its mark, that of a level that is about to open too
pub record IsReady {C S : Type 0} (state : C → S) (saved : C → List S) (x : JThread C) : Type 0 where
  pub opening : IfSome x.own.opening (OpensWith state saved x)
  pub same : length (without_opening x.own.opening (saved x.code)) ≡ length x.own.marks.items

-- what the thread wants can be asked for: the place of the word, and the count of the words of a new object
abbrev pub CanBeAsked : {S : Type 0} → Code S → S → Next → Type 0
CanBeAsked code l (Want (Read r i)) = word_place r i < 2 ^ 32
CanBeAsked code l (Want (Write r i v)) = word_place r i < 2 ^ 32
CanBeAsked code l (Want (New c n)) = words_asked code l c n < 2 ^ 64
CanBeAsked code l next = Unit {0}

-- each is at most n
abbrev pub AreAtMost : ℕ → List ℕ → Type 0
AreAtMost n [] = Unit {0}
AreAtMost n (m ∷ ms) = (m ≤ n) × AreAtMost n ms

-- silent moves are counted turns, those of the marks too
pub record AreCounted {S : Type 0} (th : ThreadState S) : Type 0 where
  pub silents : th.silents ≤ th.counted
  pub marks : AreAtMost th.counted (map (λ (m : Mark). m.silents) th.marks)

-- a move with which the thread goes on
abbrev pub GoesOn : Move → Type 0
GoesOn Quiet = Unit {0}
GoesOn (Make step) = Unit {0}
GoesOn move = ⊥
