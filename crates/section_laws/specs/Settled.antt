-- What the events that are left have made of each word of an object.
use Rattle.std.specs.Prelude.{◌≡◌, ◌≤◌, ℕ, zero, suc, Bool, true, false, ◌||◌, List, [], ◌∷◌, nat_eq, if◌then◌else◌}
use Rattle.op_core.specs.OrdinaryState.{set_at}
use Rattle.heap_words.specs.Words.{value_of, tag_of, tag_section, tag_level}
use Rattle.write_log.specs.declared.Noted.{Noted}
use Rattle.thread_automaton.specs.ThreadState.{Mark, nth_or, no_mark, noted_since}

-- ---- which levels are to be undone: `doomed` says at which places they are revoked, sooner or later

-- inside of a level that is to be undone all are
abbrev pub count_more : Bool → ℕ → ℕ
count_more is_doomed zero = if is_doomed then 1 else 0
count_more is_doomed (suc n) = suc (suc n)

-- how many of the open levels are to be undone: all from the outermost one that is doomed on
abbrev pub to_undo : (ℕ → Bool) → List ℕ → ℕ
to_undo doomed [] = 0
to_undo doomed (p ∷ levels) = count_more (doomed p) (to_undo doomed levels)

-- the words that are then put back, where this number of levels is to be undone
abbrev pub words_back : ℕ → List Mark → List Noted → List Noted
words_back zero marks log = []
words_back (suc n) marks log = noted_since (nth_or no_mark n marks).noted log

-- ---- words

-- the words once a log, newest first, is put back
abbrev pub replay : List Noted → (ℕ → ℕ) → ℕ → ℕ
replay [] heap = heap
replay (x ∷ log) heap = replay log (set_at heap x.at x.old)

abbrev pub notes : ℕ → List Noted → Bool
notes p [] = false
notes p (x ∷ log) = nat_eq x.at p || notes p log

-- the section has written the word, at this level or further inside
abbrev pub Carries : ℕ → ℕ → ℕ → Type 0
Carries s n word = (tag_section (tag_of word) ≡ s) × (n ≤ tag_level (tag_of word))

-- a place that is logged again was the section's own then
abbrev pub AreNotedAgain : ℕ → ℕ → List Noted → Type 0
AreNotedAgain s n [] = Unit {0}
AreNotedAgain s n (x ∷ log) = (notes x.at log ≡ true → Carries s n x.old) × AreNotedAgain s n log

-- At each place of a word `settled` is the value that the events which are left have made. `back` are the words that each
-- thread puts back, `own` is its section, and `least` the outermost level that it undoes.
pub record Settled (IsWord : ℕ → Type 0) (heap settled : ℕ → ℕ) (back : ℕ → List Noted) (own least : ℕ → ℕ) : Type 0 where
  pub stands : (p : ℕ) → IsWord p → ((t : ℕ) → notes p (back t) ≡ false) → settled p ≡ value_of (heap p)
  pub put_back : (t p : ℕ) → notes p (back t) ≡ true → settled p ≡ value_of (replay (back t) heap p)
  pub words : (t p : ℕ) → notes p (back t) ≡ true → IsWord p
  pub carries : (t p : ℕ) → notes p (back t) ≡ true → Carries (own t) (least t) (heap p)
  pub again : (t : ℕ) → AreNotedAgain (own t) (least t) (back t)
  pub apart : (t u p q : ℕ) → notes p (back t) ≡ true → notes q (back u) ≡ true → own t ≡ own u → t ≡ u
