-- The words that threads put back, by their places, and what is read once they are put back.
use Rattle.std.specs.Prelude.{◌≡◌, ◌%◌, ◌^◌, ℕ, Option, None, Some, List, [], ◌∷◌, map, nat_eq, unwrap_or, if◌then◌else◌}
use Rattle.std.specs.List.{range_with_len}
use Rattle.std.specs.Option.{option_or}
use Rattle.std.specs.HashMap.{get}
use Rattle.heap_words.specs.declared.areas.Area.TheVariants.{Object}
use Rattle.heap_words.specs.Words.{value_of, header_length}
use Rattle.op_core.specs.declared.MadeText.{MadeText}
use Rattle.write_log.specs.declared.Noted.{Noted}
use Rattle.step_port.specs.Words.{Words}
use Rattle.thread_automaton.specs.NextMove.{word_place}
use Rattle.word_texts.specs.declared.old_words.OldWords.{OldWords}

-- the word of a place, if there is one
abbrev pub old_at : OldWords → ℕ → Option ℕ
old_at x p = get nat_eq x.table p

abbrev pub noted_at : Noted → ℕ → Option ℕ
noted_at x p = if nat_eq x.at p then Some x.old else None

-- the word that a log, newest first, puts back at a place: the oldest one that is logged there
abbrev pub oldest_at : List Noted → ℕ → Option ℕ
oldest_at [] p = None
oldest_at (x ∷ log) p = option_or (oldest_at log p) (noted_at x p)

-- At each place the word is the oldest one of some thread, and where there is none no thread puts a word back. `back` are the
-- words that each thread puts back.
pub record AreOldest (back : ℕ → List Noted) (old : ℕ → Option ℕ) : Type 0 where
  pub some : (p v : ℕ) → old p ≡ Some v → (t : ℕ) × (oldest_at (back t) p ≡ Some v)
  pub none : (p : ℕ) → old p ≡ None → (t : ℕ) → oldest_at (back t) p ≡ None

-- the value of a word once old words are put back
abbrev pub value_then : (ℕ → Option ℕ) → Words → ℕ → ℕ
value_then old w p = value_of (unwrap_or (old p) (w (Object p)))

-- then unit number i of an array
abbrev pub unit_then : (ℕ → Option ℕ) → Words → ℕ → ℕ → ℕ
unit_then old w r i = value_then old w (word_place r i) % 2 ^ 16

-- and all its units
abbrev pub units_then : (ℕ → Option ℕ) → Words → ℕ → List ℕ
units_then old w r = map (unit_then old w r) (range_with_len 0 (header_length (w (Object r))))

abbrev pub AreUnitsThen : (ℕ → Option ℕ) → Words → MadeText → Type 0
AreUnitsThen old w text = text.units ≡ units_then old w text.at
