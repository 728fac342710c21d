-- How what the events that are left have made goes on with each kind of step.
use Rattle.std.specs.Prelude.{◌≡◌, ◌≢◌, ◌≤◌, ◌<◌, ◌⊎◌, ℕ, suc, Bool, true, false, List, [], ◌∷◌, length, drop}
use Rattle.op_core.specs.OrdinaryState.{set_at, Monitor, free}
use Rattle.op_core.specs.InPlaceList.{owned_by}
use Rattle.heap_words.specs.Words.{value_of}
use Rattle.write_log.specs.declared.Noted.{Noted}
use Rattle.thread_automaton.specs.declared.Held.{Held}
use Rattle.thread_automaton.specs.ThreadState.{Mark, nth_or, no_mark, with_depth_of}
use Rattle.thread_automaton.specs.Changes.{without}
use Rattle.section_laws.specs.Settled.{to_undo, words_back, notes, Carries, Settled}
use Rattle.section_laws.specs.SettledMonitors.{is_held, depth_back, SettledMonitors}

-- ---- words of objects

-- a word is written by a thread that isn't to be undone, and nobody is to put the word back: the write is left
abbrev pub KeptWritesSettle : Type 0
KeptWritesSettle = (is_word : ℕ → Bool) (heap settled : ℕ → ℕ) (back : ℕ → List Noted) (own least : ℕ → ℕ)
    → Settled (λ p. is_word p ≡ true) heap settled back own least
    → (p w : ℕ) → ((t : ℕ) → notes p (back t) ≡ false)
    → Settled (λ p. is_word p ≡ true) (set_at heap p w) (set_at settled p (value_of w)) back own least

-- a word is written and logged by a thread that is to be undone: it will be put back, so what is settled stays
abbrev pub NotedWritesSettle : Type 0
NotedWritesSettle = (is_word : ℕ → Bool) (heap settled : ℕ → ℕ) (back : ℕ → List Noted) (own least : ℕ → ℕ)
    → Settled (λ p. is_word p ≡ true) heap settled back own least
    → (t p w : ℕ) → is_word p ≡ true → Carries (own t) (least t) w
    → ((u : ℕ) → u ≢ t → notes p (back u) ≡ false) → ((u q : ℕ) → notes q (back u) ≡ true → own t ≡ own u → t ≡ u)
    → Settled (λ p. is_word p ≡ true) (set_at heap p w) settled (set_at back t (record { at = p; old = heap p } ∷ back t)) own least

-- the word that a thread logged last is put back: what is settled stays
abbrev pub WordsPutBackSettle : Type 0
WordsPutBackSettle = (is_word : ℕ → Bool) (heap settled : ℕ → ℕ) (back : ℕ → List Noted) (own least : ℕ → ℕ)
    → Settled (λ p. is_word p ≡ true) heap settled back own least
    → (t : ℕ) (x : Noted) (rest : List Noted) → back t ≡ x ∷ rest
    → Settled (λ p. is_word p ≡ true) (set_at heap x.at x.old) settled (set_at back t rest) own least

-- ---- which words are to be put back

-- the same ones as a level is opened
abbrev pub OpenedLevelsPutBackTheSame : Type 0
OpenedLevelsPutBackTheSame = (doomed : ℕ → Bool) (k : ℕ) (levels : List ℕ) (silents : ℕ) (held : List Held) (marks : List Mark) (log : List Noted)
    → words_back (to_undo doomed (k ∷ levels)) (record { silents = silents; noted = length log; held = held } ∷ marks) log
    ≡ words_back (to_undo doomed levels) marks log

-- and as levels are closed that aren't to be undone, or are inside of the outermost one that is
abbrev pub ClosedLevelsPutBackTheSame : Type 0
ClosedLevelsPutBackTheSame = (doomed : ℕ → Bool) (j : ℕ) (levels : List ℕ) (marks : List Mark) (log : List Noted)
    → (to_undo doomed levels ≡ 0) ⊎ (j < to_undo doomed levels)
    → words_back (to_undo doomed (drop j levels)) (drop j marks) log ≡ words_back (to_undo doomed levels) marks log

-- none, once all is undone that is to be
abbrev pub UndoneLevelsPutBackNone : Type 0
UndoneLevelsPutBackNone = (doomed : ℕ → Bool) (levels : List ℕ) (marks : List Mark) (log : List Noted)
    → words_back (to_undo doomed (drop (to_undo doomed levels) levels)) marks log ≡ []

-- one more, as a word is logged where something is to be undone
abbrev pub NotedWordsArePutBack : Type 0
NotedWordsArePutBack = (n : ℕ) (marks : List Mark) (x : Noted) (log : List Noted) → (nth_or no_mark n marks).noted ≤ length log
    → words_back (suc n) marks (x ∷ log) ≡ x ∷ words_back (suc n) marks log

-- ---- monitors. Whatever becomes of one, the others stay.

abbrev pub OthersStay : ℕ → (ℕ → Monitor) → (ℕ → Monitor) → (ℕ → ℕ → ℕ) → (ℕ → ℕ → ℕ) → Type 0
OthersStay r settled settled' back back' = ((q : ℕ) → q ≢ r → settled' q ≡ settled q) × ((u q : ℕ) → q ≢ r → back' u q ≡ back u q)

-- a free monitor is taken
abbrev pub TakenMonitorsSettle : Type 0
TakenMonitorsSettle = (settled settled' : ℕ → Monitor) (held : ℕ → List Held) (back back' : ℕ → ℕ → ℕ) → SettledMonitors settled held back
    → (t : ℕ) (h : Held) → ((u : ℕ) → is_held h.object (held u) ≡ false)
    → OthersStay h.object settled settled' back back' → settled' h.object ≡ owned_by t (back' t h.object)
    → SettledMonitors settled' (set_at held t (h ∷ held t)) back'

-- one that is held gets another depth
abbrev pub DeepenedMonitorsSettle : Type 0
DeepenedMonitorsSettle = (settled settled' : ℕ → Monitor) (held : ℕ → List Held) (back back' : ℕ → ℕ → ℕ) → SettledMonitors settled held back
    → (t r depth : ℕ) → is_held r (held t) ≡ true
    → OthersStay r settled settled' back back' → settled' r ≡ owned_by t (back' t r)
    → SettledMonitors settled' (set_at held t (with_depth_of r depth (held t))) back'

-- one is released
abbrev pub ReleasedMonitorsSettle : Type 0
ReleasedMonitorsSettle = (settled settled' : ℕ → Monitor) (held : ℕ → List Held) (back back' : ℕ → ℕ → ℕ) → SettledMonitors settled held back
    → (t r : ℕ) → is_held r (held t) ≡ true
    → OthersStay r settled settled' back back' → settled' r ≡ free
    → SettledMonitors settled' (set_at held t (without r (held t))) back'

-- ---- how often each will be held

-- as often as before, as a level is opened
abbrev pub OpenedLevelsKeepDepths : Type 0
OpenedLevelsKeepDepths = (doomed : ℕ → Bool) (k : ℕ) (levels : List ℕ) (silents noted : ℕ) (marks : List Mark) (held : List Held) (r : ℕ)
    → depth_back (to_undo doomed (k ∷ levels)) (record { silents = silents; noted = noted; held = held } ∷ marks) held r
    ≡ depth_back (to_undo doomed levels) marks held r

-- and as levels are closed that aren't to be undone, or are inside of the outermost one that is
abbrev pub ClosedLevelsKeepDepths : Type 0
ClosedLevelsKeepDepths = (doomed : ℕ → Bool) (j : ℕ) (levels : List ℕ) (marks : List Mark) (held : List Held) (r : ℕ)
    → (to_undo doomed levels ≡ 0) ⊎ (j < to_undo doomed levels)
    → depth_back (to_undo doomed (drop j levels)) (drop j marks) held r ≡ depth_back (to_undo doomed levels) marks held r
