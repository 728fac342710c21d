-- What the events that are left have made of each monitor.
use Rattle.std.specs.Prelude.{◌≡◌, ℕ, zero, suc, Bool, true, false, ◌||◌, List, [], ◌∷◌, nat_eq}
use Rattle.op_core.specs.OrdinaryState.{Monitor, free}
use Rattle.op_core.specs.InPlaceList.{owned_by}
use Rattle.thread_automaton.specs.declared.Held.{Held}
use Rattle.thread_automaton.specs.ThreadState.{Mark, nth_or, no_mark, held_as}

-- the monitor of r is held
abbrev pub is_held : ℕ → List Held → Bool
is_held r [] = false
is_held r (h ∷ held) = nat_eq h.object r || is_held r held

-- how often the monitor of r is held once this number of levels is undone: as often as the outermost of them found it
abbrev pub depth_back : ℕ → List Mark → List Held → ℕ → ℕ
depth_back zero marks held r = (held_as r held).depth
depth_back (suc n) marks held r = (held_as r (nth_or no_mark n marks).held).depth

-- `held` are the monitors that each thread holds, and `back` says how often it holds each once it has undone what it is to
-- undo. `settled` is the monitor as the events that are left have made it.
pub record SettledMonitors (settled : ℕ → Monitor) (held : ℕ → List Held) (back : ℕ → ℕ → ℕ) : Type 0 where
  pub holds : (t r : ℕ) → is_held r (held t) ≡ true → settled r ≡ owned_by t (back t r)
  pub is_free : (r : ℕ) → ((t : ℕ) → is_held r (held t) ≡ false) → settled r ≡ free
  pub apart : (t u r : ℕ) → is_held r (held t) ≡ true → is_held r (held u) ≡ true → t ≡ u
