-- Threads by their numbers.
use Rattle.std.specs.Prelude.{ℕ, Option, None, List, slice_get, unwrap_or}

-- the thread of a number, if one was handed out with it
abbrev pub seat_in : {A : Type 0} → List (Option A) → ℕ → Option A
seat_in places t = unwrap_or (slice_get places t) None
