-- Where a thread is that is a host of its own code.
use Rattle.std.specs.Prelude.{◌≡◌, ℕ, ◌+◌, ◌-◌, ◌≤◌, min, false}
use Rattle.thread_automaton.specs.declared.Attempt.TheVariants.{Begin}
use Rattle.thread_moves.specs.declared.thread.Own.{Own}
use Rattle.turn_runs.specs.Own.{own_quiet}

-- what is kept of a thread, its port, and how many turns it may still have
pub record HostPlace (P : Type 0) : Type 0 where
  pub own : Own
  pub port : P
  pub left : ℕ

-- the thread goes on, nothing of its next attempt is made, and its silent moves are counted turns
pub record IsBetween (own : Own) : Type 0 where
  pub begins : own.attempt ≡ Begin
  pub lives : own.over ≡ false
  pub counts : own.silents ≤ own.counted

-- how many silent turns it may make
abbrev pub silent_room : {P : Type 0} → HostPlace P → ℕ
silent_room h = min h.left (h.own.bounds.limits.turns - h.own.counted)

-- it made n silent turns
pub record HostPasses {P : Type 0} (h : HostPlace P) (n : ℕ) (k : HostPlace P) : Type 0 where
  pub room : n ≤ silent_room h
  pub left : h.left ≡ k.left + n
  pub port : k.port ≡ h.port
  pub own : IsBetween h.own → k.own ≡ own_quiet h.own n
