-- Silent turns of a thread, one after another.
use Rattle.std.specs.Prelude.{◌≡◌, ℕ, zero, suc, ◌+◌, ◌≤◌, false, Some}
use Rattle.op_core.specs.ThreadCode.{Code, quiet_step}
use Rattle.thread_automaton.specs.declared.Attempt.{Attempt}
use Rattle.thread_automaton.specs.declared.Attempt.TheVariants.{Begin, Checked}
use Rattle.thread_automaton.specs.declared.Bounds.{Bounds}
use Rattle.thread_automaton.specs.declared.Move.TheVariants.{Quiet}
use Rattle.thread_automaton.specs.ThreadState.{ThreadState}
use Rattle.thread_automaton.specs.NextMove.{next_move}
use Rattle.thread_automaton.specs.Told.{after_quiet}
use Rattle.thread_moves.specs.declared.thread.Own.{Own}

-- a silent step of its code comes next, and the thread makes it
pub record IsQuietTurn {S : Type 0} (code : Code S) (b : Bounds) (th next : ThreadState S) : Type 0 where
  pub moves : next_move code b th ≡ Quiet
  pub local : S
  pub quiet : quiet_step code th.local ≡ Some local
  pub goes : next ≡ after_quiet th local

-- n such turns lead the thread there
abbrev pub QuietTurns : {S : Type 0} → Code S → Bounds → ℕ → ThreadState S → ThreadState S → Type 0
QuietTurns code b zero th last = last ≡ th
QuietTurns {S} code b (suc n) th last = (before : ThreadState S) × QuietTurns code b n th before × IsQuietTurn code b before last

-- with this attempt a silent step of the code needs no step before it
abbrev pub StartsQuiet : Attempt → Type 0
StartsQuiet Begin = Unit {0}
StartsQuiet Checked = Unit {0}
StartsQuiet attempt = ⊥

-- it may make n silent turns, if its code has as many silent steps that leave no save
pub record MayBeQuiet {S : Type 0} (b : Bounds) (th : ThreadState S) (n : ℕ) : Type 0 where
  pub lives : th.over ≡ false
  pub starts : StartsQuiet th.attempt
  pub left : th.counted + n ≤ b.limits.turns

-- what is kept of a thread after n silent turns
abbrev pub own_after : Own → ℕ → Own
own_after own zero = own
own_after own (suc n) = record own { attempt = Begin; counted = own.counted + suc n; silents = own.silents + suc n; last_kind = 0 }
