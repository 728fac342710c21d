-- Turns of a thread on a table, one after another.
use Rattle.std.specs.Prelude.{◌≡◌, ◌≤◌, ◌<◌, ◌⊎◌, ℕ, zero, suc, Bool, true, false, List}
use Rattle.op_core.specs.ThreadCode.{Code}
use Rattle.thread_automaton.specs.ThreadState.{ThreadState}
use Rattle.thread_automaton.specs.NextMove.{next_move}
use Rattle.thread_moves.specs.Thread.{thread_of}
use Rattle.rollback_core.specs.Turn.{Turned}
use Rattle.rollback_core.specs.declared.turned.Turn.{Turn}
use Rattle.section_laws.specs.NextSteps.{step_made}
use Rattle.table_words.specs.declared.setup.Setup.{Setup}
use Rattle.table_words.specs.declared.setup.ThreadPart.{ThreadPart}
use Rattle.table_words.specs.declared.seat.TableSeat.{TableSeat}
use Rattle.table_words.specs.Setups.{setup_bounds}
use Rattle.table_words.specs.Views.{first_after}
use Rattle.table_hosts.specs.declared.tally.Pace.{Pace}

-- whether more turns of a slice follow one that came to this: not where the thread has ended, has met a limit or has to wait
abbrev pub more_follow : {C Pass : Type 0} → Turn C Pass → Bool
more_follow (Turn.Ended class) = false
more_follow (Turn.Spent limit) = false
more_follow (Turn.Blocked why) = false
more_follow turn = true

-- an idle turn makes a step, and doesn't count
abbrev pub is_idle : {C Pass : Type 0} → Turn C Pass → Bool
is_idle Turn.Probed = true
is_idle (Turn.Lost word) = true
is_idle (Turn.Blocked why) = true
is_idle turn = false

abbrev pub IsIdle : {C Pass : Type 0} → Turn C Pass → Type 0
IsIdle turn = is_idle turn ≡ true

-- whether more turns follow at this pace
abbrev pub goes_on : {C Pass : Type 0} → Pace → Turn C Pass → Bool
goes_on Pace.WhileFree turn = more_follow turn
goes_on Pace.WhileIdle turn = is_idle turn

module _ {C S : Type 0} (state : C → S) (saved : C → List S) (code : Code S) (k : Setup C) where
  -- By a turn that comes to this the thread th, whose seat has the parts v, is `next`. The part grows by the step of the turn with
  -- its answer, if the turn makes one.
  abbrev pub TakesTurn : ThreadState S → List (ThreadPart C) → ThreadState S → List (ThreadPart C) → Turn C (TableSeat C) → Type 0
  TakesTurn th v next w turn = Turned (thread_of state saved) code (setup_bounds k) th next
      (λ step a. w ≡ first_after v (step_made step a)) (λ step pass. Unit {0}) (w ≡ v) turn (next_move code (setup_bounds k) th)

  module _ (Is : Turn C (TableSeat C) → Type 0) where
    -- so it is by such a turn
    pub record TookTurn (th : ThreadState S) (v : List (ThreadPart C)) (next : ThreadState S) (w : List (ThreadPart C)) : Type 0 where
      pub turn : Turn C (TableSeat C)
      pub takes : TakesTurn th v next w turn
      pub is : Is turn

    -- so it is by n such turns, one after another
    abbrev pub TookTurns : ℕ → ThreadState S → List (ThreadPart C) → ThreadState S → List (ThreadPart C) → Type 0
    TookTurns zero th v next w = (next ≡ th) × (w ≡ v)
    TookTurns (suc n) th v next w = (last : ThreadState S) × (u : List (ThreadPart C)) × TookTurns n th v last u × TookTurn last u next w

  -- So it is by at most `most` turns: by `most`, by fewer where it is then over, or where at this pace none follow the last of them.
  pub record TookAtMost (pace : Pace) (most : ℕ) (th : ThreadState S) (v : List (ThreadPart C)) (next : ThreadState S) (w : List (ThreadPart C)) : Type 0 where
    pub turns : ℕ
    pub within : turns ≤ most
    pub last : ThreadState S
    pub parts : List (ThreadPart C)
    pub took : TookTurns (λ turn. goes_on pace turn ≡ true) turns th v last parts
    pub ends : ((next ≡ last) × (w ≡ parts) × ((turns ≡ most) ⊎ (next.over ≡ true)))
        ⊎ ((turns < most) × TookTurn (λ turn. goes_on pace turn ≡ false) last parts next w)
