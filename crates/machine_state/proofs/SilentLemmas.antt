-- Silent steps that a thread makes from where it is.
use Rattle.std.proofs.Common.{◌≡◌, ℕ, zero, suc, ◌+◌, Option, Some, None, refl, sym, ◌∙◌, ap, subst, arith}
use Rattle.op_core.specs.ThreadCode.{Code, quiet_steps}
use Rattle.op_core.specs.OrdinaryState.{set_at, live}
use Rattle.machine_tables.specs.declared.threads.Standing.{Standing}
use Rattle.machine_tables.specs.declared.threads.Standing.TheVariants.{Live, Ended}
use Rattle.machine_tables.specs.declared.threads.Seat.{Seat}
use Rattle.machine_tables.specs.declared.threads.Threads.{Threads}
use Rattle.machine_tables.specs.Tables.{seat_at, waiting_of, standing_of, thread_in, waiting_state_in, silent_in, threads_in, waiting_in, silents_in, StandingRuns, SeatRuns, StandingOverflows, SeatOverflows}
use Rattle.machine_state.specs.declared.state.MachineState.{MachineState}
use Rattle.machine_state.specs.Machine.{Machine, machine_in, with_thread_at, RunsTo, RunsSilently, IsSilentTo, IsOutOfFrames}
use Rattle.machine_state.proofs.ChangeLemmas.{ThreadParts, Becomes, becomes_changed, is_kept}
use Rattle.machine_state.proofs.MachineLemmas.{with_threads}

-- a thread that makes a silent step is live before it and after it
record Ran {C S : Type 0} (code : Code S) (state : C → S) (n : ℕ) (x y : Option (Seat C)) : Type 0 where
  from : S
  behind : S
  begun : thread_in state x ≡ live from
  quiet : quiet_steps code n from ≡ Some behind
  becomes : Becomes state x y behind (silent_in x + n)

ran_seat : {C S : Type 0} (code : Code S) (state : C → S) (n : ℕ) (x y : Option (Seat C)) → SeatRuns code state (suc n) x y → Ran code state (suc n) x y
ran_seat {C} {S} code state n (Some x) (Some y) h = of x.standing y.standing refl refl h.standing
  where
    of : (a b : Standing C) → x.standing ≡ a → y.standing ≡ b → StandingRuns code state (suc n) a b → Ran code state (suc n) (Some x) (Some y)
    of (Live from) (Live behind) stood stands ran = record {
      from = state from;
      behind = state behind;
      begun = ap (standing_of state) stood;
      quiet = ran;
      becomes = record { thread = ap (standing_of state) stands; waiting = ap waiting_of h.waiting; silents = h.silent };
    }
    of (Live from) (Ended q) stood stands ran = absurd ran
    of (Ended p) (Live behind) stood stands ran = absurd ran
    of (Ended p) (Ended q) stood stands ran = let none : suc n ≡ 0 = ran.0 in absurd (omega (arith, none))
ran_seat code state n (Some x) None h = absurd h
ran_seat code state n None (Some y) h = absurd h
ran_seat code state n None None h = absurd (omega (arith, h))

-- no silent step leaves all as it was
record Same {C S : Type 0} (state : C → S) (x y : Option (Seat C)) : Type 0 where
  thread : thread_in state y ≡ thread_in state x
  waiting : waiting_state_in y ≡ waiting_state_in x
  silents : silent_in y ≡ silent_in x

same_standing : {C S : Type 0} (code : Code S) (state : C → S) (a b : Standing C) → StandingRuns code state 0 a b → standing_of state b ≡ standing_of state a
same_standing {C} {S} code state (Live from) (Live behind) ran = let same : state from ≡ state behind = cc in ap live (sym same)
same_standing code state (Live from) (Ended y) ran = absurd ran
same_standing code state (Ended x) (Live behind) ran = absurd ran
same_standing code state (Ended x) (Ended y) ran = ap (standing_of state) (ap Ended ran.1)

same_seat : {C S : Type 0} (code : Code S) (state : C → S) (x y : Option (Seat C)) → SeatRuns code state 0 x y → Same state x y
same_seat code state (Some x) (Some y) h = record {
  thread = same_standing code state x.standing y.standing h.standing;
  waiting = ap waiting_of h.waiting;
  silents = let is : y.silent ≡ x.silent + 0 = h.silent in omega (arith, is);
}
same_seat code state (Some x) None h = absurd h
same_seat code state None (Some y) h = absurd h
same_seat code state None None h = record { thread = refl; waiting = refl; silents = refl }

pub ran : {C S : Type 0} (code : Code S) (state : C → S) (m : MachineState C) (threads : Threads C) (t n : ℕ)
    → SeatRuns code state n (seat_at m.threads t) (seat_at threads t) → seat_at threads ≡ set_at (seat_at m.threads) t (seat_at threads t)
    → RunsSilently code (machine_in state m) t n (machine_in state (record m { threads = threads }))
ran code state m threads t zero runs changed =
    let f = seat_at m.threads in
    let g = seat_at threads in
    let same = same_seat code state (f t) (g t) runs in
    let parts : ThreadParts state g (threads_in state f) (waiting_in f) (silents_in f) = record {
      threads = is_kept (thread_in state) f g t (g t) changed same.thread;
      waiting = is_kept waiting_state_in f g t (g t) changed same.waiting;
      silents = is_kept silent_in f g t (g t) changed same.silents;
    } in
    with_threads state m threads parts
ran code state m threads t (suc n) runs changed =
    let h = ran_seat code state n (seat_at m.threads t) (seat_at threads t) runs in
    record {
      from = h.from;
      behind = h.behind;
      begun = h.begun;
      quiet = h.quiet;
      leads = with_threads state m threads (becomes_changed state (seat_at m.threads) (seat_at threads) t h.behind (silent_in (seat_at m.threads t) + suc n) changed h.becomes);
    }

-- one silent step is that of `advance`
pub silent_once : {S : Type 0} (code : Code S) (m new : Machine S) (t n : ℕ) → n ≡ 1 → RunsSilently code m t n new → IsSilentTo code m t new
silent_once {S} code m new t n is runs = of (subst (λ k. RunsSilently code m t k new) is runs)
  where
    of : RunsTo code m t 1 new → IsSilentTo code m t new
    of h = record { from = h.from; behind = h.behind; begun = h.begun; quiet = h.quiet; leads = h.leads ∙ ap (with_thread_at m t (live h.behind)) (omega arith) }

-- where the seat's step would make one frame too many, so would the thread's
pub overflows : {C S : Type 0} (code : Code S) (state : C → S) (m : MachineState C) (t : ℕ) → SeatOverflows code state (seat_at m.threads t) → IsOutOfFrames code (machine_in state m) t
overflows {C} {S} code state m t full = of (seat_at m.threads t) refl full
  where
    standing : (x : Standing C) → thread_in state (seat_at m.threads t) ≡ standing_of state x → StandingOverflows code state x → IsOutOfFrames code (machine_in state m) t
    standing (Live from) stood full = record { place = state from; begun = stood; silent = full.0; many = full.1 }
    standing (Ended x) stood full = absurd full

    of : (x : Option (Seat C)) → seat_at m.threads t ≡ x → SeatOverflows code state x → IsOutOfFrames code (machine_in state m) t
    of None is full = absurd full
    of (Some x) is full = standing x.standing (ap (thread_in state) is) full

-- seats that are as they were are a machine that is as it was
pub seats_same : {C S : Type 0} (state : C → S) (m : MachineState C) (threads : Threads C) → seat_at threads ≡ seat_at m.threads → machine_in state (record m { threads = threads }) ≡ machine_in state m
seats_same state m threads same = with_threads state m threads (record {
  threads = ap (threads_in state) same;
  waiting = ap waiting_in same;
  silents = ap silents_in same;
})
