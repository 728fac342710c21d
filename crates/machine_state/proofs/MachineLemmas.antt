-- Changes of the machine, from those of its tables.
use Rattle.std.proofs.Common.{◌≡◌, ℕ, Option, Some, None, IfSome, refl, ◌∙◌, ap}
use Rattle.std.specs.Option.{option_map}
use Rattle.op_core.specs.OrdinaryState.{set_at, Object, Monitor, Waiting, Thread}
use Rattle.machine_tables.specs.declared.objects.Objects.{Objects}
use Rattle.machine_tables.specs.declared.threads.Standing.{Standing}
use Rattle.machine_tables.specs.declared.threads.Seat.{Seat}
use Rattle.machine_tables.specs.declared.threads.Threads.{Threads}
use Rattle.machine_state.specs.declared.state.MachineState.{MachineState}
use Rattle.machine_tables.specs.Tables.{object_at, seat_at, standing_of, silents_in}
use Rattle.machine_state.specs.Machine.{machine_in, with_thread_at}
use Rattle.machine_state.proofs.ChangeLemmas.{Parts, ThreadParts, standing_changed}

pub with_objects : {C S : Type 0} (state : C → S) (m : MachineState C) (objects : Objects)
    {a : ℕ → Option Object} {b : ℕ → ℕ → ℕ} {c : ℕ → Monitor} {d : ℕ → ℕ} → Parts (object_at objects) a b c d
    → machine_in state (record m { objects = objects }) ≡ record (machine_in state m) { now = record (machine_in state m).now { objects = a; words = b; monitors = c; starts = d } }
with_objects state m objects parts = λ i. record (machine_in state m) {
  now = record (machine_in state m).now { objects = parts.objects i; words = parts.words i; monitors = parts.monitors i; starts = parts.starts i };
}

pub with_threads : {C S : Type 0} (state : C → S) (m : MachineState C) (threads : Threads C)
    {a : ℕ → Thread S} {b : ℕ → Waiting} {c : ℕ → ℕ} → ThreadParts state (seat_at threads) a b c
    → machine_in state (record m { threads = threads }) ≡ record (machine_in state m) { now = record (machine_in state m).now { threads = a; waiting = b }; silents = c }
with_threads state m threads parts = λ i. record (machine_in state m) {
  now = record (machine_in state m).now { threads = parts.threads i; waiting = parts.waiting i };
  silents = parts.silents i;
}

-- A thread that was put elsewhere.
pub swapped : {C S : Type 0} (state : C → S) (m : MachineState C) (threads : Threads C) (t : ℕ) (standing : Standing C) (result : Option (Standing C))
    → result ≡ option_map (λ (x : Seat C). x.standing) (seat_at m.threads t)
    → ((x : Seat C) → seat_at m.threads t ≡ Some x → seat_at threads ≡ set_at (seat_at m.threads) t (Some (record x { standing = standing })))
    → IfSome result (λ _. machine_in state (record m { threads = threads }) ≡ with_thread_at (machine_in state m) t (standing_of state standing) (silents_in (seat_at m.threads) t))
swapped {C} {S} state m threads t standing result is changes = of (seat_at m.threads t) refl result is
  where
    of : (o : Option (Seat C)) → seat_at m.threads t ≡ o → (r : Option (Standing C)) → r ≡ option_map (λ (x : Seat C). x.standing) (seat_at m.threads t)
        → IfSome r (λ _. machine_in state (record m { threads = threads }) ≡ with_thread_at (machine_in state m) t (standing_of state standing) (silents_in (seat_at m.threads) t))
    of o here None gives = tt
    of None here (Some s) gives = let none : Some s ≡ None = gives ∙ ap (option_map (λ (x : Seat C). x.standing)) here in cc
    of (Some x) here (Some s) gives = with_threads state m threads (standing_changed state (seat_at m.threads) (seat_at threads) t standing x here (changes x here))
